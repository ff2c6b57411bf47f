-- The statuses of the ends of `pqcat`.
use Rattle.std.specs.Prelude.{◌≡◌, ℕ, Option, Some, None}
use Rattle.ldm_outside.specs.Io.{SinkRecord}
use Rattle.ldm_gather.specs.declared.each_end.EachEnd.{EachEnd}
use Rattle.ldm_gather.specs.declared.each_end.EachEnd.TheVariants.{NotMade, Unreached, Received, Enough, Stopped}
use Rattle.ldm_gather.specs.declared.taker.EachStop.{EachStop}
use Rattle.ldm_gather.specs.declared.taker.EachStop.TheVariants.{ByTaker, LogFault, Worn}
use Rattle.ldm_gather.specs.Statuses.{status_of_queue, status_of_receiving}
use Rattle.ldm_status.specs.declared.status.Status.{Status}
use Rattle.ldm_status.specs.declared.status.Status.TheVariants as status
use Rattle.ldm_status.specs.declared.status.TheConstants.{LOG_FAULT}
use Rattle.ldm_status.specs.Status.{ReportsBecause}

-- ---- there is none where the log failed

-- what stops the writing of a body is the sink
abbrev pub stop_status : EachStop → Option Status
stop_status ByTaker = Some status.SinkFault
stop_status LogFault = None
stop_status Worn = Some status.Worn

abbrev pub status_of : EachEnd → Option Status
status_of (NotMade fault) = Some (status_of_queue fault)
status_of Unreached = Some status.NetFault
status_of (Received end) = status_of_receiving end
status_of Enough = Some status.Done
status_of (Stopped why) = stop_status why

-- The number that ends the program, and what the log took: the status and its line; or 76 and nothing, where the log failed before.
abbrev pub ReportsIf : Option Status → ℕ → SinkRecord → SinkRecord → Type 0
ReportsIf None code old new = (code ≡ LOG_FAULT) × (new ≡ old)
ReportsIf (Some it) code old new = ReportsBecause it code old new
