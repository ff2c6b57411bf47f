-- The statuses of the ends of `pqstats`.
use Rattle.std.specs.Prelude.{◌≡◌, ℕ, Option, Some, None, true, false}
use Rattle.ldm_outside.specs.Io.{SinkRecord}
use Rattle.ldm_gather.specs.declared.each_end.EachEnd.{EachEnd}
use Rattle.ldm_gather.specs.declared.each_end.EachEnd.TheVariants as each_end
use Rattle.ldm_gather.specs.declared.taker.EachStop.TheVariants as each_stop
use Rattle.ldm_gather.specs.Statuses.{status_of_queue, status_of_receiving}
use Rattle.ldm_status.specs.declared.status.Status.{Status}
use Rattle.ldm_status.specs.declared.status.Status.TheVariants as status
use Rattle.ldm_status.specs.declared.status.TheConstants.{LOG_FAULT}
use Rattle.ldm_status.specs.Status.{ReportsBecause}
use Rattle.ldm_tools.specs.Telling.{status_of_put_fault}
use Rattle.ldm_pqstats.specs.declared.counter.CountStop.{CountStop}
use Rattle.ldm_pqstats.specs.declared.counter.CountStop.TheVariants as stop
use Rattle.ldm_pqstats.specs.declared.end.ReportFault.{ReportFault}
use Rattle.ldm_pqstats.specs.declared.end.ReportFault.TheVariants as report_fault
use Rattle.ldm_pqstats.specs.declared.end.SendFault.{SendFault}
use Rattle.ldm_pqstats.specs.declared.end.SendFault.TheVariants as send_fault
use Rattle.ldm_pqstats.specs.declared.end.StatsEnd.{StatsEnd}
use Rattle.ldm_pqstats.specs.declared.end.StatsEnd.TheVariants.{Gathered, NotCounted, NotReported, Limited, Told, NotSent}

-- ---- there is none where the log failed

-- a counter that stopped has an end of its own
abbrev pub each_status : EachEnd → Option Status
each_status (each_end.NotMade fault) = Some (status_of_queue fault)
each_status each_end.Unreached = Some status.NetFault
each_status (each_end.Received end) = status_of_receiving end
each_status each_end.Enough = Some status.Done
each_status (each_end.Stopped each_stop.ByTaker) = Some status.NoMemory
each_status (each_end.Stopped each_stop.LogFault) = None
each_status (each_end.Stopped each_stop.Worn) = Some status.Worn

abbrev pub count_status : CountStop → Status
count_status stop.TooMany = status.StreamLimit
count_status stop.OutOfMemory = status.NoMemory

abbrev pub report_status : ReportFault → Status
report_status report_fault.OutOfMemory = status.NoMemory
report_status report_fault.SinkFault = status.SinkFault

abbrev pub send_status : SendFault → Status
send_status send_fault.Unreached = status.NetFault
send_status send_fault.OutOfMemory = status.NoMemory
send_status send_fault.TooLong = status.StreamLimit
send_status (send_fault.Put why) = status_of_put_fault why

abbrev pub status_of : StatsEnd → Option Status
status_of (Gathered end) = each_status end
status_of (NotCounted why) = Some (count_status why)
status_of (NotReported why) = Some (report_status why)
status_of Limited = Some status.StreamLimit
status_of (Told true) = Some status.Refused
status_of (Told false) = Some status.Done
status_of (NotSent why) = Some (send_status why)

-- The number that ends the program, and what the log took: the status and its line; or 76 and nothing, where the log failed before.
abbrev pub ReportsIf : Option Status → ℕ → SinkRecord → SinkRecord → Type 0
ReportsIf None code old new = (code ≡ LOG_FAULT) × (new ≡ old)
ReportsIf (Some it) code old new = ReportsBecause it code old new
