-- The statuses of the ends of `pqact`.
use Rattle.std.specs.Prelude.{◌≡◌, ℕ, Option, Some, None}
use Rattle.ldm_outside.specs.Io.{SinkRecord}
use Rattle.ldm_actions.specs.declared.answers.Done.{Done}
use Rattle.ldm_actions.specs.declared.answers.Done.TheVariants as done
use Rattle.ldm_intake.specs.declared.end.RecvEnd.{RecvEnd}
use Rattle.ldm_intake.specs.declared.end.RecvEnd.TheVariants as recv_end
use Rattle.ldm_gather.specs.declared.end.GatherEnd.{GatherEnd}
use Rattle.ldm_gather.specs.declared.end.GatherEnd.TheVariants as gather_end
use Rattle.ldm_gather.specs.Statuses.{status_of_queue, status_of_receiving}
use Rattle.ldm_command_files.specs.PqactFiles.{status_of_entries}
use Rattle.ldm_status.specs.declared.status.Status.{Status}
use Rattle.ldm_status.specs.declared.status.Status.TheVariants as status
use Rattle.ldm_status.specs.declared.status.TheConstants.{LOG_FAULT}
use Rattle.ldm_status.specs.Status.{ReportsBecause}
use Rattle.ldm_pqact_command.specs.State.{status_of_state}
use Rattle.ldm_pqact_command.specs.declared.end.PqactEnd.{PqactEnd}
use Rattle.ldm_pqact_command.specs.declared.end.PqactEnd.TheVariants.{NotTaken, NotResumed, NotMade, Unreached, Received, Enough, Stopped}
use Rattle.ldm_pqact_command.specs.declared.stop.ActStop.{ActStop}
use Rattle.ldm_pqact_command.specs.declared.stop.ActStop.TheVariants as stop

-- a fact where the handler stopped
abbrev pub IfStopped : GatherEnd → Type 0 → Type 0
IfStopped (gather_end.Received end) P = Unit {0}
IfStopped gather_end.Enough P = Unit {0}
IfStopped gather_end.Stopped P = P

-- an end at which all went well, but for what the closing of the outputs answered
abbrev pub after_closing : PqactEnd → Done → PqactEnd
after_closing end done.Ok = end
after_closing end done.StoreFault = Stopped stop.StoreFault
after_closing end done.LaunchFault = Stopped stop.LaunchFault

-- the closing counts where the stream came to its end behind a record
abbrev pub received_end : RecvEnd → Done → PqactEnd
received_end recv_end.Ended closed = after_closing (Received recv_end.Ended) closed
received_end end closed = Received end

-- how it ends, by how the gathering ended, why the handler stopped, and what the closing of the outputs answered
abbrev pub IsEndOf : PqactEnd → GatherEnd → Option ActStop → Done → Type 0
IsEndOf end (gather_end.Received received) why closed = end ≡ received_end received closed
IsEndOf end gather_end.Enough why closed = end ≡ after_closing Enough closed
IsEndOf end gather_end.Stopped why closed = (cause : ActStop) × (why ≡ Some cause) × (end ≡ Stopped cause)

-- ---- statuses; there is none where the log failed

abbrev pub stop_status : ActStop → Option Status
stop_status stop.StoreFault = Some status.StoreFault
stop_status stop.LaunchFault = Some status.ChildFault
stop_status stop.LogFault = None
stop_status stop.Worn = Some status.Worn
stop_status stop.OutOfMemory = Some status.NoMemory

abbrev pub status_of : PqactEnd → Option Status
status_of (NotTaken why) = Some (status_of_entries why)
status_of (NotResumed why) = Some (status_of_state why)
status_of (NotMade fault) = Some (status_of_queue fault)
status_of Unreached = Some status.NetFault
status_of (Received end) = status_of_receiving end
status_of Enough = Some status.Done
status_of (Stopped why) = stop_status why

-- The number that ends the program, and what the log took: the status and its line; or 76 and nothing, where the log failed before.
abbrev pub ReportsIf : Option Status → ℕ → SinkRecord → SinkRecord → Type 0
ReportsIf None code old new = (code ≡ LOG_FAULT) × (new ≡ old)
ReportsIf (Some it) code old new = ReportsBecause it code old new
