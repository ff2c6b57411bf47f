-- The statuses that tools have in common that receive.
use Rattle.std.specs.Prelude.{Option, Some, None}
use Rattle.ldm_intake.specs.declared.end.RecvEnd.{RecvEnd}
use Rattle.ldm_intake.specs.declared.end.RecvEnd.TheVariants.{Ended, Truncated, BadFrame, Refused, LinkFault, LogFault, StreamLimit, Worn, OutOfMemory}
use Rattle.ldm_shared.specs.declared.fault.CreateFault.{CreateFault}
use Rattle.ldm_shared.specs.declared.fault.CreateFault.TheVariants as queue
use Rattle.ldm_status.specs.declared.status.Status.{Status}
use Rattle.ldm_status.specs.declared.status.Status.TheVariants as status

-- the status of an end of the receiving: there is none where the log failed
abbrev pub status_of_receiving : RecvEnd → Option Status
status_of_receiving Ended = Some status.Done
status_of_receiving (Truncated at) = Some (status.BadFrame at)
status_of_receiving (BadFrame at) = Some (status.BadFrame at)
status_of_receiving (Refused answer) = Some status.Denied
status_of_receiving LinkFault = Some status.NetFault
status_of_receiving LogFault = None
status_of_receiving StreamLimit = Some status.StreamLimit
status_of_receiving Worn = Some status.Worn
status_of_receiving OutOfMemory = Some status.NoMemory

-- the status where no queue was made
abbrev pub status_of_queue : CreateFault → Status
status_of_queue (queue.BadArena arena) = status.RefusedArena arena
status_of_queue (queue.BadSlots slots) = status.RefusedSlots slots
status_of_queue (queue.BadPasses passes) = status.RefusedPasses passes
status_of_queue queue.OutOfMemory = status.NoMemory
