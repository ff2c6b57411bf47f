-- The statuses of the ends of a crowd.
use Rattle.std.specs.Prelude.{Result, Ok, Err}
use Rattle.ldm_shared.specs.declared.fault.CreateFault.{CreateFault}
use Rattle.ldm_shared.specs.declared.fault.CreateFault.TheVariants as fault
use Rattle.ldm_status.specs.declared.status.Status.{Status}
use Rattle.ldm_status.specs.declared.status.Status.TheVariants as status
use Rattle.ldm_crowd.specs.declared.crowd_command.CrowdFault.{CrowdFault}
use Rattle.ldm_crowd.specs.declared.crowd_command.CrowdFault.TheVariants as stop
use Rattle.ldm_crowd.specs.declared.crowd_command.PlayFault.{PlayFault}
use Rattle.ldm_crowd.specs.declared.crowd_command.PlayFault.TheVariants as unplayed
use Rattle.ldm_status.specs.WholeScript.{status_of_untaken}

-- the status where no queue was made
abbrev pub status_of_fault : CreateFault → Status
status_of_fault (fault.BadArena arena) = status.RefusedArena arena
status_of_fault (fault.BadSlots slots) = status.RefusedSlots slots
status_of_fault (fault.BadPasses passes) = status.RefusedPasses passes
status_of_fault fault.OutOfMemory = status.NoMemory

-- the status where a script was not played to its end
abbrev pub status_of_unplayed : PlayFault → Status
status_of_unplayed (unplayed.BadLine line column) = status.BadLine line column
status_of_unplayed unplayed.OutOfMemory = status.NoMemory

-- the status of why a crowd stopped
abbrev pub status_of_crowd_stop : CrowdFault → Status
status_of_crowd_stop (stop.NotMade fault) = status_of_fault fault
status_of_crowd_stop (stop.ScriptFault why) = status_of_untaken why
status_of_crowd_stop (stop.PlayFault why) = status_of_unplayed why
status_of_crowd_stop stop.SinkFault = status.SinkFault

-- the status of how a crowd ended
abbrev pub status_of_crowd : Result (Unit {0}) CrowdFault → Status
status_of_crowd (Ok done) = status.Done
status_of_crowd (Err why) = status_of_crowd_stop why
