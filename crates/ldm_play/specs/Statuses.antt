-- The statuses of the ends of a play.
use Rattle.std.specs.Prelude.{Result, Ok, Err}
use Rattle.ldm_book.specs.declared.fault.CreateFault.{CreateFault}
use Rattle.ldm_book.specs.declared.fault.CreateFault.TheVariants as fault
use Rattle.ldm_status.specs.declared.status.Status.{Status}
use Rattle.ldm_status.specs.declared.status.Status.TheVariants as status
use Rattle.ldm_play.specs.declared.play_command.ScriptEnd.{ScriptEnd}
use Rattle.ldm_play.specs.declared.play_command.ScriptEnd.TheVariants as script_end
use Rattle.ldm_play.specs.declared.player.LineFault.{LineFault}
use Rattle.ldm_play.specs.declared.player.LineFault.TheVariants as stop

-- the status of a stop at a line
abbrev pub status_of_stop : LineFault → Status
status_of_stop (stop.BadLine line column) = status.BadLine line column
status_of_stop stop.SinkFault = status.SinkFault

-- the status of how a script ended
abbrev pub status_of_script : ScriptEnd → Status
status_of_script script_end.Done = status.Done
status_of_script script_end.StreamLimit = status.StreamLimit
status_of_script script_end.SourceFault = status.SourceFault
status_of_script (script_end.Stopped why) = status_of_stop why

-- the status where no queue was made
abbrev pub status_of_fault : CreateFault → Status
status_of_fault (fault.BadArena arena) = status.RefusedArena arena
status_of_fault (fault.BadSlots slots) = status.RefusedSlots slots
status_of_fault fault.OutOfMemory = status.NoMemory

-- the status of how a play ended
abbrev pub status_of_play : Result ScriptEnd CreateFault → Status
status_of_play (Ok ending) = status_of_script ending
status_of_play (Err fault) = status_of_fault fault
