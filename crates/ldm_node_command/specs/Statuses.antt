-- The statuses of the ends of a node.
use Rattle.std.specs.Prelude.{◌≡◌, ℕ, Option, Some, None, Result, Ok, Err}
use Rattle.ldm_outside.specs.declared.fault.Failed.{Failed}
use Rattle.ldm_outside.specs.declared.io.SinkFailed.{SinkFailed}
use Rattle.ldm_outside.specs.Io.{SinkRecord}
use Rattle.ldm_shared.specs.declared.fault.CreateFault.{CreateFault}
use Rattle.ldm_shared.specs.declared.fault.CreateFault.TheVariants as queue
use Rattle.ldm_command_files.specs.ConfFiles.{status_of_conf}
use Rattle.ldm_status.specs.declared.status.TheConstants.{LOG_FAULT}
use Rattle.ldm_status.specs.declared.status.Status.{Status}
use Rattle.ldm_status.specs.declared.status.Status.TheVariants as status
use Rattle.ldm_status.specs.Status.{ReportsBecause}
use Rattle.ldm_journal.specs.declared.fault.JournalFault.{JournalFault}
use Rattle.ldm_journal.specs.declared.fault.JournalFault.TheVariants as journal
use Rattle.ldm_recorder.specs.declared.end.RecordEnd.{RecordEnd}
use Rattle.ldm_recorder.specs.declared.end.RecordEnd.TheVariants as recording
use Rattle.ldm_node_command.specs.declared.restoring.RestoreFault.{RestoreFault}
use Rattle.ldm_node_command.specs.declared.restoring.RestoreFault.TheVariants as restoring
use Rattle.ldm_node_command.specs.declared.statuses.TheConstants.{HEADS, RECORDS, RING_SIZE}
use Rattle.ldm_node.specs.declared.stop.NodeStop.{NodeStop}
use Rattle.ldm_node.specs.declared.stop.NodeStop.TheVariants as stop
use Rattle.ldm_node_command.specs.declared.commands.StartFault.{StartFault}
use Rattle.ldm_node_command.specs.declared.commands.StartFault.TheVariants as start
use Rattle.ldm_node_command.specs.declared.ending.NodeFault.{NodeFault}
use Rattle.ldm_node_command.specs.declared.ending.NodeFault.TheVariants.{NotTaken, NotMade, NotRestored, NotListening, NotStarted}
use Rattle.ldm_node_command.specs.declared.ending.Ran.{Ran}
use Rattle.ldm_node_command.specs.declared.listening.ListenFault.{ListenFault}
use Rattle.ldm_node_command.specs.declared.listening.ListenFault.TheVariants as listen

-- the status where no queue was made
abbrev pub status_of_queue : CreateFault → Status
status_of_queue (queue.BadArena arena) = status.RefusedArena arena
status_of_queue (queue.BadSlots slots) = status.RefusedSlots slots
status_of_queue (queue.BadPasses passes) = status.RefusedPasses passes
status_of_queue queue.OutOfMemory = status.NoMemory

-- the status where the net gave no stations
abbrev pub status_of_listening : ListenFault → Status
status_of_listening listen.Failed = status.NetFault
status_of_listening listen.OutOfMemory = status.NoMemory

-- the status where a file is no journal, with the byte at which it shows
abbrev pub status_of_journal : JournalFault → Status
status_of_journal journal.NotAJournal = status.BadImage 0
status_of_journal journal.OtherRing = status.BadImage RING_SIZE
status_of_journal journal.OtherLength = status.Unclean
status_of_journal journal.BadHead = status.BadImage HEADS
status_of_journal journal.BadRecord = status.BadImage RECORDS
status_of_journal journal.DiskFault = status.StoreFault
status_of_journal journal.OutOfMemory = status.NoMemory

-- the status where what the journal kept was not put back
abbrev pub status_of_restoring : RestoreFault → Status
status_of_restoring restoring.NoDesk = status.NetFault
status_of_restoring restoring.OutOfMemory = status.NoMemory
status_of_restoring restoring.NotAttached = status.StoreFault
status_of_restoring (restoring.NotOpened why) = status_of_journal why
status_of_restoring (restoring.NotRead why) = status_of_journal why
status_of_restoring restoring.Worn = status.Worn
status_of_restoring restoring.AllBusy = status.NoMemory

-- the status where the commands were not all started
abbrev pub status_of_start : StartFault → Status
status_of_start start.Failed = status.ChildFault
status_of_start start.OutOfMemory = status.NoMemory

-- the status where no node was run
abbrev pub status_of_fault : NodeFault → Status
status_of_fault (NotTaken why) = status_of_conf why
status_of_fault (NotMade fault) = status_of_queue fault
status_of_fault (NotRestored why) = status_of_restoring why
status_of_fault (NotListening why) = status_of_listening why
status_of_fault (NotStarted why) = status_of_start why

-- the status of a node that is done: by whether each command was waited for, and then by whether the line of the queue was written
abbrev pub status_behind : Result (Unit {0}) Failed → Result (Unit {0}) SinkFailed → Status
status_behind (Err failed) written = status.ChildFault
status_behind (Ok done) (Err failed) = status.SinkFault
status_behind (Ok done) (Ok whole) = status.Done

-- the status of a node whose workers were done, by how recording ended, or the one behind it. Where the log failed there is none.
abbrev pub status_of_recording : RecordEnd → Status → Option Status
status_of_recording (recording.Stopped at) behind = Some behind
status_of_recording recording.DiskFault behind = Some status.StoreFault
status_of_recording recording.NotAJournal behind = Some (status.BadImage RECORDS)
status_of_recording recording.NoNumbers behind = Some (status.BadImage RECORDS)
status_of_recording recording.LogFault behind = None
status_of_recording recording.Worn behind = Some status.Worn
status_of_recording recording.OutOfMemory behind = Some status.NoMemory

abbrev pub status_of_recorded : Option RecordEnd → Status → Option Status
status_of_recorded None behind = Some behind
status_of_recorded (Some why) behind = status_of_recording why behind

-- the status of a node by why it stopped, or the one behind it where it is done. Where the log of a worker failed there is none.
abbrev pub status_of_stop : NodeStop → Option Status → Option Status
status_of_stop stop.Done behind = behind
status_of_stop stop.NetFault behind = Some status.NetFault
status_of_stop stop.LogFault behind = None
status_of_stop stop.Worn behind = Some status.Worn
status_of_stop stop.OutOfMemory behind = Some status.NoMemory

-- the status of an ending
abbrev pub status_of_node : Result Ran NodeFault → Option Status
status_of_node (Ok ran) = status_of_stop ran.stop (status_of_recorded ran.recorded (status_behind ran.waited ran.written))
status_of_node (Err why) = Some (status_of_fault why)

-- The number that ends the program, and what the log took: those of the status; without one 76, since the log of a worker failed, and no
-- line.
abbrev pub Tells : Option Status → ℕ → SinkRecord → SinkRecord → Type 0
Tells (Some ending) code old new = ReportsBecause ending code old new
Tells None code old new = (code ≡ LOG_FAULT) × (new ≡ old)
