-- The statuses of the ends of a chain.
use Rattle.std.specs.Prelude.{Result, Ok, Err}
use Rattle.ldm_intake.specs.declared.end.RecvEnd.{RecvEnd}
use Rattle.ldm_intake.specs.declared.end.RecvEnd.TheVariants as received
use Rattle.ldm_sender.specs.declared.end.SendEnd.{SendEnd}
use Rattle.ldm_sender.specs.declared.end.SendEnd.TheVariants as fed
use Rattle.ldm_status.specs.declared.status.Status.{Status}
use Rattle.ldm_status.specs.declared.status.Status.TheVariants as status
use Rattle.ldm_command_files.specs.ConfFiles.{status_of_conf}
use Rattle.ldm_status.specs.WholeScript.{status_of_untaken}
use Rattle.ldm_chain.specs.declared.node.ChainEnd.{ChainEnd}
use Rattle.ldm_chain.specs.declared.node.ChainEnd.TheVariants as chain_end
use Rattle.ldm_chain.specs.declared.fault.ChainFault.{ChainFault}
use Rattle.ldm_chain.specs.declared.fault.ChainFault.TheVariants as stop

-- the status where the feeder of a node ended so
abbrev pub status_of_fed : SendEnd → Status
status_of_fed fed.Worn = status.Worn
status_of_fed fed.OutOfMemory = status.NoMemory
status_of_fed (fed.Denied rule) = status.Denied
status_of_fed (fed.PeerEnd at) = status.BadFrame at
status_of_fed (fed.BadReply at) = status.BadFrame at
status_of_fed _ = status.NetFault

-- the status where the receiver of a node ended so
abbrev pub status_of_received : RecvEnd → Status
status_of_received received.Worn = status.Worn
status_of_received received.OutOfMemory = status.NoMemory
status_of_received (received.Refused answer) = status.Denied
status_of_received (received.BadFrame at) = status.BadFrame at
status_of_received (received.Truncated at) = status.BadFrame at
status_of_received received.StreamLimit = status.StreamLimit
status_of_received _ = status.NetFault

-- the status where not each node was fed
abbrev pub status_of_end : ChainEnd → Status
status_of_end chain_end.Done = status.Done
status_of_end (chain_end.Feed end) = status_of_fed end
status_of_end (chain_end.Receive end) = status_of_received end
status_of_end chain_end.OutOfMemory = status.NoMemory

-- the status of why a chain stopped
abbrev pub status_of_stop : ChainFault → Status
status_of_stop (stop.BadArena arena) = status.RefusedArena arena
status_of_stop (stop.BadSlots slots) = status.RefusedSlots slots
status_of_stop (stop.ConfNotTaken why) = status_of_conf why
status_of_stop (stop.ScriptFault why) = status_of_untaken why
status_of_stop (stop.BadLine line column) = status.BadLine line column
status_of_stop (stop.NotFed end) = status_of_end end
status_of_stop stop.SinkFault = status.SinkFault
status_of_stop stop.OutOfMemory = status.NoMemory

-- the status of how a chain ended
abbrev pub status_of_chain : Result (Unit {0}) ChainFault → Status
status_of_chain (Ok done) = status.Done
status_of_chain (Err why) = status_of_stop why
