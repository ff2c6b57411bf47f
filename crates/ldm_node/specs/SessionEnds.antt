-- The ends of sessions, and their names in log lines.
use Rattle.std.specs.Prelude.{ℕ, List, Option, Some, None, codes}
use Rattle.ldm_intake.specs.declared.end.RecvEnd.{RecvEnd}
use Rattle.ldm_intake.specs.declared.end.RecvEnd.TheVariants as receiving
use Rattle.ldm_node.specs.declared.stop.NodeStop.{NodeStop}
use Rattle.ldm_node.specs.declared.stop.NodeStop.TheVariants as stop
use Rattle.ldm_node.specs.declared.session_end.SessionEnd.{SessionEnd}
use Rattle.ldm_node.specs.declared.session_end.SessionEnd.TheVariants.{Ended, Truncated, BadFrame, Refused, LinkFault, LogFault, StreamLimit, Worn, OutOfMemory, Stopped, Reclassed, Denied, AllBusy, PeerEnd, BadReply}

-- how a session ended that received
abbrev pub end_of_receiving : RecvEnd → SessionEnd
end_of_receiving receiving.Ended = Ended
end_of_receiving (receiving.Truncated at) = Truncated
end_of_receiving (receiving.BadFrame at) = BadFrame
end_of_receiving (receiving.Refused answer) = Refused
end_of_receiving receiving.LinkFault = LinkFault
end_of_receiving receiving.LogFault = LogFault
end_of_receiving receiving.StreamLimit = StreamLimit
end_of_receiving receiving.Worn = Worn
end_of_receiving receiving.OutOfMemory = OutOfMemory

-- Why the worker stops by the end of a session that received, where it does: its log failed; or the queue has had all its calls. For want
-- of memory the session ends, and not the worker.
abbrev pub stop_of_receiving : RecvEnd → Option NodeStop
stop_of_receiving receiving.Ended = None
stop_of_receiving (receiving.Truncated at) = None
stop_of_receiving (receiving.BadFrame at) = None
stop_of_receiving (receiving.Refused answer) = None
stop_of_receiving receiving.LinkFault = None
stop_of_receiving receiving.LogFault = Some stop.LogFault
stop_of_receiving receiving.StreamLimit = None
stop_of_receiving receiving.Worn = Some stop.Worn
stop_of_receiving receiving.OutOfMemory = None

-- the words of an end joined, in lower-case letters
abbrev pub end_name : SessionEnd → List ℕ
end_name Ended = codes "ended"
end_name Truncated = codes "truncated"
end_name BadFrame = codes "badframe"
end_name Refused = codes "refused"
end_name LinkFault = codes "linkfault"
end_name LogFault = codes "logfault"
end_name StreamLimit = codes "streamlimit"
end_name Worn = codes "worn"
end_name OutOfMemory = codes "outofmemory"
end_name Stopped = codes "stopped"
end_name Reclassed = codes "reclassed"
end_name Denied = codes "denied"
end_name AllBusy = codes "allbusy"
end_name PeerEnd = codes "peerend"
end_name BadReply = codes "badreply"
