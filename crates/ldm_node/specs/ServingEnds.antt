-- How a session ended that was served, for the line of a log and for the worker.
use Rattle.std.specs.Prelude.{Option, Some, None}
use Rattle.ldm_sender.specs.declared.end.SendEnd.{SendEnd}
use Rattle.ldm_sender.specs.declared.end.SendEnd.TheVariants as sending
use Rattle.ldm_notify.specs.Notifies.{send_end}
use Rattle.ldm_serve.specs.declared.end.ServeEnd.{ServeEnd}
use Rattle.ldm_serve.specs.declared.end.ServeEnd.TheVariants as serving
use Rattle.ldm_node.specs.declared.session_end.SessionEnd.{SessionEnd}
use Rattle.ldm_node.specs.declared.session_end.SessionEnd.TheVariants as session
use Rattle.ldm_node.specs.declared.stop.NodeStop.{NodeStop}
use Rattle.ldm_node.specs.declared.stop.NodeStop.TheVariants.{Done, LogFault, Worn}
use Rattle.ldm_node.specs.SessionEnds.{end_of_receiving, stop_of_receiving}

-- how a session ended that fed or told of products
abbrev pub end_of_sending : SendEnd → SessionEnd
end_of_sending sending.Stopped = session.Stopped
end_of_sending sending.Reclassed = session.Reclassed
end_of_sending (sending.Denied rule) = session.Denied
end_of_sending (sending.PeerEnd at) = session.PeerEnd
end_of_sending sending.LinkFault = session.LinkFault
end_of_sending sending.LogFault = session.LogFault
end_of_sending (sending.BadReply at) = session.BadReply
end_of_sending sending.AllBusy = session.AllBusy
end_of_sending sending.Worn = session.Worn
end_of_sending sending.OutOfMemory = session.OutOfMemory

-- how a session ended that was served: as what it became, where it became something
abbrev pub end_of_serving : ServeEnd → SessionEnd
end_of_serving (serving.Feed why) = end_of_sending why
end_of_serving (serving.Receive why) = end_of_receiving why
end_of_serving (serving.Notify why) = end_of_sending (send_end why)
end_of_serving serving.Ended = session.Ended
end_of_serving (serving.Truncated at) = session.Truncated
end_of_serving (serving.BadFrame at) = session.BadFrame
end_of_serving (serving.Denied rule) = session.Denied
end_of_serving serving.LinkFault = session.LinkFault
end_of_serving serving.StreamLimit = session.StreamLimit
end_of_serving serving.Worn = session.Worn
end_of_serving serving.OutOfMemory = session.OutOfMemory

-- Why the worker stops by an end of a session, where it does: the gate stopped the session; its log failed; or the queue has had
-- all its calls. For want of memory the session ends, and not the worker.
abbrev pub stop_of_sending : SendEnd → Option NodeStop
stop_of_sending sending.Stopped = Some Done
stop_of_sending sending.LogFault = Some LogFault
stop_of_sending sending.Worn = Some Worn
stop_of_sending _ = None

abbrev pub stop_by : ServeEnd → Option NodeStop
stop_by (serving.Feed why) = stop_of_sending why
stop_by (serving.Receive why) = stop_of_receiving why
stop_by (serving.Notify why) = stop_of_sending (send_end why)
stop_by serving.Worn = Some Worn
stop_by _ = None
