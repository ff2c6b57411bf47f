-- How a session ends where no reply was heard.
use Rattle.ldm_session.specs.declared.replies.NoReply.{NoReply}
use Rattle.ldm_session.specs.declared.replies.NoReply.TheVariants as none
use Rattle.ldm_sender.specs.declared.end.SendEnd.{SendEnd}
use Rattle.ldm_sender.specs.declared.end.SendEnd.TheVariants as end

abbrev pub end_of : NoReply → SendEnd
end_of (none.PeerEnd at) = end.PeerEnd at
end_of (none.BadReply at) = end.BadReply at
end_of none.LinkFault = end.LinkFault
end_of none.OutOfMemory = end.OutOfMemory
