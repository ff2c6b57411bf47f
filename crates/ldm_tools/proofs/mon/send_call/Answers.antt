use Rattle.ldm_tools.specs.Replies.{IsStatReply}
use Rattle.ldm_tools.proofs.Replied.{asks_failed, asks_heard, asks_nothing}
use Rattle.ldm_tools.proofs.mon.send_call.Goals as goal

pub returns-in-Err-clause-asks : goal.returns-in-Err-clause-asks
returns-in-Err-clause-asks g c = asks_nothing (IsStatReply 1) c.args.call.now (g.K.Link.tells c.args.link.now)

pub returns-in-Ok-send_all-clause-asks : goal.returns-in-Ok-send_all-clause-asks
returns-in-Ok-send_all-clause-asks g c =
    let tells = g.K.Link.tells in
    asks_heard (IsStatReply 1) c.hear_stat.result c.args.call.now c.in-Ok.reader c.hear_stat.new.reader (tells c.args.link.now) (tells c.send_all.new.link) (tells c.hear_stat.new.link)
    c.in-Ok.ensures c.in-Ok-send_all.ensures.sent c.hear_stat.ensures.heard

pub returns-clause-asks : goal.returns-clause-asks
returns-clause-asks g c =
    let tells = g.K.Link.tells in
    asks_failed (IsStatReply 1) c.in-Err-send_all.field-0 c.args.call.now (tells c.args.link.now) (tells c.send_all.new.link) c.in-Err-send_all.ensures.sent
