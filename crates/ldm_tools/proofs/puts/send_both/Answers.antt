use Rattle.ldm_tools.proofs.Sending.{first_failed, then_sent}
use Rattle.ldm_tools.proofs.puts.send_both.Goals as goal

pub returns-in-Ok-clause-sent : goal.returns-in-Ok-clause-sent
returns-in-Ok-clause-sent g c =
    let tells = g.K.Link.tells in
    then_sent c.send_all-in-Ok.result c.args.first.now c.args.second.now (tells c.args.link.now) (tells c.send_all.new.link) (tells c.send_all-in-Ok.new.link) c.in-Ok.ensures.sent c.send_all-in-Ok.ensures.sent

pub returns-in-Err-clause-sent : goal.returns-in-Err-clause-sent
returns-in-Err-clause-sent g c =
    let tells = g.K.Link.tells in
    first_failed c.in-Err.failed c.args.first.now c.args.second.now (tells c.args.link.now) (tells c.send_all.new.link) c.in-Err.ensures.sent
