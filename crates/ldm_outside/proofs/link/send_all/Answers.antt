use Rattle.std.proofs.Common.{length-drop, arith}
use Rattle.std.proofs.lemmas.List.{take_rest}
use Rattle.ldm_outside.proofs.LinkLemmas.{Sent-more, SendsAll-failed}
use Rattle.ldm_outside.proofs.link.send_all.Goals as goal

pub loop-at-preserved : goal.loop-at-preserved
loop-at-preserved g c =
    let tells = g.K.Link.tells in
    let mid = tells c.loop-at.link in
    let new = tells c.send.new.self in
    let sent = rw take_rest at c.in-Took.ensures.sent.2 in
    record {
      within = omega (arith, c.in-Took.ensures.sent.0, length-drop c.loop-at.at c.args.piece.now);
      not_closed = c.in-Took.ensures.still_open;
      sent = Sent-more (tells c.args.link.now) mid new c.args.piece.now c.loop-at.at c.in-Took.n c.loop-at.invariant.sent sent;
    }

pub returns-in-Failed-clause-sent : goal.returns-in-Failed-clause-sent
returns-in-Failed-clause-sent g c =
    let tells = g.K.Link.tells in
    SendsAll-failed (tells c.args.link.now) (tells c.loop-at.link) (tells c.send.new.self) c.args.piece.now c.loop-at.at c.loop-at.invariant.sent c.in-Failed.ensures.sent
