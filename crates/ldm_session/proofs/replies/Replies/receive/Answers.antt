use Rattle.std.proofs.Common.{refl}
use Rattle.ldm_session.proofs.CallerLemmas.{Exchanged-gave}
use Rattle.ldm_session.proofs.replies.Replies.receive.Goals as goal

pub returns-in-Bytes-clause-received : goal.returns-in-Bytes-clause-received
returns-in-Bytes-clause-received g c =
    let tells = g.K.Link.tells in
    (refl, Exchanged-gave (tells c.args.link.now) (tells c.fill.new.link) c.fill.new.self c.in-Bytes.ensures.given.0)
