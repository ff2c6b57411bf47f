use Rattle.std.proofs.Common.{refl, arith}
use Rattle.ldm_session.proofs.CallerLemmas.{Exchanged-gave}
use Rattle.ldm_tools.proofs.reader.LinkReader.receive.Goals as goal

pub returns-in-Bytes-clause-received : goal.returns-in-Bytes-clause-received
returns-in-Bytes-clause-received g c =
    let tells = g.K.Link.tells in
    let given = c.in-Bytes.ensures.given in
    record {
      same = refl;
      exchanged = Exchanged-gave (tells c.args.link.now) (tells c.fill.new.link) c.fill.new.self given.0;
      some = given.1;
      most = omega (arith, given.2, c.saturating_sub-room.ensures, c.if-room-eq0.false);
    }
