use Rattle.std.proofs.Common.{refl}
use Rattle.ldm_gather.proofs.gatherer.Gatherer.gather.Goals as goal

pub returns-in-Linked-clause-connects : goal.returns-in-Linked-clause-connects
returns-in-Linked-clause-connects g c =
    let received = c.receive-end.ensures.gathered in (
      received.0,
      record {
        came = g.N.Link.Link.tells c.in-Linked.link;
        lent = g.N.Dial.tells c.connect.new.self;
        dialled = c.in-Linked.ensures.dialled;
        holds = record {
          left = g.N.Link.Link.tells c.receive-end.new.link;
          gathered = received.1;
          not_closed = c.receive-end.ensures.still_open;
          given_back = c.give_back.ensures.given_back;
        };
      },
    )

pub returns-in-Failed-clause-connects : goal.returns-in-Failed-clause-connects
returns-in-Failed-clause-connects g c = (c.args.self.pass, record { dialled = c.in-Failed.ensures.dialled; others = refl })
