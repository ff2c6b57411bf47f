use Rattle.ldm_tools.specs.Inserting.{inserting}
use Rattle.ldm_tools.specs.Moments.{outside_tells}
use Rattle.ldm_tools.proofs.Held.{insert_ends}
use Rattle.ldm_tools.proofs.insert.insert_files.Goals as goal

pub returns-in-Linked-clause-ends : goal.returns-in-Linked-clause-ends
returns-in-Linked-clause-ends g c =
    let net = g.N.Dial.tells in
    let old = outside_tells g.F.Store.tells net g.K.Sink.tells g.C.Clock.tells c.args.store.now c.args.net.now c.args.sink.now c.args.clock.now in
    let new = outside_tells g.F.Store.tells net g.K.Sink.tells g.C.Clock.tells c.hold.new.store c.hold.new.net c.hold.new.sink c.hold.new.clock in
    insert_ends c.hold.result (inserting c.args.insertion.now) (g.N.Link.Link.tells c.in-Linked.link) (net c.connect.new.self) old new c.in-Linked.ensures.dialled c.hold.ensures.holds
