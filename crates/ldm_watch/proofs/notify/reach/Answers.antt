use Rattle.ldm_watch.specs.Notifyme.{wanted_by}
use Rattle.ldm_watch.proofs.Linked.{watches_peer}
use Rattle.ldm_watch.proofs.notify.reach.Goals as goal

pub returns-in-Linked-clause-ends : goal.returns-in-Linked-clause-ends
returns-in-Linked-clause-ends g c =
    let net = g.N.Dial.tells in
    let sink = g.K.Sink.tells in
    watches_peer c.hold.result (wanted_by c.args.asked.now) (g.N.Link.Link.tells c.in-Linked.link)
    (net c.args.net.now) (net c.connect.new.self) (net c.hold.new.net) (sink c.args.sink.now) (sink c.hold.new.sink) c.in-Linked.ensures.dialled c.hold.ensures.holds
