use Rattle.ldm_tools.proofs.Linked.{mon_ends}
use Rattle.ldm_tools.proofs.mon.monitor.Goals as goal

pub returns-in-Linked-clause-ends : goal.returns-in-Linked-clause-ends
returns-in-Linked-clause-ends g c =
    let net = g.N.Dial.tells in
    let sink = g.K.Sink.tells in
    mon_ends c.hold.result (record { host = c.args.host.now; port = c.args.port }) (g.N.Link.Link.tells c.in-Linked.link) (net c.args.net.now) (net c.connect.new.self) (net c.hold.new.net)
    (sink c.args.sink.now) (sink c.hold.new.sink) c.in-Linked.ensures.dialled c.hold.ensures.holds
