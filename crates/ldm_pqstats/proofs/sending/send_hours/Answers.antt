use Rattle.std.proofs.Common.{◌∙◌, sym}
use Rattle.ldm_pqstats.specs.Sending.{outside_of}
use Rattle.ldm_pqstats.proofs.Sent.{has_hours, sends_hours}
use Rattle.ldm_pqstats.proofs.sending.send_hours.Goals as goal

pub returns-in-Linked-clause-sends : goal.returns-in-Linked-clause-sends
returns-in-Linked-clause-sends g c =
    let net = g.N.Dial.tells in
    sends_hours c.hold.result (record { host = c.args.asked.now.host.now; port = c.args.asked.now.port }) c.args.stats.now (g.N.Link.Link.tells c.in-Linked.link) (net c.connect.new.self)
    (outside_of (net c.args.net.now) (g.K.Sink.tells c.args.sink.now) (g.C.Clock.tells c.args.clock.now))
    (outside_of (net c.hold.new.net) (g.K.Sink.tells c.hold.new.sink) (g.C.Clock.tells c.hold.new.clock))
    (has_hours c.args.stats.now c.in-Ok.hours.items c.in-Ok.hours.len c.in-Ok.ensures.value c.in-Ok.hours.ok.0 (sym c.is_empty.ensures ∙ c.if-is_empty.false)) c.in-Linked.ensures.dialled c.hold.ensures.holds
