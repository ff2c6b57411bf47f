use Rattle.std.proofs.Common.{ℕ, List, subst}
use Rattle.ldm_outside.specs.Station.{station_tells}
use Rattle.ldm_node.specs.DoorMoments.{moment, with_door}
use Rattle.ldm_node.specs.VisitSteps.{HoldsOne}
use Rattle.ldm_node.proofs.VisitHolding.{admits-one}
use Rattle.ldm_node.proofs.admitting.admit_one.Goals as goal

pub returns-in-Peer-clause-admits : goal.returns-in-Peer-clause-admits
returns-in-Peer-clause-admits g c =
    let before = station_tells g.D.Door.tells g.I.Dial.tells g.E.Sink.tells g.C.Clock.tells g.G.Gate.tells c.args.station.now in
    let after = station_tells g.D.Door.tells g.I.Dial.tells g.E.Sink.tells g.C.Clock.tells g.G.Gate.tells c.hold_session.new.station in
    let old = moment c.args.pass.now before in
    let new = moment c.hold_session.new.pass after in
    let came = g.D.Link.Link.tells c.in-Peer.link in
    let lent = g.D.Door.tells c.accept.new.self in
    let P : List ℕ → Type 0 = λ host. HoldsOne c.hold_session.result c.args.conf.now.policy host came (with_door lent old) new in
    admits-one c.hold_session.result c.args.conf.now.policy c.in-Peer.host.items came lent old new c.in-Peer.ensures.came
    (subst P c.as_slice.ensures.value c.hold_session.ensures.holds)
