use Rattle.std.proofs.Common.{ap, subst}
use Rattle.ldm_outside.specs.Door.{DoorRecord, DoorTakesBack}
use Rattle.ldm_outside.specs.Station.{StationRecord, station_tells}
use Rattle.ldm_serve.specs.Connection.{moment_of}
use Rattle.ldm_node.specs.DoorMoments.{moment}
use Rattle.ldm_node.specs.Visits.{outside}
use Rattle.ldm_node.proofs.VisitHolding.{holds-one, served-by}
use Rattle.ldm_node.proofs.admitting.hold_session.Goals as goal

pub returns-clause-holds : goal.returns-clause-holds
returns-clause-holds g c =
    let before = station_tells g.D.Door.tells g.I.Dial.tells g.E.Sink.tells g.C.Clock.tells g.G.Gate.tells c.args.station.now in
    let served = station_tells g.D.Door.tells g.I.Dial.tells g.E.Sink.tells g.C.Clock.tells g.G.Gate.tells c.serve_peer-end.new.station in
    let after : StationRecord = record served { door = g.D.Door.tells c.give_back.new.self; log = g.E.Sink.tells c.finish.new.log } in
    let old = moment c.args.pass.now before in
    let new = moment c.serve_peer-end.new.pass after in
    let left = g.D.Link.Link.tells c.serve_peer-end.new.link in
    let P : DoorRecord → Type 0 = λ door. DoorTakesBack left door after.door in
    let given_back = subst P (ap (λ door. g.D.Door.tells door) c.serve_peer-end.ensures.door) c.give_back.ensures.given_back in
    let same = ap (λ dial. let told : StationRecord = record after { dial = g.I.Dial.tells dial } in told) c.serve_peer-end.ensures.dial in
    let came = g.D.Link.Link.tells c.args.link in
    let serves = served-by c.serve_peer-end.result c.args.conf.now.policy c.args.host.now c.args.shared.now c.args.pass.now
    (moment_of c.args.pass.now (outside came before.log before)) (moment_of c.serve_peer-end.new.pass (outside left served.log served))
    c.requires.of c.serve_peer-end.ensures.serves in
    holds-one c.finish.result c.serve_peer-end.result c.args.conf.now.policy c.args.host.now came left
    served.log old new serves c.serve_peer-end.ensures.counts.log given_back c.finish.ensures.finishes same
