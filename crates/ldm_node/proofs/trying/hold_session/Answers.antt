use Rattle.std.proofs.Common.{ℕ, List, refl, subst}
use Rattle.std.specs.Option.{option_map}
use Rattle.ldm_types.specs.declared.signature.Signature.{Signature}
use Rattle.ldm_outside.specs.Station.{station_tells}
use Rattle.ldm_conf.specs.Confs.{request_view}
use Rattle.ldm_node.specs.RequestMoments.{moment}
use Rattle.ldm_node.specs.TrySteps.{Finishes}
use Rattle.ldm_node.proofs.TryHolding.{holds-one}
use Rattle.ldm_node.proofs.trying.hold_session.Goals as goal

pub returns-clause-holds : goal.returns-clause-holds
returns-clause-holds g c =
    let before = station_tells g.D.Door.tells g.I.Dial.tells g.E.Sink.tells g.C.Clock.tells g.G.Gate.tells c.args.station.now in
    let old = moment c.args.pass.now before (option_map (λ (signature : Signature). signature.0) c.args.last.now) in
    let after = record before { dial = g.I.Dial.tells c.give_back.new.self; log = g.E.Sink.tells c.finish.new.log; clock = g.C.Clock.tells c.receive-received.new.clock } in
    let new = moment c.receive-received.new.pass after (option_map (λ (signature : Signature). signature.0) c.receive-received.result.last) in
    let log = g.E.Sink.tells c.receive-received.new.log in
    let P : List ℕ → Type 0 = λ host. Finishes c.finish.result c.receive-received.result.end host log after.log in
    holds-one c.finish.result c.receive-received.result.end (request_view c.args.request.now) (g.I.Link.Link.tells c.args.link) (g.I.Link.Link.tells c.receive-received.new.link)
    log old new (rw c.max_hereis.ensures at c.receive-received.ensures.receives) (rw c.max_hereis.ensures at c.receive-received.ensures.completes) c.receive-received.ensures.counts.log c.give_back.ensures.given_back
    (subst P c.as_slice.ensures.value c.finish.ensures.finishes) refl
