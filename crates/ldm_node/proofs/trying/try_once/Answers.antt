use Rattle.std.proofs.Common.{ℕ, List, subst}
use Rattle.std.specs.Option.{option_map}
use Rattle.ldm_types.specs.declared.signature.Signature.{Signature}
use Rattle.ldm_outside.specs.declared.dial.Dialled.TheVariants.{Linked}
use Rattle.ldm_outside.specs.Dial.{ConnectGives}
use Rattle.ldm_outside.specs.Link.{LinkRecord}
use Rattle.ldm_outside.specs.Station.{station_tells}
use Rattle.ldm_conf.specs.Confs.{request_view}
use Rattle.ldm_node.specs.RequestMoments.{moment}
use Rattle.ldm_node.proofs.TryHolding.{tries-one}
use Rattle.ldm_node.proofs.trying.try_once.Goals as goal

pub returns-in-Linked-clause-tries : goal.returns-in-Linked-clause-tries
returns-in-Linked-clause-tries g c =
    let before = station_tells g.D.Door.tells g.I.Dial.tells g.E.Sink.tells g.C.Clock.tells g.G.Gate.tells c.args.station.now in
    let after = station_tells g.D.Door.tells g.I.Dial.tells g.E.Sink.tells g.C.Clock.tells g.G.Gate.tells c.hold_session.new.station in
    let old = moment c.args.pass.now before (option_map (λ (signature : Signature). signature.0) c.args.last.now) in
    let new = moment c.hold_session.new.pass after (option_map (λ (signature : Signature). signature.0) c.hold_session.new.last) in
    let came = g.I.Link.Link.tells c.in-Linked.link in
    let lent = g.I.Dial.tells c.connect.new.self in
    let P : List ℕ → Type 0 = λ host. ConnectGives (λ (link : LinkRecord). link) (Linked came) (record { host = host; port = c.args.request.now.port }) before.dial lent in
    tries-one c.hold_session.result (request_view c.args.request.now) came lent old new (subst P c.as_slice.ensures.value c.in-Linked.ensures.dialled) c.hold_session.ensures.holds
