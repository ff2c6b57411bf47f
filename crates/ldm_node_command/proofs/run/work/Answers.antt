use Rattle.std.proofs.Common.{List, Option, subst}
use Rattle.ldm_types.specs.declared.signature.Signature.{Signature}
use Rattle.ldm_outside.specs.declared.net.Station.{Station}
use Rattle.ldm_outside.specs.Station.{station_tells}
use Rattle.ldm_conf.specs.Confs.{conf_view}
use Rattle.ldm_node.specs.Node.{Outcome}
use Rattle.ldm_node_command.specs.Node.{Works}
use Rattle.ldm_node_command.specs.Setup.{setup_of}
use Rattle.ldm_node_command.proofs.RunLemmas.{stands, works}
use Rattle.ldm_node_command.proofs.SharedConf.{Conf-row}
use Rattle.ldm_node_command.proofs.run.work.Goals as goal

pub node-requires-clause-shareable : goal.node-requires-clause-shareable
node-requires-clause-shareable g c κs within = Conf-row

pub returns-clause-works : goal.returns-clause-works
returns-clause-works g c =
    let tells = station_tells g.D.Door.tells g.I.Dial.tells g.E.Sink.tells g.C.Clock.tells g.G.Gate.tells in
    let left = c.node.result in
    let setup = setup_of c.args.setup.now in
    let conf = conf_view c.args.conf in
    let S = Station g.row.D.Denot g.row.I.Denot g.row.E.Denot g.row.C.Denot g.row.G.Denot in
    let behind : Outcome S = record { pass = left.pass; stations = left.stations.items; end = left.end } in
    subst (λ (lasts : List (Option Signature)). Works tells setup conf lasts c.args.stations.items behind) c.deref.ensures.value
    (works tells setup conf c.args.shared c.requires.made c.deref.result.now c.args.stations.items behind c.node.ensures.last c.node.ensures.law c.node.ensures.worked
    c.node.ensures.causes c.node.ensures.completes)

pub returns-clause-stands : goal.returns-clause-stands
returns-clause-stands g c =
    stands (setup_of c.args.setup.now) (conf_view c.args.conf) c.args.shared c.requires.made c.node.result.book c.node.result.pass.seen c.node.ensures.stands
