use Rattle.std.proofs.Common.{refl, ◌∙◌}
use Rattle.ldm_outside.specs.Station.{station_tells}
use Rattle.ldm_conf.specs.Confs.{request_view}
use Rattle.ldm_node.specs.RequestMoments.{moment}
use Rattle.ldm_node.specs.Roles.{last_view}
use Rattle.ldm_node.proofs.RequestWorking.{goes-first, goes-on, stops-by_gate, stops-by_try}
use Rattle.ldm_node.proofs.SamePass.{same-then}
use Rattle.ldm_node.proofs.request_worker.work_request.Goals as goal

pub loop-init : goal.loop-init
loop-init g c =
    let at_first = station_tells g.D.Door.tells g.I.Dial.tells g.E.Sink.tells g.C.Clock.tells g.G.Gate.tells c.args.station.now in
    record { goes = goes-first (request_view c.args.request.now) (moment c.args.pass.now at_first (last_view c.args.last)); none_out = c.requires.none_out; door = refl; same = refl }

pub returns-in-Some-try_once-clause-sessions : goal.returns-in-Some-try_once-clause-sessions
returns-in-Some-try_once-clause-sessions g c =
    let at_first = station_tells g.D.Door.tells g.I.Dial.tells g.E.Sink.tells g.C.Clock.tells g.G.Gate.tells c.args.station.now in
    let before = station_tells g.D.Door.tells g.I.Dial.tells g.E.Sink.tells g.C.Clock.tells g.G.Gate.tells c.loop.station in
    let after = station_tells g.D.Door.tells g.I.Dial.tells g.E.Sink.tells g.C.Clock.tells g.G.Gate.tells c.try_once.new.station in
    let last = last_view c.try_once.new.last in (
      last,
      stops-by_try c.in-Some-try_once.stop (request_view c.args.request.now) (moment c.args.pass.now at_first (last_view c.args.last))
          (moment c.loop.pass before (last_view c.loop.last)) (moment c.try_once.new.pass after last)
          c.loop.invariant.goes c.in-Some-try_once.ensures.tries,
    )

pub loop-preserved : goal.loop-preserved
loop-preserved g c =
    let at_first = station_tells g.D.Door.tells g.I.Dial.tells g.E.Sink.tells g.C.Clock.tells g.G.Gate.tells c.args.station.now in
    let before = station_tells g.D.Door.tells g.I.Dial.tells g.E.Sink.tells g.C.Clock.tells g.G.Gate.tells c.loop.station in
    let between = station_tells g.D.Door.tells g.I.Dial.tells g.E.Sink.tells g.C.Clock.tells g.G.Gate.tells c.try_once.new.station in
    let after = record between { gate = g.G.Gate.tells c.idle.new.self } in
    let last = last_view c.try_once.new.last in
    record {
      goes = goes-on (request_view c.args.request.now) (moment c.args.pass.now at_first (last_view c.args.last))
          (moment c.loop.pass before (last_view c.loop.last)) (moment c.try_once.new.pass between last) (moment c.try_once.new.pass after last)
          c.loop.invariant.goes c.in-None-try_once.ensures.tries c.in-None-try_once.ensures.counts c.in-On.ensures.answered c.in-On.ensures.stops_kept refl;
      none_out = c.in-None-try_once.ensures.none_out;
      door = ◌∙◌ {b = c.loop.station.door} c.in-None-try_once.ensures.door c.loop.invariant.door;
      same = same-then c.args.pass.now c.loop.pass c.try_once.new.pass c.loop.invariant.same c.in-None-try_once.ensures.kept;
    }

pub returns-in-Stop-clause-sessions : goal.returns-in-Stop-clause-sessions
returns-in-Stop-clause-sessions g c =
    let at_first = station_tells g.D.Door.tells g.I.Dial.tells g.E.Sink.tells g.C.Clock.tells g.G.Gate.tells c.args.station.now in
    let before = station_tells g.D.Door.tells g.I.Dial.tells g.E.Sink.tells g.C.Clock.tells g.G.Gate.tells c.loop.station in
    let between = station_tells g.D.Door.tells g.I.Dial.tells g.E.Sink.tells g.C.Clock.tells g.G.Gate.tells c.try_once.new.station in
    let after = record between { gate = g.G.Gate.tells c.idle.new.self } in
    let last = last_view c.try_once.new.last in (
      last,
      stops-by_gate (request_view c.args.request.now) (moment c.args.pass.now at_first (last_view c.args.last))
          (moment c.loop.pass before (last_view c.loop.last)) (moment c.try_once.new.pass between last) (moment c.try_once.new.pass after last)
          c.loop.invariant.goes c.in-None-try_once.ensures.tries c.in-Stop.ensures.answered refl,
    )
