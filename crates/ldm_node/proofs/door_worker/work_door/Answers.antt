use Rattle.std.proofs.Common.{◌∙◌}
use Rattle.ldm_outside.specs.Station.{station_tells}
use Rattle.ldm_node.specs.DoorMoments.{moment}
use Rattle.ldm_node.proofs.DoorWorking.{goes-on}
use Rattle.ldm_node.proofs.SamePass.{same-then}
use Rattle.ldm_node.proofs.door_worker.work_door.Goals as goal

pub loop-held-preserved : goal.loop-held-preserved
loop-held-preserved g c =
    let at_first = station_tells g.D.Door.tells g.I.Dial.tells g.E.Sink.tells g.C.Clock.tells g.G.Gate.tells c.args.station.now in
    let before = station_tells g.D.Door.tells g.I.Dial.tells g.E.Sink.tells g.C.Clock.tells g.G.Gate.tells c.loop-held.station in
    let after = station_tells g.D.Door.tells g.I.Dial.tells g.E.Sink.tells g.C.Clock.tells g.G.Gate.tells c.admit_one.new.station in
    record {
      goes = goes-on c.args.conf.now.policy c.loop-held.held (moment c.args.pass.now at_first) (moment c.loop-held.pass before) (moment c.admit_one.new.pass after)
          c.loop-held.invariant.goes c.in-None.ensures.admits c.in-None.ensures.counts;
      none_out = c.in-None.ensures.none_out;
      dial = ◌∙◌ {b = c.loop-held.station.dial} c.in-None.ensures.dial c.loop-held.invariant.dial;
      same = same-then c.args.pass.now c.loop-held.pass c.admit_one.new.pass c.loop-held.invariant.same c.in-None.ensures.kept;
    }
