use Rattle.std.proofs.Common.{◌≡◌, false}
use Rattle.ldm_outside.specs.Station.{station_tells}
use Rattle.ldm_shared.specs.Passes.{IsSamePass}
use Rattle.ldm_node.specs.DoorMoments.{moment}
use Rattle.ldm_node.proofs.DoorWorking.{Goes}
use Rattle.ldm_node.proofs.door_worker.work_door.Given as goal

abbrev pub invariant-loop-held : goal.invariant-loop-held
invariant-loop-held g l = record {
  goes : Goes l.conf.policy l.held
      (moment l.fn.pass (station_tells g.D.Door.tells g.I.Dial.tells g.E.Sink.tells g.C.Clock.tells g.G.Gate.tells l.fn.station))
      (moment l.pass (station_tells g.D.Door.tells g.I.Dial.tells g.E.Sink.tells g.C.Clock.tells g.G.Gate.tells l.station));
  none_out : (g.D.Door.tells l.station.door).links.out ≡ false;
  dial : l.station.dial ≡ l.fn.station.dial;
  same : IsSamePass l.fn.pass l.pass;
}
