use Rattle.std.proofs.Common.{◌≡◌, false}
use Rattle.ldm_outside.specs.Station.{station_tells}
use Rattle.ldm_shared.specs.Passes.{IsSamePass}
use Rattle.ldm_conf.specs.Confs.{request_view}
use Rattle.ldm_node.specs.RequestMoments.{moment}
use Rattle.ldm_node.specs.Roles.{last_view}
use Rattle.ldm_node.proofs.RequestWorking.{Goes}
use Rattle.ldm_node.proofs.request_worker.work_request.Given as goal

abbrev pub invariant-loop : goal.invariant-loop
invariant-loop g l = record {
  goes : Goes (request_view l.request)
      (moment l.fn.pass (station_tells g.D.Door.tells g.I.Dial.tells g.E.Sink.tells g.C.Clock.tells g.G.Gate.tells l.fn.station) (last_view l.fn.last))
      (moment l.pass (station_tells g.D.Door.tells g.I.Dial.tells g.E.Sink.tells g.C.Clock.tells g.G.Gate.tells l.station) (last_view l.last));
  none_out : (g.I.Dial.tells l.station.dial).links.out ≡ false;
  door : l.station.door ≡ l.fn.station.door;
  same : IsSamePass l.fn.pass l.pass;
}
