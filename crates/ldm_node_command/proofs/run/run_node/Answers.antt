use Rattle.std.specs.Option.{option_map}
use Rattle.ldm_disk.specs.Desks.{desk_tells}
use Rattle.ldm_outside.specs.declared.net.Station.{Station}
use Rattle.ldm_outside.specs.Station.{station_tells}
use Rattle.ldm_node_command.specs.Outside.{Outside, outside_of}
use Rattle.ldm_node_command.specs.Setup.{setup_of}
use Rattle.ldm_node_command.proofs.CompleteLemmas.{node_completes}
use Rattle.ldm_node_command.proofs.LawLemmas.{node_obeys}
use Rattle.ldm_node_command.proofs.ToldLemmas.{tells_commands}
use Rattle.ldm_node_command.proofs.run.run_node.Goals as goal

pub returns : goal.returns
returns g c =
    let S = Station g.row.N-StationDoor.Denot g.row.N-StationDial.Denot g.row.N-StationLog.Denot g.row.N-StationClock.Denot g.row.N-StationGate.Denot in
    let tells =
    station_tells g.N.StationDoor.Door.tells g.N.StationDial.Dial.tells g.N.StationLog.Sink.tells g.N.StationClock.Clock.tells g.N.StationGate.Gate.tells in
    let desks = desk_tells g.N.DeskDisk.Disk.tells g.N.StationLog.Sink.tells g.N.StationClock.Clock.tells g.N.StationGate.Gate.tells in
    let at = c.args in
    let left = c.run_steps-ending.new in
    let setup = setup_of at.setup.now in
    let old : Outside S = outside_of (g.K.Sink.tells at.sink.now) (g.E.Sink.tells at.log.now) (g.F.Store.tells at.store.now) (g.L.Launcher.tells at.launcher.now)
    (g.N.Dial.tells at.net.now) (g.N.Net.kept at.net.now) (g.N.Net.port_asked at.net.now) (option_map desks (g.N.Desks.kept_desk at.net.now)) in
    let new : Outside S = outside_of (g.K.Sink.tells left.sink) (g.E.Sink.tells c.report.new.log) (g.F.Store.tells left.store) (g.L.Launcher.tells left.launcher)
    (g.N.Dial.tells left.net) (g.N.Net.kept left.net) (g.N.Net.port_asked left.net) (option_map desks (g.N.Desks.kept_desk left.net)) in
    let ending = c.run_steps-ending.result in
    let said = c.run_steps-ending.ensures in
    let ends = said.ends old.log new.log in
    record {
      ends = (ending, ends, c.report.ensures.tells);
      law = node_obeys tells setup c.report.result old new ending ends c.report.ensures.tells;
      completes = λ free. node_completes tells setup old new free ending c.report.result ends c.report.ensures.tells;
      commands = tells_commands tells setup c.report.result old new ending ends c.report.ensures.tells;
      faults_kept = record {
        sink = said.sink_kept;
        log = c.report.ensures.faults_kept;
        store = said.store_kept;
        long = said.long_kept;
        launcher = said.launcher_kept;
        net = said.net_kept;
      };
    }
