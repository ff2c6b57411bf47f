use Rattle.std.proofs.Common.{rules, sym, subst}
use Rattle.ldm_disk.specs.Desks.{desk_tells}
use Rattle.ldm_outside.specs.Station.{station_tells}
use Rattle.ldm_commands.specs.declared.command.Command.{Command}
use Rattle.ldm_commands.specs.Doing.{Done}
use Rattle.ldm_commands.specs.Views.{form_of}
use Rattle.ldm_commands.specs.World.{kept_desk_of, tells_of, world_view}
use Rattle.ldm_commands.proofs.run.run.Goals as goal

-- The clauses of an exercise hold whatever the source tells: here what the source of the world does.
pub returns-in-Exercise : goal.returns-in-Exercise
returns-in-Exercise g c =
    let source = g.S.Source.tells in
    let tells = tells_of g.K.Sink.tells g.F.Store.tells g.L.Launcher.tells
    (station_tells g.N.StationDoor.Door.tells g.N.StationDial.Dial.tells g.N.StationLog.Sink.tells g.N.StationClock.Clock.tells g.N.StationGate.Gate.tells) in
    let desk = kept_desk_of g.N.Desks.kept_desk
    (desk_tells g.N.DeskDisk.Disk.tells g.N.StationLog.Sink.tells g.N.StationClock.Clock.tells g.N.StationGate.Gate.tells) in
    let old = world_view source g.E.Sink.tells g.C.Clock.tells g.N.Dial.tells g.N.Net.kept g.N.Net.port_asked desk g.D.Disk.tells c.args.world.now in
    let new = world_view source g.E.Sink.tells g.C.Clock.tells g.N.Dial.tells g.N.Net.kept g.N.Net.port_asked desk g.D.Disk.tells (record c.args.world.now { streams = c.exercise.new.streams }) in
    subst (λ (command : Command). Done tells (form_of command) c.exercise.result old new) (sym c.in-Exercise.is) (record {
      does = (c.exercise.ensures.ends source, search rules);
      law = c.exercise.ensures.law source;
      completes = c.exercise.ensures.completes source;
      faults_kept = record {
        streams = c.exercise.ensures.faults_kept source;
        store = search rules;
        launcher = search rules;
        net = search rules;
        disk = search rules;
      };
    })
