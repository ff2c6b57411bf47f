use Rattle.std.proofs.Common.{ap, refl, subst}
use Rattle.std.specs.Option.{option_copied, option_map}
use Rattle.ldm_outside.specs.Dial.{DialRecord}
use Rattle.ldm_disk.specs.Desks.{DeskRecord, desk_tells}
use Rattle.std.specs.Prelude.{Option}
use Rattle.ldm_node_command.specs.Restoring.{FailsToRestore, HasJournal, restored_net}
use Rattle.ldm_conf.specs.Confs.{conf_view}
use Rattle.ldm_node_command.specs.Setup.{setup_of}
use Rattle.ldm_node_command.proofs.restoring.restore_queue.Goals as goal

pub furnish-requires-clause-named : goal.furnish-requires-clause-named
furnish-requires-clause-named g c κs within = ap option_copied c.in-Some.is

pub returns-in-Ok-clause-restored : goal.returns-in-Ok-clause-restored
returns-in-Ok-clause-restored g c = c.in-Ok.ensures.restored

pub returns-in-Err-clause-fails : goal.returns-in-Err-clause-fails
returns-in-Err-clause-fails g c =
    let tells = desk_tells g.N.DeskDisk.Disk.tells g.N.StationLog.Sink.tells g.N.StationClock.Clock.tells g.N.StationGate.Gate.tells in
    let setup = setup_of c.args.setup.now in
    let left = c.furnish.new.net in
    let new = restored_net (g.N.Dial.tells left) (option_map tells (g.N.Desks.kept_desk left)) in
    let path : HasJournal setup = (c.in-Some.path.now, ap option_copied c.in-Some.is) in (
      path,
      subst (λ (net : DialRecord). FailsToRestore setup (conf_view c.args.conf.now) c.in-Err.why c.args.pass.now (restored_net net (option_map tells (g.N.Desks.kept_desk c.args.net.now))) new) c.tell_stops.ensures.same
          (subst
          (λ (desk : Option DeskRecord). FailsToRestore setup (conf_view c.args.conf.now) c.in-Err.why c.args.pass.now (restored_net (g.N.Dial.tells c.tell_stops.new.net) desk) new)
          (ap (option_map tells) c.tell_stops.ensures.desk) c.in-Err.ensures.fails),
    )

pub returns-in-None-clause-restored : goal.returns-in-None-clause-restored
returns-in-None-clause-restored g c = (ap option_copied c.in-None.is, refl, c.new.ensures.items)
