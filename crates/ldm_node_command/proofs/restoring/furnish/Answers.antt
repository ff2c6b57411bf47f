use Rattle.std.proofs.Common.{◌≡◌, ◌∙◌, List, Some, ap, refl, subst}
use Rattle.std.specs.Option.{option_map}
use Rattle.ldm_disk.specs.Desks.{desk_tells}
use Rattle.ldm_conf.specs.Confs.{conf_view}
use Rattle.ldm_recorder.specs.declared.line.Line.{Line}
use Rattle.ldm_node_command.specs.Restoring.{PutsBack, PutsNone, moment, reopening_of, restored_net, wanted_for}
use Rattle.ldm_node_command.specs.Setup.{setup_of}
use Rattle.ldm_node_command.proofs.Attaching.{fails_at_desk}
use Rattle.ldm_node_command.proofs.restoring.furnish.Goals as goal

pub returns-in-Ok-open_recorder-clause-restored : goal.returns-in-Ok-open_recorder-clause-restored
returns-in-Ok-open_recorder-clause-restored g c =
    let tells = desk_tells g.N.DeskDisk.Disk.tells g.N.StationLog.Sink.tells g.N.StationClock.Clock.tells g.N.StationGate.Gate.tells in
    let found : PutsBack (wanted_for (setup_of c.args.setup.now) (conf_view c.args.conf.now)) (reopening_of c.in-Ok-open_recorder.made.recorder c.in-Ok-open_recorder.made.lasts.items)
    (moment c.args.pass.now (g.N.DeskDisk.Disk.tells c.in-Desk.desk.disk)) (moment c.open_recorder.new.pass (g.N.DeskDisk.Disk.tells c.open_recorder.new.disk)) =
    subst (λ (lines : List Line). PutsBack (record { ring = c.args.setup.now.arena; lines = lines }) (reopening_of c.in-Ok-open_recorder.made.recorder c.in-Ok-open_recorder.made.lasts.items)
    (moment c.args.pass.now (g.N.DeskDisk.Disk.tells c.in-Desk.desk.disk)) (moment c.open_recorder.new.pass (g.N.DeskDisk.Disk.tells c.open_recorder.new.disk)))
    c.in-Ok.ensures.lines c.in-Ok-open_recorder.ensures.back in
    ((c.args.path.now, c.requires.named), record { given = tells c.in-Desk.desk; is_new = c.in-Desk.ensures.given.0; same = refl; back = found })

pub returns-in-Err-open_recorder-clause-fails : goal.returns-in-Err-open_recorder-clause-fails
returns-in-Err-open_recorder-clause-fails g c =
    let tells = desk_tells g.N.DeskDisk.Disk.tells g.N.StationLog.Sink.tells g.N.StationClock.Clock.tells g.N.StationGate.Gate.tells in
    let old = c.args.net.now in
    let new = c.keep_desk.new.self in
    let desk = record c.in-Desk.desk { disk = c.open_recorder.new.disk } in
    let kept : option_map tells (g.N.Desks.kept_desk new) ≡ Some (tells desk) = ap (option_map tells) c.keep_desk.ensures.kept_desk in
    let puts : PutsNone c.in-Err-open_recorder.why (wanted_for (setup_of c.args.setup.now) (conf_view c.args.conf.now)) (moment c.args.pass.now (g.N.DeskDisk.Disk.tells c.in-Desk.desk.disk))
    (moment c.open_recorder.new.pass (g.N.DeskDisk.Disk.tells c.open_recorder.new.disk)) =
    subst (λ (lines : List Line). PutsNone c.in-Err-open_recorder.why (record { ring = c.args.setup.now.arena; lines = lines })
    (moment c.args.pass.now (g.N.DeskDisk.Disk.tells c.in-Desk.desk.disk)) (moment c.open_recorder.new.pass (g.N.DeskDisk.Disk.tells c.open_recorder.new.disk)))
    c.in-Ok.ensures.lines c.in-Err-open_recorder.ensures.back in
    fails_at_desk (setup_of c.args.setup.now) (conf_view c.args.conf.now) c.in-Err-open_recorder.why c.args.pass.now (restored_net (g.N.Dial.tells old) (option_map tells (g.N.Desks.kept_desk old)))
    (restored_net (g.N.Dial.tells new) (option_map tells (g.N.Desks.kept_desk new)))
    (record {
      given = tells c.in-Desk.desk;
      is_new = c.in-Desk.ensures.given.0;
      left = tells desk;
      kept = kept;
      same = c.keep_desk.ensures.same ∙ c.in-Desk.ensures.given.1;
      pass = c.open_recorder.new.pass;
      puts = puts;
    })
