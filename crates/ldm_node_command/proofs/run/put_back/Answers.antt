use Rattle.std.proofs.Common.{subst, arith}
use Rattle.std.specs.Option.{option_map}
use Rattle.ldm_disk.specs.Desks.{desk_tells}
use Rattle.ldm_shared.specs.Passes.{PassView}
use Rattle.ldm_conf.specs.Confs.{conf_view}
use Rattle.ldm_node.specs.Clerks.{clerk_tells}
use Rattle.ldm_node_command.specs.Restoring.{FailsToRestore, restored_net}
use Rattle.ldm_node_command.specs.Setup.{setup_of}
use Rattle.ldm_node_command.proofs.Journaling.{last_new, last_of, put_back_with}
use Rattle.ldm_node_command.proofs.run.put_back.Goals as goal

pub restore_queue-requires-clause-of : goal.restore_queue-requires-clause-of
restore_queue-requires-clause-of g c κs within =
    last_of c.args.shared.now c.args.passes.now.items c.pop.new.self.items c.in-Some.pass c.requires.passes c.in-Some.ensures.items (omega (arith, c.requires.count))

pub returns-in-Ok-clause-back : goal.returns-in-Ok-clause-back
returns-in-Ok-clause-back g c =
    let tells = desk_tells g.N.DeskDisk.Disk.tells g.N.StationLog.Sink.tells g.N.StationClock.Clock.tells g.N.StationGate.Gate.tells in
    put_back_with c.args.shared.now c.args.passes.now.items c.pop.new.self.items c.in-Some.pass c.requires.passes c.in-Some.ensures.items (omega (arith, c.requires.count))
    (setup_of c.args.setup.now) (conf_view c.args.conf.now) (option_map (clerk_tells tells) c.in-Ok.resumed.clerk) c.in-Ok.resumed.lasts.items c.restore_queue.new.pass c.push_reserved.new.self.items c.in-Ok.ensures.kept
    c.push_reserved.ensures.items c.in-Ok.ensures.restored

pub returns-in-Err-clause-fails : goal.returns-in-Err-clause-fails
returns-in-Err-clause-fails g c =
    let tells = desk_tells g.N.DeskDisk.Disk.tells g.N.StationLog.Sink.tells g.N.StationClock.Clock.tells g.N.StationGate.Gate.tells in
    let old = c.args.net.now in
    let new = c.restore_queue.new.net in
    let is = last_new c.args.shared.now c.args.passes.now.items c.pop.new.self.items c.in-Some.pass c.requires.passes c.in-Some.ensures.items (omega (arith, c.requires.count)) in (
      c.in-Err.ensures.fails.0,
      subst
          (λ (p : PassView). FailsToRestore (setup_of c.args.setup.now) (conf_view c.args.conf.now) c.in-Err.why p (restored_net (g.N.Dial.tells old) (option_map tells (g.N.Desks.kept_desk old)))
          (restored_net (g.N.Dial.tells new) (option_map tells (g.N.Desks.kept_desk new)))) is c.in-Err.ensures.fails.1,
    )
