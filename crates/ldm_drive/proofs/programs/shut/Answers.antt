use Rattle.ldm_drive.proofs.Kept.{not_waited_after_shut}
use Rattle.ldm_drive.proofs.programs.shut.Goals as goal

pub returns : goal.returns
returns g c = not_waited_after_shut c.shut.result c.args.child (g.L.Launcher.tells c.args.launcher.now) (g.L.Launcher.tells c.shut.new.self) c.shut.ensures.shut c.requires
