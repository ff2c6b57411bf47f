use Rattle.ldm_drive.proofs.Kept.{started}
use Rattle.ldm_drive.proofs.programs.start.Goals as goal

pub returns : goal.returns
returns g c = started c.start.result c.args.words.now c.args.piped (g.L.Launcher.tells c.args.launcher.now) (g.L.Launcher.tells c.start.new.self) c.start.ensures.started
