use Rattle.ldm_drive.proofs.Kept.{started_beside, taking_after_start}
use Rattle.ldm_drive.proofs.programs.start_beside.Goals as goal

pub returns-clause-other : goal.returns-clause-other
returns-clause-other g c = taking_after_start c.start.result c.args.words.now c.args.piped c.args.other (g.L.Launcher.tells c.args.launcher.now) (g.L.Launcher.tells c.start.new.self) c.start.ensures.started c.requires.other

pub returns-clause-started : goal.returns-clause-started
returns-clause-started g c = started_beside c.start.result c.args.words.now c.args.piped c.args.other (g.L.Launcher.tells c.args.launcher.now) (g.L.Launcher.tells c.start.new.self) c.start.ensures.started c.requires.other
