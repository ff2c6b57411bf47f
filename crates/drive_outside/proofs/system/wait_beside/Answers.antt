use Rattle.drive_outside.proofs.Beside.{taking_after_wait}
use Rattle.drive_outside.proofs.system.wait_beside.Goals as goal

pub returns : goal.returns
returns g c = taking_after_wait c.wait.result c.args.child c.args.other (g.L.Launcher.tells c.args.launcher.now) (g.L.Launcher.tells c.wait.new.self) c.wait.ensures.waited c.requires.apart c.requires.other
