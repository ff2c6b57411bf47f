use Rattle.ldm_outside.proofs.StoreLemmas.{IsTaking-detached}
use Rattle.ldm_drive.proofs.programs.detach.Goals as goal

pub returns : goal.returns
returns g c = λ other apart taking. IsTaking-detached other c.args.child (g.L.Launcher.tells c.args.launcher.now) (g.L.Launcher.tells c.detach.new.self) apart c.detach.ensures.detached taking
