use Rattle.ldm_outside.proofs.StoreLemmas.{IsNotWaitedFor-own, IsNotWaitedFor-taking}
use Rattle.ldm_actions.proofs.programs.end.Goals as goal

pub wait-requires : goal.wait-requires
wait-requires g c =
    let tells = g.L.Launcher.tells in
    IsNotWaitedFor-own c.args.child (tells c.args.launcher.now) (tells c.shut.new.self) c.in_ok-shut.ensures.shut
    (IsNotWaitedFor-taking c.args.child (tells c.args.launcher.now) c.requires)
