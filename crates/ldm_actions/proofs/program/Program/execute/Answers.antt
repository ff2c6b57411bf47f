use Rattle.std.proofs.Common.{false}
use Rattle.ldm_outside.proofs.StoreLemmas.{IsNotWaitedFor-taking, IsTaking-last}
use Rattle.ldm_actions.proofs.program.Program.execute.Goals as goal

pub wait-requires : goal.wait-requires
wait-requires g c =
    let tells = g.L.Launcher.tells in
    let told = c.in_ok-child.ensures in
    IsNotWaitedFor-taking c.in_ok-child.child (tells c.start.new.launcher)
    (IsTaking-last c.in_ok-child.child told.0 false (tells c.args.launcher.now) (tells c.start.new.launcher) told.2.0 told.2.1)

pub detach-requires : goal.detach-requires
detach-requires g c =
    let tells = g.L.Launcher.tells in
    let told = c.in_ok-child.ensures in
    IsNotWaitedFor-taking c.in_ok-child.child (tells c.start.new.launcher)
    (IsTaking-last c.in_ok-child.child told.0 false (tells c.args.launcher.now) (tells c.start.new.launcher) told.2.0 told.2.1)
