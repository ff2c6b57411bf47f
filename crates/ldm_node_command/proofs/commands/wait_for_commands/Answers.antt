use Rattle.std.proofs.Common.{arith}
use Rattle.std.proofs.lemmas.Result.{err_from_is_err_and}
use Rattle.ldm_node_command.proofs.CommandLemmas.{fails_to_wait, one_waited, rest_runs}
use Rattle.ldm_node_command.proofs.commands.wait_for_commands.Goals as goal

pub returns-in_err-wait-clause-waits : goal.returns-in_err-wait-clause-waits
returns-in_err-wait-clause-waits g c =
    let p = err_from_is_err_and c.from_residual.result c.from_residual.ensures.1 in
    rw (p.1)
    (fails_to_wait c.args.children.now c.loop-child.child-index (record { 0 = 0 }) c.loop-child-test.true (g.L.Launcher.tells c.args.launcher.now) (g.L.Launcher.tells c.loop-child.launcher)
    (g.L.Launcher.tells c.wait.new.self) c.loop-child.invariant.waited
    c.in_err-wait.ensures.waited)

pub loop-child-preserved : goal.loop-child-preserved
loop-child-preserved g c =
    let old = g.L.Launcher.tells c.args.launcher.now in
    let mid = g.L.Launcher.tells c.loop-child.launcher in
    let new = g.L.Launcher.tells c.wait.new.self in
    record {
      waited = one_waited c.args.children.now c.loop-child.child-index _ c.loop-child-test.true old mid new c.loop-child.invariant.waited c.in_ok-wait.ensures.waited;
      running = rest_runs c.args.children.now c.loop-child.child-index _ c.loop-child-test.true old mid new c.loop-child.invariant.waited c.loop-child.invariant.running c.in_ok-wait.ensures.waited;
      faults_kept = omega (arith, c.loop-child.invariant.faults_kept, c.wait.ensures.faults_kept);
    }
