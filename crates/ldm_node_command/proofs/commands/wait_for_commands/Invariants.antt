use Rattle.std.proofs.Common.{◌≡◌, ◌≤◌, take, drop}
use Rattle.ldm_node_command.specs.Commands.{AllRun, with_waits}
use Rattle.ldm_node_command.proofs.commands.wait_for_commands.Given as goal

abbrev pub invariant-loop-child : goal.invariant-loop-child
invariant-loop-child g l = record {
  waited : g.L.Launcher.tells l.launcher ≡ with_waits (take l.child-index l.children) (g.L.Launcher.tells l.initial.launcher);
  running : AllRun (drop l.child-index l.children) (g.L.Launcher.tells l.launcher);
  faults_kept : (g.L.Launcher.tells l.initial.launcher).faults ≤ (g.L.Launcher.tells l.launcher).faults;
}
