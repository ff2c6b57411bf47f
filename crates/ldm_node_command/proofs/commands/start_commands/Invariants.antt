use Rattle.std.proofs.Common.{◌≡◌, ◌≤◌, map, take, length, vec_len}
use Rattle.std.specs.Vec.{vec_capacity}
use Rattle.ldm_conf.specs.Confs.{command_view}
use Rattle.ldm_node_command.specs.Commands.{numbers_from, with_commands}
use Rattle.ldm_node_command.proofs.commands.start_commands.Given as goal

abbrev pub invariant-loop-command : goal.invariant-loop-command
invariant-loop-command g l = record {
  room : length l.commands ≤ vec_capacity l.children;
  count : vec_len l.children ≡ l.command-index;
  numbers : l.children.items ≡ numbers_from (g.L.Launcher.tells l.initial.launcher).next (map command_view (take l.command-index l.commands));
  started : g.L.Launcher.tells l.launcher ≡ with_commands (map command_view (take l.command-index l.commands)) (g.L.Launcher.tells l.initial.launcher);
  faults_kept : (g.L.Launcher.tells l.initial.launcher).faults ≤ (g.L.Launcher.tells l.launcher).faults;
}
