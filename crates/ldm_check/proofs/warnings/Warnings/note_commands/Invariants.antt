use Rattle.std.proofs.Common.{◌≡◌}
use Rattle.ldm_check.proofs.warnings.Warnings.note_commands.Given as goal

abbrev pub invariant-loop-command : goal.invariant-loop-command
invariant-loop-command l = l.self.list ≡ l.initial.self.list
