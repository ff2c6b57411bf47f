use Rattle.std.proofs.Common.{◌≡◌, length}
use Rattle.ldm_check.specs.Concerns.{names_group_behind}
use Rattle.ldm_check.proofs.warnings.names_group.Given as goal

abbrev pub invariant-loop-left : goal.invariant-loop-left
invariant-loop-left l = names_group_behind l.initial.escaped l.initial.left ≡ names_group_behind l.escaped l.left

abbrev pub decreases-loop-left : goal.decreases-loop-left
decreases-loop-left l = length l.left
