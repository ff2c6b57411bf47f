use Rattle.std.proofs.Common.{◌≡◌, ◌++◌, length}
use Rattle.ldm_check.specs.Warnings.{warning_views, warnings_text}
use Rattle.ldm_check.proofs.warning.put_warnings.Given as goal

abbrev pub invariant-loop-left : goal.invariant-loop-left
invariant-loop-left l =
    l.out.items ++ warnings_text (warning_views l.left) ≡ l.initial.out.items ++ warnings_text (warning_views l.initial.left)

abbrev pub decreases-loop-left : goal.decreases-loop-left
decreases-loop-left l = length l.left
