use Rattle.std.proofs.Common.{◌≡◌, length}
use Rattle.ldm_check.specs.Concerns.{may_hold_slash_at}
use Rattle.ldm_check.proofs.patterns.may_hold_slash.Given as goal

abbrev pub invariant-loop-left : goal.invariant-loop-left
invariant-loop-left l = may_hold_slash_at l.initial.in_group l.initial.place l.initial.left ≡ may_hold_slash_at l.in_group l.place l.left

abbrev pub decreases-loop-left : goal.decreases-loop-left
decreases-loop-left l = length l.left
