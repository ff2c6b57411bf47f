use Rattle.std.proofs.Common.{◌≡◌, ◌≤◌, ◌++◌, ℕ, All, None}
use Rattle.ldm_stats.specs.declared.place.TheConstants.{LAST_HOUR}
use Rattle.ldm_stats.proofs.Hours.{hours_from_last}
use Rattle.ldm_stats.proofs.kept.Kept.hours.Given as goal

abbrev pub invariant-loop-place : goal.invariant-loop-place
invariant-loop-place l =
    (goal.iterator-loop-place).can_next l.place-iterator
    × (goal.iterator-loop-place).is_finite l.place-iterator
    × All (λ (hour : ℕ). hour ≤ LAST_HOUR) l.hours.items
    × (l.hours.items ++ hours_from_last l.last l.place-iterator ≡ hours_from_last None l.fn.self)
