use Rattle.std.proofs.Common.{◌≡◌}
use Rattle.ldm_stats.specs.Report.{first_from}
use Rattle.ldm_stats.proofs.kept.Kept.next_hour.Given as goal

abbrev pub invariant-loop-place : goal.invariant-loop-place
invariant-loop-place l =
    (goal.iterator-loop-place).can_next l.place-iterator
    × (goal.iterator-loop-place).is_finite l.place-iterator
    × (first_from l.from l.place-iterator ≡ first_from l.from l.fn.self)
