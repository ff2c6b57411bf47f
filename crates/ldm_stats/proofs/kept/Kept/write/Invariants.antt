use Rattle.std.proofs.Common.{◌≡◌, ◌++◌}
use Rattle.ldm_stats.specs.Joining.{Entries}
use Rattle.ldm_stats.specs.Report.{asked_of, lines_of}
use Rattle.ldm_stats.proofs.kept.Kept.write.Given as goal

abbrev pub invariant-loop-place : goal.invariant-loop-place
invariant-loop-place l =
    (goal.iterator-loop-place).can_next l.place-iterator
    × (goal.iterator-loop-place).is_finite l.place-iterator
    × (done : Entries) × (done ++ l.place-iterator ≡ l.fn.self) × (l.out.items ≡ l.initial.out.items ++ lines_of (asked_of l.hour done))
