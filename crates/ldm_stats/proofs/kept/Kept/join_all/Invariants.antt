use Rattle.std.proofs.Common.{◌≡◌, ◌+◌}
use Rattle.ldm_stats.specs.Place.{Place}
use Rattle.ldm_stats.specs.Joining.{count_of, joined, total_at, IsAscending}
use Rattle.ldm_stats.proofs.kept.Kept.join_all.Given as goal

abbrev pub invariant-loop-place : goal.invariant-loop-place
invariant-loop-place l =
    (goal.iterator-loop-place).can_next l.place-iterator
    × (goal.iterator-loop-place).is_finite l.place-iterator
    × ((place : Place) → joined (total_at place l.self) (total_at place l.place-iterator) ≡ joined (total_at place l.initial.self) (total_at place l.fn.others))
    × (count_of l.self + count_of l.place-iterator ≡ count_of l.initial.self + count_of l.fn.others)
    × IsAscending l.place-iterator
