-- A search by halving: the products before one end of it do not reach the bound, and those from the other end on do.
use Rattle.std.proofs.Common.{◌≡◌, ℕ, ◌+◌, ◌<◌, ◌≤◌, inl, inr, true, false, List, length, get_or, sym, ap, ◌∙◌, arith}
use Rattle.std.specs.List.{position_or_len}
use Rattle.std.proofs.lemmas.Bool.{both_ways, cases_eq, le-leb, leb-true, lt-ltb, ltb-true, false_from_ne_true}
use Rattle.std.proofs.lemmas.List.{get_or_default}
use Rattle.std.proofs.lemmas.List.Sums.{position_or_len_is}
use Rattle.ldm_timeindex.specs.Kept.{reaches}
use Rattle.ldm_timeindex.specs.Times.{Queued, IsRising, Precedes}
use Rattle.ldm_timeindex.specs.declared.bound.Bound.{Bound}
use Rattle.ldm_timeindex.specs.declared.bound.Bound.TheVariants.{AtLeast, LaterThan}
use Rattle.ldm_timeindex.proofs.Rising.{rising_at}

-- what reaches a bound is followed by what reaches it
reaches_after : (bound : Bound) (one other : Queued) → Precedes one other → reaches bound one ≡ true → reaches bound other ≡ true
reaches_after (AtLeast n) one other up reached = le-leb n other.n (omega (arith, up.0, leb-true n one.n reached))
reaches_after (LaterThan time) one other up reached = lt-ltb time other.time (omega (arith, up.1, ltb-true time one.time reached))

pub record IsBetween (bound : Bound) (xs : List Queued) (low high : ℕ) : Type 0 where
  pub ordered : low ≤ high
  pub inside : high ≤ length xs
  pub below : (k : ℕ) (d : Queued) → k < low → reaches bound (get_or xs k d) ≡ false
  pub above : (k : ℕ) (d : Queued) → high ≤ k → k < length xs → reaches bound (get_or xs k d) ≡ true

pub between_all : (bound : Bound) (xs : List Queued) (count : ℕ) → count ≡ length xs → IsBetween bound xs 0 count
between_all bound xs count len = record {
  ordered = omega arith;
  inside = omega arith;
  below = λ k d lt. absurd (omega arith);
  above = λ k d ge lt. absurd (omega arith);
}

pub between_below : (bound : Bound) (xs : List Queued) (low high middle : ℕ) (d : Queued) → IsRising xs → low ≤ middle → middle < high → reaches bound (get_or xs middle d) ≡ true → IsBetween bound xs low high → IsBetween bound xs low middle
between_below bound xs low high middle d up ge lt reached was = record {
  ordered = ge;
  inside = omega (arith, was.inside);
  below = was.below;
  above = λ k d' from inside.
      let here : reaches bound (get_or xs middle d') ≡ true = ap (reaches bound) (get_or_default xs middle d' d (omega (arith, was.inside))) ∙ reached in
      elim (cases_eq k middle) [
        | inl same ↦ ap (λ j. reaches bound (get_or xs j d')) same ∙ here
        | inr apart ↦ reaches_after bound _ _ (rising_at xs middle k d' up (omega arith) inside) here
      ];
}

pub between_above : (bound : Bound) (xs : List Queued) (low high middle : ℕ) (d : Queued) → IsRising xs → low ≤ middle → middle < high → reaches bound (get_or xs middle d) ≡ false → IsBetween bound xs low high → IsBetween bound xs (middle + 1) high
between_above bound xs low high middle d up ge lt not_reached was = record {
  ordered = omega arith;
  inside = was.inside;
  below = λ k d' before.
      let here : reaches bound (get_or xs middle d') ≡ false = ap (reaches bound) (get_or_default xs middle d' d (omega (arith, was.inside))) ∙ not_reached in
      elim (cases_eq k middle) [
        | inl same ↦ ap (λ j. reaches bound (get_or xs j d')) same ∙ here
        | inr apart ↦ false_from_ne_true _ (λ reached. both_ways _ here (reaches_after bound _ _ (rising_at xs k middle d' up (omega arith) (omega (arith, was.inside))) reached))
      ];
  above = was.above;
}

pub between_none : (bound : Bound) (xs : List Queued) (low high : ℕ) (d : Queued) → high ≤ low → IsBetween bound xs low high → low ≡ position_or_len (reaches bound) xs
between_none bound xs low high d met was =
    sym (position_or_len_is (reaches bound) xs low d (omega (arith, was.ordered, was.inside)) (λ k lt. was.below k d lt) (λ lt. was.above low d met lt))
