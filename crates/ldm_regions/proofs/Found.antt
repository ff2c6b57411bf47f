-- The best and the longest of gaps that rise, as the sets of their pairs have them.
use Rattle.std.proofs.Common.{◌≡◌, ◌≢◌, ℕ, ◌-◌, ◌<◌, ◌≤◌, true, false, cond, leb, max, List, [], ◌∷◌, map, Option, Some, None, refl, sym, ap, ◌∙◌, arith}
use Rattle.std.specs.FinSet as set
use Rattle.std.specs.List.{AllByRecursion}
use Rattle.std.specs.Ordering.{is_lt}
use Rattle.std.specs.declared.cmp.Ordering.TheVariants.{Less, Equal, Greater}
use Rattle.std.proofs.lemmas.Bool.{both_ways, leb-true, leb-false}
use Rattle.std.proofs.lemmas.Bool.Decides.{nat_tests}
use Rattle.ldm_types.specs.Arena.{Region, shorter, best_gap, longest}
use Rattle.ldm_freelist.specs.Pairs.{pair_cmp, IsBest, IsGreatest}
use Rattle.ldm_regions.specs.Gaps.{by_extent, extent_of, IsLongest}
use Rattle.ldm_regions.specs.declared.gaps.Gap.{Gap}
use Rattle.ldm_regions.proofs.Sets.{pairs_of, split_pairs, pairs_of-first, pairs_of-later, no_pairs, Rise}
use Rattle.ldm_regions.proofs.Seams.{as_region, behind_extent}

-- one pair does not precede another
abbrev AtLeast : ℕ × ℕ → ℕ × ℕ → Type 0
AtLeast p q = (q.0 ≤ p.0) × (p.0 ≡ q.0 → q.1 ≤ p.1)

not_less : (p q : ℕ × ℕ) → is_lt (pair_cmp p q) ≡ false → AtLeast p q
not_less p q h = (grind (arith, nat_tests, h), λ e. grind (arith, nat_tests, h, e))

pub not_before : (p q : ℕ × ℕ) → pair_cmp p q ≢ Less → AtLeast p q
not_before p q h = not_less p q (elim (pair_cmp p q) as (λ r. (r ≡ Less → ⊥) → is_lt r ≡ false) [ Less ↦ λ h. absurd (h refl) | Equal ↦ λ h. refl | Greater ↦ λ h. refl ] h)

-- the first pair from a start on has that start, if one has
pub start_found : (start first one other : ℕ) → start ≤ first → pair_cmp (start, one) (first, other) ≢ Less → start ≡ first
start_found start first one other h least = let k = (not_before (start, one) (first, other) least).0 in omega arith

-- a gap that is long enough and that no long enough gap precedes
record Best (need : ℕ) (gaps : List Gap) (best : ℕ × ℕ) : Type 0 where
  there : set.contains (pairs_of by_extent gaps) best ≡ true
  long : need ≤ best.0
  least : (p : ℕ × ℕ) → set.contains (pairs_of by_extent gaps) p ≡ true → need ≤ p.0 → AtLeast p best

abbrev IsBestOf : ℕ → List Gap → Option Region → Type 0
IsBestOf need gaps None = (p : ℕ × ℕ) → set.contains (pairs_of by_extent gaps) p ≡ true → p.0 < need
IsBestOf need gaps (Some region) = Best need gaps (region.extent, region.start)

first_short : (need : ℕ) (g : Gap) (gs : List Gap) (best : Option Region) → g.end - g.start < need → IsBestOf need gs best → IsBestOf need (g ∷ gs) best
first_short need g gs None short best = λ p there. split_pairs by_extent g gs p (p.0 < need) there (λ is. let e = ap (λ (p : ℕ × ℕ). p.0) is in omega arith) (best p)
first_short need g gs (Some region) short best = record {
  there = pairs_of-later by_extent g gs (region.extent, region.start) best.there;
  long = best.long;
  least = λ p there long. split_pairs by_extent g gs p (AtLeast p (region.extent, region.start)) there (λ is. let e = ap (λ (p : ℕ × ℕ). p.0) is in absurd (omega arith)) (λ later. best.least p later long);
}

same_least : (p q : ℕ × ℕ) → p ≡ q → AtLeast p q
same_least p q e = (let k = ap (λ (r : ℕ × ℕ). r.0) e in omega arith, λ _. let k = ap (λ (r : ℕ × ℕ). r.1) e in omega arith)

first_best : (need : ℕ) (g : Gap) (gs : List Gap) → need ≤ g.end - g.start → AllByRecursion (λ h. g.start < h.start) gs → ((p : ℕ × ℕ) → set.contains (pairs_of by_extent gs) p ≡ true → need ≤ p.0 → g.end - g.start ≤ p.0) → Best need (g ∷ gs) (by_extent g)
first_best need g gs long up least = record {
  there = pairs_of-first by_extent g gs;
  long = long;
  least = λ p there enough. split_pairs by_extent g gs p (AtLeast p (by_extent g)) there (same_least p (by_extent g))
      (λ later. (least p later enough, λ _. let behind = behind_extent g.start gs p up later in omega arith));
}

first_long : (need : ℕ) (g : Gap) (gs : List Gap) (best : Option Region) → need ≤ g.end - g.start → AllByRecursion (λ h. g.start < h.start) gs → IsBestOf need gs best → IsBestOf need (g ∷ gs) (shorter (as_region g) best)
first_long need g gs None long up best = first_best need g gs long up (λ p there enough. absurd (let short = best p there in omega arith))
first_long need g gs (Some region) long up best =
    elim (leb (g.end - g.start) region.extent) as (λ b. leb (g.end - g.start) region.extent ≡ b → IsBestOf need (g ∷ gs) (cond b (Some (as_region g)) (Some region))) [
      | true ↦ λ e. let h = leb-true (g.end - g.start) region.extent e in first_best need g gs long up (λ p there enough. let k = (best.least p there enough).0 in omega arith)
      | false ↦ λ e. let h = leb-false (g.end - g.start) region.extent e in record {
        there = pairs_of-later by_extent g gs (region.extent, region.start) best.there;
        long = best.long;
        least = λ p there enough. split_pairs by_extent g gs p (AtLeast p (region.extent, region.start)) there
            (λ is. let e = ap (λ (p : ℕ × ℕ). p.0) is in (omega arith, λ f. absurd (omega arith))) (λ later. best.least p later enough);
      }
    ] refl

best_of : (need : ℕ) (gaps : List Gap) → Rise gaps → IsBestOf need gaps (best_gap need (map as_region gaps))
best_of need [] up = λ p there. absurd (no_pairs by_extent p there)
best_of need (g ∷ gs) up =
    elim (leb need (g.end - g.start)) as (λ b. leb need (g.end - g.start) ≡ b → IsBestOf need (g ∷ gs) (cond b (shorter (as_region g) (best_gap need (map as_region gs))) (best_gap need (map as_region gs)))) [
      | true ↦ λ e. first_long need g gs (best_gap need (map as_region gs)) (leb-true need (g.end - g.start) e) up.0 (best_of need gs up.1)
      | false ↦ λ e. first_short need g gs (best_gap need (map as_region gs)) (leb-false need (g.end - g.start) e) (best_of need gs up.1)
    ] refl

-- there is one best pair
none_best : (need : ℕ) (gaps : List Gap) (best : Option Region) → IsBest need (pairs_of by_extent gaps) None → IsBestOf need gaps best → None ≡ best
none_best need gaps None none best = refl
none_best need gaps (Some region) none best = absurd (none (region.extent, region.start) (best.there, best.long))

some_best : (need : ℕ) (gaps : List Gap) (best : Option Region) (region : Region) → IsBest need (pairs_of by_extent gaps) (Some (region.extent, region.start)) → IsBestOf need gaps best → Some region ≡ best
some_best need gaps None region is best = absurd (let short = best (region.extent, region.start) is.0.0 in let long = is.0.1 in omega arith)
some_best need gaps (Some other) region is best =
    let one = not_before (other.extent, other.start) (region.extent, region.start) (is.1 (other.extent, other.start) (best.there, best.long)) in
    let two = best.least (region.extent, region.start) is.0.0 is.0.1 in
    let low = one.0 in
    let high = two.0 in
    let extents : region.extent ≡ other.extent = omega arith in
    let left = one.1 (sym extents) in
    let right = two.1 extents in
    let starts : region.start ≡ other.start = omega arith in
    λ i. Some (record { start = starts i; extent = extents i })

module _ (need : ℕ) (gaps : List Gap) (up : Rise gaps) where
  pub none_is_best : IsBest need (pairs_of by_extent gaps) None → None ≡ best_gap need (map as_region gaps)
  none_is_best none = none_best need gaps (best_gap need (map as_region gaps)) none (best_of need gaps up)

  pub some_is_best : (gap : Gap) → IsBest need (pairs_of by_extent gaps) (Some (by_extent gap)) → Some (as_region gap) ≡ best_gap need (map as_region gaps)
  some_is_best gap is = some_best need gaps (best_gap need (map as_region gaps)) (as_region gap) is (best_of need gaps up)

-- each pair's extent is at most the longest, and no bound of them all is less
le_longest : (gaps : List Gap) (p : ℕ × ℕ) → set.contains (pairs_of by_extent gaps) p ≡ true → p.0 ≤ longest (map as_region gaps)
le_longest [] p there = absurd (no_pairs by_extent p there)
le_longest (g ∷ gs) p there = split_pairs by_extent g gs p (p.0 ≤ max (g.end - g.start) (longest (map as_region gs))) there
    (λ is. let e = ap (λ (p : ℕ × ℕ). p.0) is in omega arith) (λ later. let rest = le_longest gs p later in omega arith)

longest_le : (gaps : List Gap) (most : ℕ) → ((p : ℕ × ℕ) → set.contains (pairs_of by_extent gaps) p ≡ true → p.0 ≤ most) → longest (map as_region gaps) ≤ most
longest_le [] most bound = omega arith
longest_le (g ∷ gs) most bound =
    let first = bound (by_extent g) (pairs_of-first by_extent g gs) in
    let rest = longest_le gs most (λ p there. bound p (pairs_of-later by_extent g gs p there)) in
    omega arith

greatest_longest : (gaps : List Gap) (greatest : Option (ℕ × ℕ)) → IsGreatest (pairs_of by_extent gaps) greatest → extent_of greatest ≡ longest (map as_region gaps)
greatest_longest gaps None none = let bound = longest_le gaps 0 (λ p there. absurd (both_ways _ (none p) there)) in omega arith
greatest_longest gaps (Some greatest) is =
    let one = le_longest gaps greatest is.0 in
    let other = longest_le gaps greatest.0 (λ p there. (not_before greatest p (is.1 p there)).0) in
    omega arith

pub longest_is : (gaps : List Gap) (most : ℕ) → IsLongest (pairs_of by_extent gaps) most → most ≡ longest (map as_region gaps)
longest_is gaps most is = is.1.1 ∙ greatest_longest gaps is.0 is.1.0
