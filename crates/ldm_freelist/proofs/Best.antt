-- The first pair of a rising list that a bound does not pass is the least that is long enough.
use Rattle.std.proofs.Common.{◌≡◌, ℕ, ◌<◌, ◌≤◌, Bool, true, false, cond, ltb, ◌||◌, List, [], ◌∷◌, ◌++◌, length, Option, Some, None, refl, sym, ap, ◌∙◌, arith}
use Rattle.std.specs.FinSet as set
use Rattle.std.specs.List.{AllByRecursion}
use Rattle.std.specs.List.Sorted.{IsStrictlySortedBy}
use Rattle.std.specs.Ordering.{eq_by_cmp, is_lt, is_eq}
use Rattle.std.specs.declared.cmp.Ordering.TheVariants.{Less, Equal, Greater}
use Rattle.std.proofs.lemmas.Cmp.{tied_itself}
use Rattle.std.proofs.lemmas.Bool.{both_ways, ltb-true, ltb-false, or_right}
use Rattle.std.proofs.lemmas.Bool.Decides.{nat_tests}
use Rattle.std.proofs.lemmas.Map.Keys.{sorted_head, sorted_tail}
use Rattle.ldm_freelist.specs.Pairs.{pair_cmp, first_from_bound, IsBest, IsGreatest, IsLastTo, IsLongEnough, IsShortEnough}
use Rattle.ldm_freelist.specs.Tree.{found_or, last_to_bound}
use Rattle.ldm_freelist.proofs.Sorted.{pairs_total, exact_pair, turned}

-- what precedes (need, 0) is too short, and nothing else is
too_short : (need extent offset : ℕ) → is_lt (pair_cmp (extent, offset) (need, 0)) ≡ true → extent < need
too_short need extent offset h = grind (arith, nat_tests, h)

long_enough : (need extent offset : ℕ) → is_lt (pair_cmp (extent, offset) (need, 0)) ≡ false → need ≤ extent
long_enough need extent offset h = grind (arith, nat_tests, h)

-- one more member: it, or one of the others
split : (y : ℕ × ℕ) (ys : List (ℕ × ℕ)) (p : ℕ × ℕ) (P : Type 0) → set.contains (set.from_list {R = pair_cmp} (y ∷ ys)) p ≡ true → (p ≡ y → P) →
    (set.contains (set.from_list {R = pair_cmp} ys) p ≡ true → P) → P
split y ys p P there here later =
    elim (pair_cmp p y) as (λ r. pair_cmp p y ≡ r → (is_eq r || set.contains (set.from_list {R = pair_cmp} ys) p) ≡ true → P) [
      | Less ↦ λ e rest. later rest
      | Equal ↦ λ e rest. here (exact_pair p y e)
      | Greater ↦ λ e rest. later rest
    ] refl (sym (set.contains-insert pairs_total (set.from_list ys) y p) ∙ there)

still_there : (y : ℕ × ℕ) (ys : List (ℕ × ℕ)) (p : ℕ × ℕ) → set.contains (set.from_list {R = pair_cmp} ys) p ≡ true → set.contains (set.from_list {R = pair_cmp} (y ∷ ys)) p ≡ true
still_there y ys p there = set.contains-insert pairs_total (set.from_list ys) y p ∙ ap (λ b. eq_by_cmp pair_cmp p y || b) there ∙ or_right _ _ refl

there_first : (y : ℕ × ℕ) (ys : List (ℕ × ℕ)) → set.contains (set.from_list {R = pair_cmp} (y ∷ ys)) y ≡ true
there_first y ys = set.contains-insert pairs_total (set.from_list ys) y y ∙ ap (λ r. is_eq r || set.contains (set.from_list {R = pair_cmp} ys) y) (tied_itself pairs_total y)

-- the first is less than any other
less_than_others : (y : ℕ × ℕ) (ys : List (ℕ × ℕ)) (p : ℕ × ℕ) → AllByRecursion (λ z. pair_cmp y z ≡ Less) ys → set.contains (set.from_list {R = pair_cmp} ys) p ≡ true → pair_cmp y p ≡ Less
less_than_others y [] p all there = absurd (both_ways _ (set.contains-empty pair_cmp p) there)
less_than_others y (z ∷ zs) p all there = split z zs p _ there (λ e. ap (pair_cmp y) e ∙ all.0) (λ rest. less_than_others y zs p all.1 rest)

skip : (need : ℕ) (s t : set.FinSet pair_cmp) (answer : Option (ℕ × ℕ)) → ((p : ℕ × ℕ) → IsLongEnough need t p → IsLongEnough need s p) →
    ((p : ℕ × ℕ) → IsLongEnough need s p → IsLongEnough need t p) → IsBest need s answer → IsBest need t answer
skip need s t None there back best = λ p long. best p (there p long)
skip need s t (Some p) there back best = (back p best.0, λ q long. best.1 q (there q long))

first_is : (need : ℕ) (y : ℕ × ℕ) (ys : List (ℕ × ℕ)) (b : Bool) → is_lt (pair_cmp y (need, 0)) ≡ b → IsStrictlySortedBy pair_cmp (y ∷ ys) →
    IsBest need (set.from_list ys) (first_from_bound (need, 0) ys) → IsBest need (set.from_list (y ∷ ys)) (cond b (first_from_bound (need, 0) ys) (Some y))
first_is need y ys true e up rest =
    skip need (set.from_list ys) (set.from_list (y ∷ ys)) (first_from_bound (need, 0) ys)
    (λ p long. (
      split y ys p _ long.0 (λ is. absurd (let short = too_short need y.0 y.1 e in let enough = long.1 in let same =
          ap (λ (q : ℕ × ℕ). q.0) is in omega (arith, short, enough, same))) (λ there. there),
      long.1,
    ))
    (λ p long. (still_there y ys p long.0, long.1)) rest
first_is need y ys false e up rest = (
  (there_first y ys, long_enough need y.0 y.1 e),
  λ p long less. split y ys p ⊥ long.0 (λ is. both_ways (is_lt (pair_cmp p y)) (ap (λ q. is_lt (pair_cmp q y)) is ∙ ap is_lt (tied_itself pairs_total y)) (ap is_lt less))
      (λ there. both_ways (is_lt (pair_cmp p y)) (ap is_lt (turned p y Less (less_than_others y ys p (sorted_head pair_cmp y ys up) there))) (ap is_lt less)),
)

pub first_best : (need : ℕ) (pairs : List (ℕ × ℕ)) → IsStrictlySortedBy pair_cmp pairs → IsBest need (set.from_list pairs) (first_from_bound (need, 0) pairs)
first_best need [] up = λ p long. both_ways _ (set.contains-empty pair_cmp p) long.0
first_best need (y ∷ ys) up = first_is need y ys (is_lt (pair_cmp y (need, 0))) refl up (first_best need ys (sorted_tail pair_cmp y ys up))

-- the last of rising pairs is the greatest
pub last_greatest : (front : List (ℕ × ℕ)) (last : ℕ × ℕ) → IsStrictlySortedBy pair_cmp (front ++ last ∷ []) → IsGreatest (set.from_list (front ++ last ∷ [])) (Some last)
last_greatest [] last up = (
  there_first last [],
  λ p there less. split last [] p ⊥ there (λ is. both_ways (is_lt (pair_cmp last p)) (ap (λ q. is_lt (pair_cmp last q)) is ∙ ap is_lt (tied_itself pairs_total last)) (ap is_lt less))
      (λ there. both_ways _ (set.contains-empty pair_cmp p) there),
)
last_greatest (y ∷ ys) last up =
    let rest = last_greatest ys last (sorted_tail pair_cmp y (ys ++ last ∷ []) up) in
    let above = turned last y Less (less_than_others y (ys ++ last ∷ []) last (sorted_head pair_cmp y (ys ++ last ∷ []) up) rest.0) in (
      still_there y (ys ++ last ∷ []) last rest.0,
      λ p there less. split y (ys ++ last ∷ []) p ⊥ there (λ is. both_ways (is_lt (pair_cmp last p)) (ap (λ q. is_lt (pair_cmp last q)) is ∙ ap is_lt above) (ap is_lt less))
          (λ there. rest.1 p there less),
    )

pub none_greatest : (pairs : List (ℕ × ℕ)) → length pairs ≡ 0 → IsGreatest (set.from_list pairs) None
none_greatest [] h = λ p. set.contains-empty pair_cmp p
none_greatest (y ∷ ys) h = absurd (omega (arith, h))

-- the last short enough one among rising pairs
last_more : (most : ℕ) (y : ℕ × ℕ) (ys : List (ℕ × ℕ)) (found : Option (ℕ × ℕ)) → y.0 ≤ most → AllByRecursion (λ z. pair_cmp y z ≡ Less) ys →
    IsLastTo most (set.from_list ys) found → IsLastTo most (set.from_list (y ∷ ys)) (found_or found (Some y))
last_more most y ys None low above none = (
  (there_first y ys, low),
  λ p short less. split y ys p ⊥ short.0 (λ is. both_ways (is_lt (pair_cmp y p)) (ap (λ q. is_lt (pair_cmp y q)) is ∙ ap is_lt (tied_itself pairs_total y)) (ap is_lt less))
      (λ there. none p (there, short.1)),
)
last_more most y ys (Some found) low above is =
    let behind = turned found y Less (less_than_others y ys found above is.0.0) in (
      (still_there y ys found is.0.0, is.0.1),
      λ p short less. split y ys p ⊥ short.0 (λ same. both_ways (is_lt (pair_cmp found p)) (ap (λ q. is_lt (pair_cmp found q)) same ∙ ap is_lt behind) (ap is_lt less))
          (λ there. is.1 p (there, short.1) less),
    )

last_same : (most : ℕ) (s t : set.FinSet pair_cmp) (answer : Option (ℕ × ℕ)) → ((p : ℕ × ℕ) → IsShortEnough most t p → IsShortEnough most s p) →
    ((p : ℕ × ℕ) → IsShortEnough most s p → IsShortEnough most t p) → IsLastTo most s answer → IsLastTo most t answer
last_same most s t None there back last = λ p short. last p (there p short)
last_same most s t (Some p) there back last = (back p last.0, λ q short. last.1 q (there q short))

last_is : (most : ℕ) (y : ℕ × ℕ) (ys : List (ℕ × ℕ)) (b : Bool) → ltb most y.0 ≡ b → IsStrictlySortedBy pair_cmp (y ∷ ys) →
    IsLastTo most (set.from_list ys) (last_to_bound most ys) → IsLastTo most (set.from_list (y ∷ ys)) (cond b (last_to_bound most ys) (found_or (last_to_bound most ys) (Some y)))
last_is most y ys true e up rest =
    let high = ltb-true most y.0 e in
    last_same most (set.from_list ys) (set.from_list (y ∷ ys)) (last_to_bound most ys)
    (λ p short. (
      split y ys p _ short.0 (λ is. absurd (let enough = short.1 in let same = ap (λ (q : ℕ × ℕ). q.0) is in omega (arith, enough, same))) (λ there. there),
      short.1,
    ))
    (λ p short. (still_there y ys p short.0, short.1)) rest
last_is most y ys false e up rest = last_more most y ys (last_to_bound most ys) (ltb-false most y.0 e) (sorted_head pair_cmp y ys up) rest

pub last_to : (most : ℕ) (pairs : List (ℕ × ℕ)) → IsStrictlySortedBy pair_cmp pairs → IsLastTo most (set.from_list pairs) (last_to_bound most pairs)
last_to most [] up = λ p short. both_ways _ (set.contains-empty pair_cmp p) short.0
last_to most (y ∷ ys) up = last_is most y ys (ltb most y.0) refl up (last_to most ys (sorted_tail pair_cmp y ys up))
