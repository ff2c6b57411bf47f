-- The order of pairs is total and exact, and a list that rises has as many pairs as the set of them.
use Rattle.std.proofs.Common.{◌≡◌, ℕ, ◌+◌, Bool, false, cond, List, [], ◌∷◌, length, refl, ap, ◌∙◌, arith}
use Rattle.std.specs.Cmp.{IsTotalOrder, nat_cmp_total}
use Rattle.std.specs.FinSet as set
use Rattle.std.specs.List.{AllByRecursion, list_any}
use Rattle.std.specs.List.Sorted.{IsStrictlySortedBy}
use Rattle.std.specs.Ordering.{eq_by_cmp, nat_cmp, ordering_reverse}
use Rattle.std.specs.declared.cmp.Ordering.{Ordering}
use Rattle.std.proofs.lemmas.Cmp.{then_total, on_total}
use Rattle.std.proofs.lemmas.Map.Keys.{sorted_tail, IsDistinct-from_sorted, IsDistinct-head}
use Rattle.std.proofs.lemmas.Map.Lookups.{CmpEqualImpliesEq, exact_pairs, exact_unsigned}
use Rattle.ldm_freelist.specs.Pairs.{pair_cmp}

pub pairs_total : IsTotalOrder pair_cmp
pairs_total = then_total (on_total (λ (p : ℕ × ℕ). p.0) nat_cmp_total) (on_total (λ (p : ℕ × ℕ). p.1) nat_cmp_total)

-- pairs that compare alike are one
pub exact_pair : CmpEqualImpliesEq pair_cmp
exact_pair = exact_pairs nat_cmp nat_cmp exact_unsigned exact_unsigned

pub turned : (x y : ℕ × ℕ) (r : Ordering) → pair_cmp y x ≡ r → pair_cmp x y ≡ ordering_reverse r
turned x y r e = pairs_total.antisymm x y ∙ ap ordering_reverse e

none_passes : (p : ℕ × ℕ → Bool) (xs : List (ℕ × ℕ)) → AllByRecursion (λ y. p y ≡ false) xs → list_any p xs ≡ false
none_passes p [] all = refl
none_passes p (y ∷ ys) all = rw all.0 (none_passes p ys all.1)

pub len-from_sorted : (xs : List (ℕ × ℕ)) → IsStrictlySortedBy pair_cmp xs → set.len (set.from_list {R = pair_cmp} xs) ≡ length xs
len-from_sorted [] up = set.len-empty pair_cmp
len-from_sorted (y ∷ ys) up =
    let apart = IsDistinct-head (eq_by_cmp pair_cmp) y ys (IsDistinct-from_sorted pair_cmp (y ∷ ys) up) in
    let none = set.contains-from_list pairs_total ys y ∙ none_passes (eq_by_cmp pair_cmp y) ys apart in
    set.len-insert pairs_total (set.from_list ys) y
    ∙ ap (λ b. cond b (set.len (set.from_list {R = pair_cmp} ys)) (set.len (set.from_list {R = pair_cmp} ys) + 1)) none
    ∙ (let e = len-from_sorted ys (sorted_tail pair_cmp y ys up) in omega (arith, e))

-- what a set of pairs has, and how many
pub ruleset pair_members = (set.members, pairs_total)
