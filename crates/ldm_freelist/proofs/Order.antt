-- Lists of pairs that rise, cut at a pair.
use Rattle.std.proofs.Common.{◌≡◌, ℕ, List, [], ◌∷◌, ◌++◌, sym, append_assoc}
use Rattle.std.specs.List.{AllByRecursion}
use Rattle.std.specs.List.Sorted.{IsStrictlySortedBy}
use Rattle.std.specs.declared.cmp.Ordering.TheVariants.{Less}
use Rattle.ldm_freelist.specs.Pairs.{pair_cmp}
use Rattle.ldm_freelist.proofs.Sorted.{pairs_total}

pub parts_of_all : (P : ℕ × ℕ → Type 0) (xs : List (ℕ × ℕ)) (y : ℕ × ℕ) (ys : List (ℕ × ℕ)) → AllByRecursion P (xs ++ y ∷ ys) → AllByRecursion P xs × P y × AllByRecursion P ys
parts_of_all P [] y ys all = (tt, all.0, all.1)
parts_of_all P (x ∷ xs) y ys all = let rest = parts_of_all P xs y ys all.1 in ((all.0, rest.0), rest.1, rest.2)

pub all_of_parts : (P : ℕ × ℕ → Type 0) (xs : List (ℕ × ℕ)) (y : ℕ × ℕ) (ys : List (ℕ × ℕ)) → AllByRecursion P xs → P y → AllByRecursion P ys → AllByRecursion P (xs ++ y ∷ ys)
all_of_parts P [] y ys below here above = (here, above)
all_of_parts P (x ∷ xs) y ys below here above = (below.0, all_of_parts P xs y ys below.1 here above)

pub all_in_both : (P : ℕ × ℕ → Type 0) (xs ys : List (ℕ × ℕ)) → AllByRecursion P xs → AllByRecursion P ys → AllByRecursion P (xs ++ ys)
all_in_both P [] ys front back = back
all_in_both P (x ∷ xs) ys front back = (front.0, all_in_both P xs ys front.1 back)

pub all_weaker : (P Q : ℕ × ℕ → Type 0) (xs : List (ℕ × ℕ)) → ((x : ℕ × ℕ) → P x → Q x) → AllByRecursion P xs → AllByRecursion Q xs
all_weaker P Q [] f all = tt
all_weaker P Q (x ∷ xs) f all = (f x all.0, all_weaker P Q xs f all.1)

abbrev pub Rises : List (ℕ × ℕ) → Type 0
Rises = IsStrictlySortedBy pair_cmp

-- what rises, around one of its pairs
pub record IsCut (xs : List (ℕ × ℕ)) (y : ℕ × ℕ) (ys : List (ℕ × ℕ)) : Type 0 where
  pub front : Rises xs
  pub below : AllByRecursion (λ x. pair_cmp x y ≡ Less) xs
  pub above : AllByRecursion (λ x. pair_cmp y x ≡ Less) ys
  pub back : Rises ys

pub cut : (xs : List (ℕ × ℕ)) (y : ℕ × ℕ) (ys : List (ℕ × ℕ)) → Rises (xs ++ y ∷ ys) → IsCut xs y ys
unfolding IsStrictlySortedBy
cut [] y ys up = record { front = tt; below = tt; above = up.0; back = up.1 }
cut (x ∷ xs) y ys up =
    let rest = cut xs y ys up.1 in
    let heads = parts_of_all (λ z. pair_cmp x z ≡ Less) xs y ys up.0 in
    record { front = (heads.0, rest.front); below = (heads.1, rest.below); above = rest.above; back = rest.back }

pub uncut : (xs : List (ℕ × ℕ)) (y : ℕ × ℕ) (ys : List (ℕ × ℕ)) → IsCut xs y ys → Rises (xs ++ y ∷ ys)
unfolding IsStrictlySortedBy
uncut [] y ys c = (c.above, c.back)
uncut (x ∷ xs) y ys c = (
  all_of_parts (λ z. pair_cmp x z ≡ Less) xs y ys c.front.0 c.below.0 (all_weaker (λ z. pair_cmp y z ≡ Less) (λ z. pair_cmp x z ≡ Less) ys (λ z h. pairs_total.trans x y z c.below.0 h) c.above),
  uncut xs y ys (record { front = c.front.1; below = c.below.1; above = c.above; back = c.back }),
)

-- without that pair they still rise
pub uncut_less : (xs ys : List (ℕ × ℕ)) (y : ℕ × ℕ) → IsCut xs y ys → Rises (xs ++ ys)
unfolding IsStrictlySortedBy
uncut_less [] ys y c = c.back
uncut_less (x ∷ xs) ys y c = (
  all_in_both (λ z. pair_cmp x z ≡ Less) xs ys c.front.0 (all_weaker (λ z. pair_cmp y z ≡ Less) (λ z. pair_cmp x z ≡ Less) ys (λ z h. pairs_total.trans x y z c.below.0 h) c.above),
  uncut_less xs ys y (record { front = c.front.1; below = c.below.1; above = c.above; back = c.back }),
)

-- three parts, seen from the first and from the second of two pairs
pub regroup : (xs : List (ℕ × ℕ)) (y : ℕ × ℕ) (ys : List (ℕ × ℕ)) (z : ℕ × ℕ) (zs : List (ℕ × ℕ)) → xs ++ y ∷ (ys ++ z ∷ zs) ≡ (xs ++ y ∷ ys) ++ z ∷ zs
regroup xs y ys z zs = sym (append_assoc xs (y ∷ ys) (z ∷ zs))
