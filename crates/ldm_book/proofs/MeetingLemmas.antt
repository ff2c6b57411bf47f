-- Products whose feedtypes meet those of a reader, one after another.
use Rattle.std.proofs.Common.{◌≡◌, ℕ, suc, ◌+◌, ◌<◌, ◌≤◌, ◌||◌, Bool, true, false, cond, List, [], ◌∷◌, Some, None, refl, sym, ap, subst, ◌∙◌, inl, inr, arith}
use Rattle.std.specs.Prelude.{◌&&◌, ◌==◌, count_by}
use Rattle.std.specs.List.{All, AllByRecursion, find, list_any}
use Rattle.std.proofs.lemmas.Bool.{eq-eqb, le-leb, lt-leb, cases_lt, or_right}
use Rattle.std.proofs.lemmas.List.Sums.{sum_by-cons}
use Rattle.ldm_types.specs.Feed.{feeds_meet}
use Rattle.ldm_book.specs.View.{Kept}
use Rattle.ldm_book.specs.Products.{AreRising, at_number, awaits, has_number}

awaits_below : (at feed : ℕ) (k : Kept) → k.number < at → awaits at feed k ≡ false
awaits_below at feed k h = ap (λ (b : Bool). b && feeds_meet feed k.feed) (lt-leb at k.number h)

awaits_above : (at feed : ℕ) (k : Kept) → at ≤ k.number → awaits at feed k ≡ feeds_meet feed k.feed
awaits_above at feed k h = ap (λ (b : Bool). b && feeds_meet feed k.feed) (le-leb at k.number h)

-- what is at a number is found at once, and what is before it never
pub found_now : (at : ℕ) (k : Kept) (rows : List Kept) (found : Kept) → at ≤ k.number → find (at_number at) (k ∷ rows) ≡ Some found → k ≡ found
found_now at k rows found h e =
    let now : find (at_number at) (k ∷ rows) ≡ Some k = ap (λ (b : Bool). cond b (Some k) (find (at_number at) rows)) (le-leb at k.number h) in
    cc

pub found_later : (at : ℕ) (k : Kept) (rows : List Kept) → k.number < at → find (at_number at) (k ∷ rows) ≡ find (at_number at) rows
found_later at k rows h = ap (λ (b : Bool). cond b (Some k) (find (at_number at) rows)) (lt-leb at k.number h)

-- what is found at a number has at least that number
pub at_least : (at : ℕ) (rows : List Kept) (found : Kept) → find (at_number at) rows ≡ Some found → at ≤ found.number
at_least at [] found e = absurd cc
at_least at (r ∷ rs) found e = elim (cases_lt r.number at) [
  | inl before ↦ at_least at rs found (sym (found_later at r rs before) ∙ e)
  | inr here ↦ (let same : r ≡ found = found_now at r rs found here e in subst (λ (x : Kept). at ≤ x.number) same here)
]

-- what holds of all products holds of the one that is found
pub found_all : (P : Kept → Type 0) (test : Kept → Bool) (rows : List Kept) (found : Kept) → All P rows → find test rows ≡ Some found → P found
found_all P test [] found all e = absurd cc
found_all P test (k ∷ ks) found all e = by_test (test k) (found_all P test ks found (λ i d h. all (suc i) d (omega arith))) e
  where
    by_test : (b : Bool) → (find test ks ≡ Some found → P found) → cond b (Some k) (find test ks) ≡ Some found → P found
    by_test true rest e = let same : k ≡ found = cc in subst P same (all 0 k (omega arith))
    by_test false rest e = rest e

-- a count, by the first element
pub count_cons : {X : Type 0} (p : X → Bool) (x : X) (xs : List X) → count_by p (x ∷ xs) ≡ cond (p x) 1 0 + count_by p xs
count_cons p x xs = sum_by-cons (λ y. cond (p y) 1 0) x xs

module _ (feed : ℕ) where
  find_test : (at : ℕ) (k : Kept) (rows : List Kept) (b : Bool) → awaits at feed k ≡ b → find (awaits at feed) (k ∷ rows) ≡ cond b (Some k) (find (awaits at feed) rows)
  find_test at k rows b e = ap (λ (x : Bool). cond x (Some k) (find (awaits at feed) rows)) e

  -- behind a number all is at the next
  same_behind : (at next : ℕ) (rows : List Kept) → at ≤ next → AllByRecursion (λ (other : Kept). next ≤ other.number) rows → find (awaits at feed) rows ≡ find (awaits next feed) rows
  same_behind at next [] h all = refl
  same_behind at next (k ∷ ks) h all =
      let here = awaits_above at feed k (omega (arith, all.0)) in
      let there = awaits_above next feed k all.0 in
      λ i. cond ((here ∙ sym there) i) (Some k) (same_behind at next ks h all.1 i)

  count_behind : (at next : ℕ) (rows : List Kept) → at ≤ next → AllByRecursion (λ (other : Kept). next ≤ other.number) rows → count_by (awaits at feed) rows ≡ count_by (awaits next feed) rows
  count_behind at next [] h all = refl
  count_behind at next (k ∷ ks) h all =
      let here = awaits_above at feed k (omega (arith, all.0)) in
      let there = awaits_above next feed k all.0 in
      count_cons (awaits at feed) k ks ∙ (λ i. cond ((here ∙ sym there) i) 1 0 + count_behind at next ks h all.1 i) ∙ sym (count_cons (awaits next feed) k ks)

  above_next : (n : ℕ) (rows : List Kept) → AllByRecursion (λ (other : Kept). n < other.number) rows → AllByRecursion (λ (other : Kept). n + 1 ≤ other.number) rows
  above_next n [] all = tt
  above_next n (k ∷ ks) all = (omega (arith, all.0), above_next n ks all.1)

  -- the first product at a number meets
  pub meets_here : (at : ℕ) (rows : List Kept) (found : Kept) → find (at_number at) rows ≡ Some found → feeds_meet feed found.feed ≡ true → find (awaits at feed) rows ≡ Some found
  meets_here at [] found e meets = absurd cc
  meets_here at (k ∷ ks) found e meets = elim (cases_lt k.number at) [
    | inl before ↦ find_test at k ks false (awaits_below at feed k before) ∙ meets_here at ks found (sym (found_later at k ks before) ∙ e) meets
    | inr here ↦
        let same : k ≡ found = found_now at k ks found here e in
        find_test at k ks true (awaits_above at feed k here ∙ ap (λ (x : Kept). feeds_meet feed x.feed) same ∙ meets) ∙ ap (λ (x : Kept). Some x) same
  ]

  -- it does not
  pub meets_later : (at : ℕ) (rows : List Kept) (found : Kept) → AreRising rows → find (at_number at) rows ≡ Some found → feeds_meet feed found.feed ≡ false
      → find (awaits at feed) rows ≡ find (awaits (found.number + 1) feed) rows
  meets_later at [] found rising e apart = absurd cc
  meets_later at (k ∷ ks) found rising e apart = elim (cases_lt k.number at) [
    | inl before ↦
        let further = at_least at ks found (sym (found_later at k ks before) ∙ e) in
        find_test at k ks false (awaits_below at feed k before) ∙ meets_later at ks found rising.1 (sym (found_later at k ks before) ∙ e) apart
        ∙ sym (find_test (found.number + 1) k ks false (awaits_below (found.number + 1) feed k (omega arith)))
    | inr here ↦
        let same : k ≡ found = found_now at k ks found here e in
        subst (λ (x : Kept). find (awaits at feed) (k ∷ ks) ≡ find (awaits (x.number + 1) feed) (k ∷ ks)) same
        (find_test at k ks false (awaits_above at feed k here ∙ ap (λ (x : Kept). feeds_meet feed x.feed) same ∙ apart)
        ∙ same_behind at (k.number + 1) ks (omega arith) (above_next k.number ks rising.0)
        ∙ sym (find_test (k.number + 1) k ks false (awaits_below (k.number + 1) feed k (omega arith))))
  ]

  -- no product is at a number
  pub meets_none : (at : ℕ) (rows : List Kept) → find (at_number at) rows ≡ None → find (awaits at feed) rows ≡ None
  meets_none at [] e = refl
  meets_none at (k ∷ ks) e = elim (cases_lt k.number at) [
    | inl before ↦ find_test at k ks false (awaits_below at feed k before) ∙ meets_none at ks (sym (found_later at k ks before) ∙ e)
    | inr here ↦ absurd (let now : find (at_number at) (k ∷ ks) ≡ Some k = ap (λ (b : Bool). cond b (Some k) (find (at_number at) ks)) (le-leb at k.number here) in cc)
  ]

  count_test : (at : ℕ) (k : Kept) (rows : List Kept) (b : Bool) → awaits at feed k ≡ b
      → count_by (awaits at feed) (k ∷ rows) ≡ cond b (1 + count_by (awaits at feed) rows) (count_by (awaits at feed) rows)
  count_test at k rows true e = count_cons (awaits at feed) k rows ∙ ap (λ (b : Bool). cond b 1 0 + count_by (awaits at feed) rows) e
  count_test at k rows false e = count_cons (awaits at feed) k rows ∙ ap (λ (b : Bool). cond b 1 0 + count_by (awaits at feed) rows) e ∙ nothing (count_by (awaits at feed) rows)
    where
      nothing : (n : ℕ) → 0 + n ≡ n
      nothing n = omega arith

  pub count_none : (at : ℕ) (rows : List Kept) → find (at_number at) rows ≡ None → count_by (awaits at feed) rows ≡ 0
  count_none at [] e = refl
  count_none at (k ∷ ks) e = elim (cases_lt k.number at) [
    | inl before ↦ count_test at k ks false (awaits_below at feed k before) ∙ count_none at ks (sym (found_later at k ks before) ∙ e)
    | inr here ↦ absurd (let now : find (at_number at) (k ∷ ks) ≡ Some k = ap (λ (b : Bool). cond b (Some k) (find (at_number at) ks)) (le-leb at k.number here) in cc)
  ]

  -- one product is counted, or passed over
  pub count_later : (at : ℕ) (rows : List Kept) (found : Kept) → AreRising rows → find (at_number at) rows ≡ Some found
      → count_by (awaits at feed) rows ≡ cond (feeds_meet feed found.feed) 1 0 + count_by (awaits (found.number + 1) feed) rows
  count_later at [] found rising e = absurd cc
  count_later at (k ∷ ks) found rising e = elim (cases_lt k.number at) [
    | inl before ↦
        let further = at_least at ks found (sym (found_later at k ks before) ∙ e) in
        count_test at k ks false (awaits_below at feed k before)
        ∙ count_later at ks found rising.1 (sym (found_later at k ks before) ∙ e)
        ∙ ap (λ (n : ℕ). cond (feeds_meet feed found.feed) 1 0 + n) (sym (count_test (found.number + 1) k ks false (awaits_below (found.number + 1) feed k (omega arith))))
    | inr here ↦
        let same : k ≡ found = found_now at k ks found here e in
        subst (λ (x : Kept). count_by (awaits at feed) (k ∷ ks) ≡ cond (feeds_meet feed x.feed) 1 0 + count_by (awaits (x.number + 1) feed) (k ∷ ks)) same
        (count_cons (awaits at feed) k ks
        ∙ ap (λ (b : Bool). cond b 1 0 + count_by (awaits at feed) ks) (awaits_above at feed k here)
        ∙ ap (λ (n : ℕ). cond (feeds_meet feed k.feed) 1 0 + n) (count_behind at (k.number + 1) ks (omega arith) (above_next k.number ks rising.0))
        ∙ ap (λ (n : ℕ). cond (feeds_meet feed k.feed) 1 0 + n) (sym (count_test (k.number + 1) k ks false (awaits_below (k.number + 1) feed k (omega arith)))))
  ]

-- what is found for a reader is at its position or behind it
pub meets_above : (at feed : ℕ) (rows : List Kept) (found : Kept) → find (awaits at feed) rows ≡ Some found → at ≤ found.number
meets_above at feed [] found e = absurd cc
meets_above at feed (k ∷ ks) found e = elim (cases_lt k.number at) [
  | inl before ↦ meets_above at feed ks found (sym (find_test feed at k ks false (awaits_below at feed k before)) ∙ e)
  | inr here ↦ by_test (awaits at feed k) (meets_above at feed ks found) here e
]
  where
    by_test : (b : Bool) → (find (awaits at feed) ks ≡ Some found → at ≤ found.number) → at ≤ k.number → cond b (Some k) (find (awaits at feed) ks) ≡ Some found → at ≤ found.number
    by_test true rest here e = let same : k ≡ found = cc in subst (λ (x : Kept). at ≤ x.number) same here
    by_test false rest here e = rest e

-- what is found is there
pub found_there : (test : Kept → Bool) (rows : List Kept) (found : Kept) → find test rows ≡ Some found → list_any (has_number found.number) rows ≡ true
found_there test [] found e = absurd cc
found_there test (k ∷ ks) found e = by_test (test k) (found_there test ks found) e
  where
    by_test : (b : Bool) → (find test ks ≡ Some found → list_any (has_number found.number) ks ≡ true) → cond b (Some k) (find test ks) ≡ Some found → list_any (has_number found.number) (k ∷ ks) ≡ true
    by_test true rest e = let same : k ≡ found = cc in ap (λ (b : Bool). b || list_any (has_number found.number) ks) (eq-eqb k.number found.number (ap (λ (x : Kept). x.number) same))
    by_test false rest e = or_right (k.number == found.number) (list_any (has_number found.number) ks) (rest e)
