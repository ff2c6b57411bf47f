-- Counting over the views of all seats.
use Rattle.std.proofs.Common.{◌≡◌, ◌≢◌, ℕ, zero, suc, ◌+◌, ◌<◌, ◌≤◌, ◌==◌, Bool, true, false, cond, List, [], ◌∷◌, ◌++◌, set, sum_by, refl, ap, sym, ◌∙◌, arith, eq-eqb, ne_eqb}
use Rattle.std.proofs.lemmas.List.Sums.{sum_by-cons, sum_by-append}
use mathlib.Core.Option.{some, some-injective, some-ne-none}
use mathlib.Core.Logic.{dite}
use native.Mathlib.Decide.{ℕ_discrete}
use lib.ListN.{get_elem?}
use Rattle.ldm_shared.specs.declared.view.View.{View}
use Rattle.ldm_shared.specs.Rule.{times, turns}

module _ {A : Type 0} (f : A → ℕ) where
  -- the sum after a change of one element
  pub sum-set : (xs : List A) (i : ℕ) (x y : A) → get_elem? xs i ≡ some x → sum_by f (set xs i y) + f x ≡ sum_by f xs + f y
  sum-set [] i x y at = absurd (some-ne-none x (sym at))
  sum-set (z ∷ xs) zero x y at =
      let same : f z ≡ f x = ap f (some-injective z x at) in
      omega (arith, sum_by-cons f y xs, sum_by-cons f z xs)
  sum-set (z ∷ xs) (suc i) x y at =
      let rest = sum-set xs i x y at in
      omega (arith, sum_by-cons f z (set xs i y), sum_by-cons f z xs)

  pub sum-at : (xs : List A) (i : ℕ) (x : A) → get_elem? xs i ≡ some x → f x ≤ sum_by f xs
  sum-at [] i x at = absurd (some-ne-none x (sym at))
  sum-at (z ∷ xs) zero x at = let same : f z ≡ f x = ap f (some-injective z x at) in omega (arith, sum_by-cons f z xs)
  sum-at (z ∷ xs) (suc i) x at = let rest = sum-at xs i x at in omega (arith, sum_by-cons f z xs)

  -- two elements
  pub sum-two : (xs : List A) (i j : ℕ) (x y : A) → i ≢ j → get_elem? xs i ≡ some x → get_elem? xs j ≡ some y → f x + f y ≤ sum_by f xs
  sum-two [] i j x y apart at there = absurd (some-ne-none x (sym at))
  sum-two (z ∷ xs) zero zero x y apart at there = absurd (apart refl)
  sum-two (z ∷ xs) zero (suc j) x y apart at there =
      let same : f z ≡ f x = ap f (some-injective z x at) in
      let rest = sum-at xs j y there in
      omega (arith, sum_by-cons f z xs)
  sum-two (z ∷ xs) (suc i) zero x y apart at there =
      let same : f z ≡ f y = ap f (some-injective z y there) in
      let rest = sum-at xs i x at in
      omega (arith, sum_by-cons f z xs)
  sum-two (z ∷ xs) (suc i) (suc j) x y apart at there =
      let rest = sum-two xs i j x y (λ e. apart (ap suc e)) at there in
      omega (arith, sum_by-cons f z xs)

abbrev pub is_turn : View → ℕ
is_turn v = cond v.turn 1 0

one_turn : (b : Bool) → 0 < cond b 1 0 → b ≡ true
one_turn true h = refl
one_turn false h = absurd (omega arith)

zero_turn : (b : Bool) (n : ℕ) → n ≡ cond b 1 0 → n ≡ 0 → b ≡ false
zero_turn true n e none = absurd (omega arith)
zero_turn false n e none = refl

pub idle_turn : (v : View) → is_turn v ≡ 0 → v.turn ≡ false
idle_turn v none = zero_turn v.turn (is_turn v) refl none

-- where the turn is taken, some seat has it
pub turn_of : (views : List View) → 0 < turns views → (id : ℕ) × (v : View) × (get_elem? views id ≡ some v) × (v.turn ≡ true)
turn_of [] h = absurd (omega arith)
turn_of (v ∷ views) h =
    let split = sum_by-cons is_turn v views in
    dite (ℕ_discrete (is_turn v) 0)
    (λ none. let rest = turn_of views (omega arith) in (suc rest.0, rest.1, rest.2, rest.3))
    (λ some_turn. (0, v, refl, one_turn v.turn (omega arith)))

-- an actor in a list of one
times_one : (b : Bool) → 0 < 0 + cond b 1 0 → b ≡ true
times_one true h = refl
times_one false h = absurd (omega arith)

pub times-only : (a actor : ℕ) → 0 < times actor (a ∷ []) → a ≡ actor
times-only a actor h = dite (ℕ_discrete a actor) (λ e. e) (λ ne. absurd (true≢ (sym (times_one (a == actor) h) ∙ ne_eqb a actor ne)))
  where
    true≢ : true ≡ false → ⊥
    true≢ e = cc

times_same : (b : Bool) → b ≡ true → 0 + cond b 1 0 ≡ 1
times_same true e = refl
times_same false e = absurd cc

pub times-self : (a : ℕ) → times a (a ∷ []) ≡ 1
times-self a = times_same (a == a) (eq-eqb a a refl)

pub times-append : (actor : ℕ) (xs ys : List ℕ) → times actor (xs ++ ys) ≡ times actor xs + times actor ys
times-append actor xs ys = sum_by-append (λ (a : ℕ). cond (a == actor) 1 0) xs ys

pub times-cons : (actor a : ℕ) (xs : List ℕ) → times actor (a ∷ xs) ≡ times actor (a ∷ []) + times actor xs
times-cons actor a xs = times-append actor (a ∷ []) xs
