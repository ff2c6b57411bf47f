-- Places that are empty or not: of cursors, and of reservations.
use Rattle.std.proofs.Common.{◌≡◌, ◌∙◌, ℕ, zero, suc, ◌<◌, true, List, [], ◌∷◌, length, Option, Some, None, refl, sym, ap, subst, inl, inr, arith}
use Rattle.std.specs.Prelude.{◌⊎◌, nat_lt, is_none, set, slice_index_or}
use Rattle.std.specs.List.{position_or_len}
use Rattle.std.proofs.lemmas.Bool.{false≢true, ltb-true}
use Rattle.std.proofs.lemmas.Option.{cond_some}
use Rattle.std.proofs.lemmas.List.Sums.{passes_at_first}
use Rattle.ldm_model.specs.Cursor.{least_empty}

pub place-within : {A : Type 0} (r : ℕ) (x : A) (places : List (Option A)) → slice_index_or places r None ≡ Some x → r < length places
place-within r x [] e = absurd cc
place-within zero x (place ∷ places) e = omega arith
place-within (suc r) x (place ∷ places) e = omega (arith, place-within r x places e)

-- a place that is set, or another one
pub place-set : {A : Type 0} (places : List (Option A)) (r q : ℕ) (place : Option A)
    → ((q ≡ r) × (slice_index_or (set places r place) q None ≡ place)) ⊎ (slice_index_or (set places r place) q None ≡ slice_index_or places q None)
place-set [] r q place = inr refl
place-set (old ∷ places) zero zero place = inl (refl, refl)
place-set (old ∷ places) zero (suc q) place = inr refl
place-set (old ∷ places) (suc r) zero place = inr refl
place-set (old ∷ places) (suc r) (suc q) place = elim (place-set places r q place) [ inl x ↦ inl (ap (λ (i : ℕ). suc i) x.0, x.1) | inr x ↦ inr x ]

empty-is : {A : Type 0} (place : Option A) → is_none place ≡ true → place ≡ None
empty-is None h = refl
empty-is (Some x) h = absurd (false≢true h)

-- the least empty place is one, and empty
pub least-empty : {A : Type 0} (places : List (Option A)) (r : ℕ) → least_empty places ≡ Some r → (r < length places) × (slice_index_or places r None ≡ None)
least-empty places r e =
    let found = cond_some (nat_lt (position_or_len is_none places) (length places)) (position_or_len is_none places) r e in
    let inside = ltb-true (position_or_len is_none places) (length places) found.0 in (
      subst (λ (i : ℕ). i < length places) found.1 inside,
      ap (λ (i : ℕ). slice_index_or places i None) (sym found.1)
          ∙ empty-is (slice_index_or places (position_or_len is_none places) None) (passes_at_first is_none places None inside),
    )
