-- What an answer to a search says of the products.
use Rattle.std.proofs.Common.{◌≡◌, ℕ, zero, suc, ◌+◌, ◌<◌, Bool, false, not, eqb, List, [], ◌∷◌, length, get_or, Option, Some, None, unwrap_or, inl, inr, refl, sym, ap, ◌∙◌, arith}
use Rattle.std.specs.List.{Any, filter, find}
use Rattle.std.specs.Option.{option_map}
use Rattle.std.proofs.lemmas.Bool.{cases_Bool, cond-false, cond-true}
use Rattle.std.proofs.lemmas.List.Edits.{length-remove}
use Rattle.ldm_timeindex.specs.Times.{Queued, IsRising, number_and_slot}
use Rattle.ldm_timeindex.proofs.Rising.{number_is_at, others_left}

-- what a search finds is in
pub found_number : (p : Queued → Bool) (n slot : ℕ) (xs : List Queued) → Some (n, slot) ≡ option_map number_and_slot (find p xs) → Any (λ x. x.n ≡ n) xs
found_number p n slot [] found = absurd (cc)
found_number p n slot (x ∷ xs) found =
    elim (cases_Bool (p x)) [
      | inl here ↦
          let this : Some (n, slot) ≡ Some (x.n, x.slot) = found ∙ ap (option_map number_and_slot) (cond-true (p x) (Some x) (find p xs) here) in
          (0, x, omega arith, refl, sym (ap (λ (o : Option (ℕ × ℕ)). (unwrap_or o (n, slot)).0) this))
      | inr there ↦
          let (k, y, lt, read, is) = found_number p n slot xs (found ∙ ap (option_map number_and_slot) (cond-false (p x) (Some x) (find p xs) there)) in
          (suc k, y, omega arith, read, is)
    ]

-- where a search finds nothing, no product passes
pub none_passes : (p : Queued → Bool) (xs : List Queued) → None ≡ option_map number_and_slot (find p xs) → (k : ℕ) (d : Queued) → k < length xs → p (get_or xs k d) ≡ false
none_passes p [] none k d lt = absurd (omega arith)
none_passes p (x ∷ xs) none k d lt =
    elim (cases_Bool (p x)) [
      | inl here ↦ absurd (let some = ap (option_map number_and_slot) (cond-true (p x) (Some x) (find p xs) here) in cc)
      | inr there ↦ elim k as (λ j. j < length (x ∷ xs) → p (get_or (x ∷ xs) j d) ≡ false) [
        | zero ↦ λ _. there
        | suc j ↦ λ inside. none_passes p xs (none ∙ ap (option_map number_and_slot) (cond-false (p x) (Some x) (find p xs) there)) j d (omega arith)
      ] lt
    ]

pub one_fewer : (n : ℕ) (xs : List Queued) → IsRising xs → Any (λ x. x.n ≡ n) xs → length (filter (λ x. not (eqb x.n n)) xs) + 1 ≡ length xs
one_fewer n xs up there =
    let nothing : Queued = record { n = 0; time = 0; slot = 0 } in
    let at = number_is_at n xs nothing up there in
    ap (λ (left : List Queued). length left + 1) (others_left n xs _ nothing up at.0 at.1) ∙ length-remove xs _ at.0
