-- Numbers that are read digit by digit.
use Rattle.std.proofs.Common.{◌≡◌, ℕ, ◌+◌, ◌-◌, ◌*◌, ◌<◌, Bool, true, false, cond, List, [], ◌∷◌, Option, Some, None, inl, inr, refl, sym, ap, ◌∙◌, arith}
use Rattle.std.proofs.Common.{length, drop, get_or}
use Rattle.std.proofs.lemmas.Bool.{lt-leb, le-leb, lt-ltb, le-ltb, cases_lt}
use Rattle.std.proofs.lemmas.List.{drop_more}
use Rattle.std.specs.Prelude.{nat_le, ◌==◌, ◌&&◌}
use Rattle.ldm_answers.specs.Number.{is_digit, digits_from, up_to, below, number_up_to, number_below}

-- digits behind a number that is too large make no number that is small enough
pub too_large : (most : ℕ) (bytes : List ℕ) (n : ℕ) → most < n → up_to most (digits_from n bytes) ≡ None
too_large most [] n h = ap (λ (b : Bool). cond b (Some n) None) (lt-leb n most h)
too_large most (byte ∷ bytes) n h = by_test (is_digit byte) (too_large most bytes (10 * n + (byte - 48)) (omega arith))
  where
    by_test : (test : Bool) → up_to most (digits_from (10 * n + (byte - 48)) bytes) ≡ None → up_to most (cond test (digits_from (10 * n + (byte - 48)) bytes) None) ≡ None
    by_test true rest = rest
    by_test false rest = refl

-- a byte that is no digit
pub no_digit : (most n byte : ℕ) (bytes : List ℕ) → is_digit byte ≡ false → up_to most (digits_from n (byte ∷ bytes)) ≡ None
no_digit most n byte bytes h = ap (λ (b : Bool). up_to most (cond b (digits_from (10 * n + (byte - 48)) bytes) None)) h

-- a digit
pub one_digit : (n byte : ℕ) (bytes : List ℕ) → is_digit byte ≡ true → digits_from n (byte ∷ bytes) ≡ digits_from (10 * n + (byte - 48)) bytes
one_digit n byte bytes h = ap (λ (b : Bool). cond b (digits_from (10 * n + (byte - 48)) bytes) None) h

-- a digit that makes the number too large
pub too_large_at : (most number : ℕ) (text : List ℕ) (i : ℕ) → i < length text → digits_from number (drop i text) ≡ digits_from 0 text → is_digit (get_or text i 0) ≡ true
    → most < 10 * number + (get_or text i 0 - 48) → up_to most (digits_from 0 text) ≡ None
too_large_at most number text i within so_far digit large =
    let byte = get_or text i 0 in
    let behind = drop (i + 1) text in
    ap (up_to most) (sym so_far ∙ ap (digits_from number) (drop_more text i 0 within) ∙ one_digit number byte behind digit)
    ∙ too_large most behind (10 * number + (byte - 48)) large

-- below a limit is up to the number before it
below_is : (most : ℕ) (o : Option ℕ) → below (most + 1) o ≡ up_to most o
below_is most None = refl
below_is most (Some n) = elim (cases_lt n (most + 1)) [
  | inl lt ↦ ap (λ (b : Bool). cond b (Some n) None) (lt-ltb n (most + 1) lt) ∙ sym (ap (λ (b : Bool). cond b (Some n) None) (le-leb n most (omega arith)))
  | inr ge ↦ ap (λ (b : Bool). cond b (Some n) None) (le-ltb n (most + 1) ge) ∙ sym (ap (λ (b : Bool). cond b (Some n) None) (lt-leb n most (omega arith)))
]

pub number_below-next : (most : ℕ) (text : List ℕ) → number_below (most + 1) text ≡ number_up_to most text
number_below-next most [] = refl
number_below-next most (byte ∷ bytes) = ap (λ (o : Option ℕ). cond (byte == 48 && nat_le 1 (length bytes)) None o) (below_is most (digits_from 0 (byte ∷ bytes)))

-- nothing is below zero
pub number_below-zero : (text : List ℕ) → number_below 0 text ≡ None
number_below-zero [] = refl
number_below-zero (byte ∷ bytes) = by_test (byte == 48 && nat_le 1 (length bytes)) (digits_from 0 (byte ∷ bytes))
  where
    by_test : (b : Bool) (o : Option ℕ) → cond b None (below 0 o) ≡ None
    by_test true o = refl
    by_test false None = refl
    by_test false (Some n) = ap (λ (b : Bool). cond b (Some n) None) (le-ltb n 0 (omega arith))
