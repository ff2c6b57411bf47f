-- Numbers, digit by digit.
use Rattle.std.proofs.Common.{◌≡◌, ℕ, suc, ◌+◌, ◌*◌, ◌^◌, ◌<◌, ◌≤◌, List, [], ◌∷◌, Ok, Err, get_or, drop, length, drop-cons, drop_of_length-le, refl, sym, ap, ◌∙◌, arith, inl, inr}
use Rattle.std.proofs.lemmas.Bool.{cases_lt, cond_below, cond_above}
use Rattle.std.proofs.Math.Nat.{mul-le-mul_left}
use Rattle.std.specs.Char.{digit_value}
use Rattle.ldm_feedtype.specs.declared.fault.FeedFault.TheVariants.{Syntax, Range}
use Rattle.ldm_feedtype.specs.Words.{numeral, within, ended}

-- what is not below is at least as large
pub not_below : (a b : ℕ) → (a < b → ⊥) → b ≤ a
not_below a b above = elim (cases_lt a b) [ inl below ↦ absurd (above below) | inr reached ↦ reached ]

within-large : (at n : ℕ) → 2 ^ 32 ≤ n → within at n ≡ Err (Range at)
within-large at n large = grind (arith)

pub within-small : (at n : ℕ) → n < 2 ^ 32 → within at n ≡ Ok n
within-small at n small = grind (arith)

pub numeral-digit : (radix at place n byte : ℕ) (rest : List ℕ) → digit_value byte < radix
    → numeral radix at place n (byte ∷ rest) ≡ numeral radix at (place + 1) (n * radix + digit_value byte) rest
numeral-digit radix at place n byte rest digit = sym (cond_below (digit_value byte) radix _ _ digit)

pub numeral-other : (radix at place n byte : ℕ) (rest : List ℕ) → radix ≤ digit_value byte
    → numeral radix at place n (byte ∷ rest) ≡ ended at place (within at n)
numeral-other radix at place n byte rest other = sym (cond_above (digit_value byte) radix _ _ _ other refl)

-- a number with more than 32 bits stays one, whatever follows
pub numeral-large : (radix at place n : ℕ) (digits : List ℕ) → 1 ≤ radix → 2 ^ 32 ≤ n
    → numeral radix at place n digits ≡ Err (Range at)
numeral-large radix at place n [] some large = within-large at n large
numeral-large radix at place n (byte ∷ rest) some large =
    elim (cases_lt (digit_value byte) radix) [
      | inl digit ↦
          numeral-digit radix at place n byte rest digit
          ∙ numeral-large radix at (place + 1) (n * radix + digit_value byte) rest some (omega (arith, mul-le-mul_left n some))
      | inr other ↦ numeral-other radix at place n byte rest other ∙ ap (ended at place) (within-large at n large)
    ]

-- a byte that continues no number, behind one that has 32 bits
pub numeral-stops : (radix at place n i : ℕ) (digits : List ℕ) → i < length digits → n < 2 ^ 32
    → radix ≤ digit_value (get_or digits i 0) → numeral radix at (place + i) n (drop i digits) ≡ Err (Syntax (place + i))
numeral-stops radix at place n i digits inside small other =
    ap (numeral radix at (place + i) n) (drop-cons digits i 0 inside)
    ∙ numeral-other radix at (place + i) n (get_or digits i 0) (drop (suc i) digits) other
    ∙ ap (ended at (place + i)) (within-small at n small)

-- a digit that makes the number too large
pub numeral-exceeds : (radix at place n i : ℕ) (digits : List ℕ) → i < length digits → 1 ≤ radix
    → digit_value (get_or digits i 0) < radix → 2 ^ 32 ≤ n * radix + digit_value (get_or digits i 0)
    → numeral radix at (place + i) n (drop i digits) ≡ Err (Range at)
numeral-exceeds radix at place n i digits inside some digit large =
    ap (numeral radix at (place + i) n) (drop-cons digits i 0 inside)
    ∙ numeral-digit radix at (place + i) n (get_or digits i 0) (drop (suc i) digits) digit
    ∙ numeral-large radix at (place + i + 1) _ (drop (suc i) digits) some large

-- the end of the digits
pub numeral-ends : (radix at place n i : ℕ) (digits : List ℕ) → length digits ≤ i → n < 2 ^ 32
    → numeral radix at place n (drop i digits) ≡ Ok n
numeral-ends radix at place n i digits past small =
    ap (numeral radix at place n) (drop_of_length-le digits past) ∙ within-small at n small
