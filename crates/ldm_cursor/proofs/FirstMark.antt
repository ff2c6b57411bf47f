-- The least place with a mark, the least without one, and the end of the marks.
use Rattle.std.proofs.Common.{◌≡◌, ℕ, ◌+◌, ◌-◌, ◌^◌, ◌<◌, ◌≤◌, Option, Some, None, ⊎_elim, sym, ap, ◌∙◌, subst, arith}
use Rattle.std.specs.Int.{bit_at, w64, leading_zeros, trailing_ones, trailing_zeros}
use Rattle.std.specs.Option.{MatchOption, SomeIff}
use Rattle.std.proofs.lemmas.Bool.{cases_lt}
use Rattle.std.proofs.lemmas.Nat.{leading_length}
use Rattle.std.proofs.lemmas.Nat.Bits.{bit_at-trailing_ones, bit_at-trailing_zeros, bit_at_above, bit_at_ones}
use Rattle.ldm_cursor.specs.Marks.{IsFirstUnmarked}
use lib.Count.{trailing_of_zero}

all_ones : (n : ℕ) → n < 2 ^ 64 → 2 ^ 64 ≤ n + 1 → n ≡ 2 ^ 64 - 1
all_ones n below above = omega arith

-- all places are marked only where as many bits as there are places are ones
IsFirstUnmarked-trailing_ones : (n : ℕ) → n < 2 ^ 64 → trailing_ones w64 n < 64 → IsFirstUnmarked n (trailing_ones w64 n)
IsFirstUnmarked-trailing_ones n below some =
    ⊎_elim
    (λ free. let found = bit_at-trailing_ones w64 n free in record { unmarked = found.1; before = found.2 })
    (λ full.
    let trailing : trailing_ones w64 n ≡ 64 = ap (trailing_ones w64) (all_ones n below full) ∙ trailing_of_zero 64 in
    absurd (omega arith))
    (cases_lt (n + 1) (2 ^ 64))

all_marked : (n : ℕ) → n < 2 ^ 64 → (trailing_ones w64 n < 64 → ⊥) → (i : ℕ) → i < 64 → bit_at n i ≡ 1
all_marked n below none i bound =
    ⊎_elim
    (λ free. absurd (none (bit_at-trailing_ones w64 n free).0))
    (λ full. ap (λ m. bit_at m i) (all_ones n below full) ∙ bit_at_ones 64 i bound)
    (cases_lt (n + 1) (2 ^ 64))

pub first_unmarked-trailing_ones : (n t : ℕ) (place : Option ℕ) → n < 2 ^ 64 → t ≡ trailing_ones w64 n → SomeIff place (t < 64) t → MatchOption place ((i : ℕ) → i < 64 → bit_at n i ≡ 1) (IsFirstUnmarked n)
first_unmarked-trailing_ones n t None below is none = all_marked n below (λ some. none (subst (λ m. m < 64) (sym is) some))
first_unmarked-trailing_ones n t (Some k) below is some =
    subst (IsFirstUnmarked n) (sym (some.1 ∙ is)) (IsFirstUnmarked-trailing_ones n below (subst (λ m. m < 64) is some.0))

-- a number with fewer trailing zeros than it has bits is not 0
pub bit_at-first : (n t : ℕ) → n < 2 ^ 64 → t ≡ trailing_zeros w64 n → t < 64 → bit_at n t ≡ 1
bit_at-first n t below is some =
    ⊎_elim
    (λ positive. ap (bit_at n) is ∙ (bit_at-trailing_zeros w64 n positive below).1)
    (λ nothing.
    let none : n ≡ 0 = omega arith in
    let trailing : trailing_zeros w64 n ≡ 64 = ap (trailing_zeros w64) none ∙ trailing_of_zero 64 in
    absurd (omega arith))
    (cases_lt 0 n)

-- a number that has a bit less is less
pub fewer_marks : (old new k : ℕ) → new ≤ old → bit_at old k ≡ 1 → bit_at new k ≡ 0 → new < old
fewer_marks old new k bound marked unmarked =
    ⊎_elim
    (λ less. less)
    (λ not-less.
    let same : old ≡ new = omega arith in
    let bit : bit_at old k ≡ bit_at new k = ap (λ n. bit_at n k) same in
    absurd (omega arith))
    (cases_lt new old)

-- no bit is at the length of a number or above it
pub bit_at-end : (n : ℕ) → n < 2 ^ 64 → (i : ℕ) → 64 - leading_zeros w64 n ≤ i → bit_at n i ≡ 0
bit_at-end n below i bound =
    let length = leading_length 64 n below in
    bit_at_above n length.0 i length.2 (omega (arith, length.1))
