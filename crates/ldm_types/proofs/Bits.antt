-- A bit that two numbers share.
use Rattle.std.proofs.Common.{◌≡◌, ℕ, ◌^◌, ◌<◌, sym, ap, ◌∙◌, arith, min}
use Rattle.std.specs.Prelude.{bit_and}
use Rattle.std.specs.Int.{bit_at, w32, trailing_zeros}
use Rattle.std.proofs.lemmas.Nat.Bits.{bit_at_and, bit_at-trailing_zeros, bit_at-zero, bit_at-lt}
use Rattle.ldm_types.specs.Feed.{ShareBit}

-- two numbers whose meet is not 0 share a bit
pub ShareBit-from_and : (a b : ℕ) → 0 < bit_and a b → bit_and a b < 2 ^ 32 → ShareBit a b
ShareBit-from_and a b above below =
    let bit = trailing_zeros w32 (bit_and a b) in
    let found = bit_at-trailing_zeros w32 (bit_and a b) above below in
    let both : min (bit_at a bit) (bit_at b bit) ≡ 1 = sym (bit_at_and a b bit) ∙ found.1 in
    (bit, omega (arith, bit_at-lt a bit), omega (arith, bit_at-lt b bit))

-- two numbers that share a bit have a meet that is not 0
pub and-from_ShareBit : (a b : ℕ) → ShareBit a b → bit_and a b ≡ 0 → ⊥
and-from_ShareBit a b shared none =
    let both = bit_at_and a b shared.0 in
    let zero_bit : bit_at (bit_and a b) shared.0 ≡ 0 = ap (λ n. bit_at n shared.0) none ∙ bit_at-zero shared.0 in
    let in_a = shared.1 in let in_b = shared.2 in absurd (omega arith)
