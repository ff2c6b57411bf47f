-- The number that digits spell.
use Rattle.std.proofs.Common.{◌≡◌, ℕ, zero, suc, ◌+◌, ◌-◌, ◌*◌, ◌^◌, ◌<◌, ◌≤◌, List, length, get_or, take, drop, Some, None, true, false, refl, sym, arith, add-one}
use Rattle.std.specs.List.{prefix_len}
use Rattle.ldm_wmo.specs.Headings.{is_digit}
use Rattle.std.proofs.Math.Nat.{pow-suc}
use Rattle.std.proofs.lemmas.List.{drop_more, drop_all}
use Rattle.ldm_wmo.specs.Lines.{is_numbered, number_from, number_in, number_of}

pub number_at : (value : ℕ) (digits : List ℕ) (i : ℕ) → i < length digits
    → number_from value (drop i digits) ≡ number_from (value * 10 + (get_or digits i 0 - 48)) (drop (i + 1) digits)
unfolding number_from
number_at value digits i within = rw (drop_more digits i 0 within) refl

pub number_end : (value : ℕ) (digits : List ℕ) (i : ℕ) → length digits ≤ i → number_from value (drop i digits) ≡ value
unfolding number_from
number_end value digits i ends = rw (drop_all i digits ends) refl

-- one digit more
pub bound_more : (value digit i : ℕ) → value + 23 ≤ 23 * 10 ^ i → digit < 256 → value * 10 + (digit - 48) + 23 ≤ 23 * 10 ^ (i + 1)
bound_more value digit i bound fits = rw (add-one i, pow-suc 10 i) (omega arith)

pub bound_of : (value i : ℕ) → i < 8 → value + 23 ≤ 23 * 10 ^ i → value ≤ 300000000
bound_of value zero lt bound = omega arith
bound_of value (suc zero) lt bound = omega arith
bound_of value (suc (suc zero)) lt bound = omega arith
bound_of value (suc (suc (suc zero))) lt bound = omega arith
bound_of value (suc (suc (suc (suc zero)))) lt bound = omega arith
bound_of value (suc (suc (suc (suc (suc zero))))) lt bound = omega arith
bound_of value (suc (suc (suc (suc (suc (suc zero)))))) lt bound = omega arith
bound_of value (suc (suc (suc (suc (suc (suc (suc zero))))))) lt bound = omega arith
bound_of value (suc (suc (suc (suc (suc (suc (suc (suc i)))))))) lt bound = absurd (omega arith)

pub no_number : (line : List ℕ) (count : ℕ) → count ≡ prefix_len is_digit line → is_numbered count line ≡ false → None ≡ number_in line
unfolding number_in
no_number line count is other =
    let at : is_numbered (prefix_len is_digit line) line ≡ false = rw (sym is) other in
    sym (rw at refl)

pub a_number : (line : List ℕ) (count n : ℕ) → count ≡ prefix_len is_digit line → is_numbered count line ≡ true → n ≡ number_of (take count line) → Some n ≡ number_in line
unfolding number_in
a_number line count n is numbered n_is =
    let at : is_numbered (prefix_len is_digit line) line ≡ true = rw (sym is) numbered in
    sym (rw (at, n_is, is) refl)
