-- The operations on words are those on the sets that the words stand for.
use Rattle.std.proofs.Common.{◌≡◌, ℕ, zero, suc, ◌+◌, ◌-◌, ◌*◌, ◌%◌, ◌^◌, ◌<◌, ◌≤◌, max, min, false, ◌&&◌, ◌||◌, not, eqb, cond, ◌⊎◌, Result, Ok, Err, Some, None, refl, sym, ap, ◌∙◌, arith, inl, inr}
use Rattle.std.specs.Prelude.{bit_and, bit_or, IfOk, MatchResult}
use Rattle.std.specs.Option.{option_map}
use Rattle.std.specs.Result.{result_ok}
use Rattle.std.specs.Int.{bit_at, bit_not, w32}
use Rattle.std.proofs.Math.Path.{fun_ext}
use Rattle.std.proofs.lemmas.Bool.{cases_lt, cond_below, cond_above}
use Rattle.std.proofs.lemmas.Nat.Bits.{bit_at_and, bit_at_or, bit_at_not, bit_at-lt, bit_at_above}
use Rattle.std.proofs.lemmas.Nat.{mod-pow-add}
use Rattle.ldm_types.specs.declared.feed.Feed.{Feed}
use Rattle.ldm_feedtype.specs.declared.fault.FeedFault.{FeedFault}
use Rattle.ldm_feedtype.specs.FeedSets.{FeedSet, set_of, number_below, number_of, union, meet, without, complement}

-- a bit is 0 or 1
bit_cases : (n k : ℕ) → (bit_at n k ≡ 0) ⊎ (bit_at n k ≡ 1)
bit_cases n k = let below = bit_at-lt n k in elim (cases_lt (bit_at n k) 1) [ inl none ↦ inl (omega arith) | inr some ↦ inr (omega arith) ]

eqb_max : (x y : ℕ) → (x ≡ 0) ⊎ (x ≡ 1) → (y ≡ 0) ⊎ (y ≡ 1) → eqb (max x y) 1 ≡ (eqb x 1 || eqb y 1)
eqb_max x y (inl a) (inl b) = rw (a, b) refl
eqb_max x y (inl a) (inr b) = rw (a, b) refl
eqb_max x y (inr a) (inl b) = rw (a, b) refl
eqb_max x y (inr a) (inr b) = rw (a, b) refl

eqb_min : (x y : ℕ) → (x ≡ 0) ⊎ (x ≡ 1) → (y ≡ 0) ⊎ (y ≡ 1) → eqb (min x y) 1 ≡ (eqb x 1 && eqb y 1)
eqb_min x y (inl a) (inl b) = rw (a, b) refl
eqb_min x y (inl a) (inr b) = rw (a, b) refl
eqb_min x y (inr a) (inl b) = rw (a, b) refl
eqb_min x y (inr a) (inr b) = rw (a, b) refl

eqb_other : (x : ℕ) → (x ≡ 0) ⊎ (x ≡ 1) → eqb (1 - x) 1 ≡ not (eqb x 1)
eqb_other x (inl a) = rw a refl
eqb_other x (inr a) = rw a refl

pub set_of-or : (a b : ℕ) → set_of (bit_or a b) ≡ union (set_of a) (set_of b)
set_of-or a b =
    fun_ext (λ k. ap (λ x. eqb x 1) (bit_at_or a b k) ∙ eqb_max (bit_at a k) (bit_at b k) (bit_cases a k) (bit_cases b k))

pub set_of-and : (a b : ℕ) → set_of (bit_and a b) ≡ meet (set_of a) (set_of b)
set_of-and a b =
    fun_ext (λ k. ap (λ x. eqb x 1) (bit_at_and a b k) ∙ eqb_min (bit_at a k) (bit_at b k) (bit_cases a k) (bit_cases b k))

-- a word has no bit from 32 on
set_of-above : (n k : ℕ) → n < 2 ^ 32 → 32 ≤ k → set_of n k ≡ false
set_of-above n k small above = ap (λ x. eqb x 1) (bit_at_above n 32 k small above)

pub set_of-not : (n : ℕ) → n < 2 ^ 32 → set_of (bit_not w32 n) ≡ complement (set_of n)
set_of-not n small =
    fun_ext (λ k. elim (cases_lt k 32) [
      | inl below ↦
          ap (λ x. eqb x 1) (bit_at_not w32 n k small below) ∙ eqb_other (bit_at n k) (bit_cases n k)
          ∙ cond_below k 32 (not (set_of n k)) (set_of n k) below
      | inr above ↦
          cond_above k 32 (not (set_of n k)) (set_of n k) (set_of (bit_not w32 n) k) above
          (set_of-above (bit_not w32 n) k (omega arith) above ∙ sym (set_of-above n k small above))
    ])

-- what is taken from a word is what it shares with the complement
pub without-complement : (a : ℕ) (set : FeedSet) → a < 2 ^ 32 → meet (set_of a) (complement set) ≡ without (set_of a) set
without-complement a set small =
    fun_ext (λ k. elim (cases_lt k 32) [
      | inl below ↦ ap (λ x. set_of a k && x) (sym (cond_below k 32 (not (set k)) (set k) below))
      | inr above ↦ rw (set_of-above a k small above) refl
    ])

by_cases : (power b : ℕ) → (b ≡ 0) ⊎ (b ≡ 1) → cond (eqb b 1) power 0 ≡ b * power
by_cases power b (inl none) = rw none (omega arith)
by_cases power b (inr one) = rw one (omega arith)

-- the members of a number below a bit are its rest by that power of two
number_below-set_of : (k n : ℕ) → number_below k (set_of n) ≡ n % 2 ^ k
unfolding number_below
number_below-set_of zero n = omega arith
number_below-set_of (suc k) n =
    let low = number_below-set_of k n in
    let next : suc k ≡ 1 + k = omega arith in
    let split : n % 2 ^ suc k ≡ bit_at n k * 2 ^ k + n % 2 ^ k = ap (λ (m : ℕ). n % 2 ^ m) next ∙ mod-pow-add n 1 k in
    omega (arith, low, split, by_cases (2 ^ k) (bit_at n k) (bit_cases n k))

-- the number of a word's set is the word
pub number_of-set_of : (n : ℕ) → n < 2 ^ 32 → number_of (set_of n) ≡ n
number_of-set_of n small = number_below-set_of 32 n ∙ omega arith

-- what a reader answers in place of a set is the number of that set
pub answers-number : (read : Result FeedSet FeedFault) (answer : Result Feed FeedFault) → IfOk answer (λ feed. feed.0 < 2 ^ 32)
    → MatchResult answer (λ feed. read ≡ Ok (set_of feed.0)) (λ fault. read ≡ Err fault)
    → MatchResult answer (λ feed. option_map number_of (result_ok read) ≡ Some feed.0) (λ _. option_map number_of (result_ok read) ≡ None)
answers-number read (Ok feed) small is =
    ap (λ (found : Result FeedSet FeedFault). option_map number_of (result_ok found)) is ∙ ap (λ (n : ℕ). Some n) (number_of-set_of feed.0 small)
answers-number read (Err fault) small is = ap (λ (found : Result FeedSet FeedFault). option_map number_of (result_ok found)) is
