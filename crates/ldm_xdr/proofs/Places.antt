-- Bytes among which a test finds none: in joined lists, in zeros, and in the texts of metadata.
use Rattle.std.proofs.Common.{◌≡◌, ℕ, ◌<◌, ◌≤◌, Bool, false, eqb, ltb, List, ◌++◌, length, get_or, Some, None, refl, sym, arith, replicate, inl, inr}
use Rattle.std.specs.Prelude.{position}
use Rattle.std.specs.List.{prefix_len}
use Rattle.std.proofs.Math.Bool.{not}
use Rattle.std.proofs.lemmas.Bool.{ltb-false, le-ltb, lt-ltb, not-true, cases_lt, cond-true, cond-false}
use Rattle.std.proofs.lemmas.List.{length-append, length-replicate, get_or-replicate, same_lists}
use Rattle.std.proofs.lemmas.List.Folds.{prefix_len-append, prefix_len-replicate}
use Rattle.std.proofs.lemmas.List.Sums.{prefix_len-le-length, prefix_len_passes}
use Rattle.ldm_types.specs.declared.info.InfoFault.{InfoFault}
use Rattle.ldm_types.specs.Info.{texts_fault}

-- the length of the front in which the test finds none
abbrev clear : (ℕ → Bool) → List ℕ → ℕ
clear test bytes = prefix_len (λ byte. not (test byte)) bytes

all_clear : (test : ℕ → Bool) (bytes : List ℕ) → position test bytes ≡ None → clear test bytes ≡ length bytes
all_clear test bytes none =
    elim (cases_lt (clear test bytes) (length bytes)) [
      | inl lt ↦ let some = cond-true (ltb (clear test bytes) (length bytes)) (Some (clear test bytes)) None (lt-ltb _ _ lt) in absurd cc
      | inr ge ↦ omega (arith, prefix_len-le-length (λ byte. not (test byte)) bytes)
    ]

-- the test fails at each place
pub none_at : (test : ℕ → Bool) (bytes : List ℕ) → position test bytes ≡ None → (k : ℕ) → k < length bytes → test (get_or bytes k 0) ≡ false
none_at test bytes none k lt =
    let n = all_clear test bytes none in
    not-true (test (get_or bytes k 0)) (prefix_len_passes (λ byte. not (test byte)) bytes k 0 (omega (arith, n, lt)))

from_clear : (test : ℕ → Bool) (bytes : List ℕ) → length bytes ≤ clear test bytes → position test bytes ≡ None
from_clear test bytes le = cond-false (ltb (clear test bytes) (length bytes)) (Some (clear test bytes)) None (le-ltb _ _ le)

pub none_in_both : (test : ℕ → Bool) (xs ys : List ℕ) → position test xs ≡ None → position test ys ≡ None → position test (xs ++ ys) ≡ None
none_in_both test xs ys in_xs in_ys =
    let front = all_clear test xs in_xs in
    let behind = all_clear test ys in_ys in
    from_clear test (xs ++ ys) (grind (arith, prefix_len-append (λ byte. not (test byte)) xs ys, length-append xs ys))

pub none_in_first : (test : ℕ → Bool) (xs ys : List ℕ) → position test (xs ++ ys) ≡ None → position test xs ≡ None
none_in_first test xs ys none =
    let both = all_clear test (xs ++ ys) none in
    from_clear test xs (grind (
      arith,
      prefix_len-append (λ byte. not (test byte)) xs ys,
      length-append xs ys,
      prefix_len-le-length (λ byte. not (test byte)) xs,
      prefix_len-le-length (λ byte. not (test byte)) ys,
    ))

pub none_in_second : (test : ℕ → Bool) (xs ys : List ℕ) → position test (xs ++ ys) ≡ None → position test ys ≡ None
none_in_second test xs ys none =
    let both = all_clear test (xs ++ ys) none in
    let front = all_clear test xs (none_in_first test xs ys none) in
    from_clear test ys (grind (arith, prefix_len-append (λ byte. not (test byte)) xs ys, length-append xs ys))

abbrev not_zero : ℕ → Bool
not_zero byte = ltb 0 byte

-- bytes of which none is above zero
pub zeros : (bytes : List ℕ) → position not_zero bytes ≡ None → bytes ≡ replicate (length bytes) 0
zeros bytes none =
    let n = all_clear not_zero bytes none in
    same_lists bytes (replicate (length bytes) 0) (sym (length-replicate (length bytes) 0)) (λ k d lt.
    let passes = prefix_len_passes (λ byte. not (not_zero byte)) bytes k d (omega arith) in
    let small = ltb-false 0 (get_or bytes k d) (not-true _ passes) in
    omega (arith, get_or-replicate (length bytes) k 0 d lt))

pub none_in_zeros : (n : ℕ) → position not_zero (replicate n 0) ≡ None
none_in_zeros n = from_clear not_zero (replicate n 0) (omega (arith, prefix_len-replicate (λ byte. not (not_zero byte)) n 0 refl, length-replicate {A = ℕ} n 0))

-- texts within their limits and without a zero byte are those of some metadata
pub texts_fit : (origin ident : List ℕ) → length origin ≤ 64 → length ident ≤ 255 → position (λ byte. eqb byte 0) origin ≡ None
    → position (λ byte. eqb byte 0) ident ≡ None → texts_fault origin ident ≡ None
texts_fit origin ident origin_short ident_short in_origin in_ident =
    let a : ltb 64 (length origin) ≡ false = le-ltb _ _ origin_short in
    let b : ltb 255 (length ident) ≡ false = le-ltb _ _ ident_short in
    let c = none_in_both (λ byte. eqb byte 0) origin ident in_origin in_ident in
    rw (a, b, c) refl

pub no_fault : (origin ident : List ℕ) (fault : InfoFault) → texts_fault origin ident ≡ Some fault → length origin ≤ 64 → length ident ≤ 255
    → position (λ byte. eqb byte 0) origin ≡ None → position (λ byte. eqb byte 0) ident ≡ None → ⊥
no_fault origin ident fault faulty origin_short ident_short in_origin in_ident =
    let fits = texts_fit origin ident origin_short ident_short in_origin in_ident in absurd cc
