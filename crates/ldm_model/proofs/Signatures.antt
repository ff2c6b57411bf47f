-- No two present rows have the same signature.
use Rattle.std.proofs.Common.{◌≡◌, ◌∙◌, ℕ, zero, suc, ◌+◌, Bool, true, false, cond, take, find, List, [], ◌∷◌, Option, Some, None, refl, sym, ap, inl, inr}
use Rattle.std.specs.Prelude.{slice_get, is_some, bytes_eq}
use Rattle.std.proofs.lemmas.Bool.{false≢true, both_ways}
use Rattle.std.proofs.lemmas.Slice.Eq.{bytes_eq-Decides}
use Rattle.ldm_model.specs.Product.{Product, extent_of}
use Rattle.ldm_model.specs.State.{State, Row, Queued, empty, last_time, add_queued, queued_from, queued, has_signature, queued_with}
use Rattle.ldm_model.specs.Evict.{unheld, without_place, evict, evict_row, evict_all}
use Rattle.ldm_model.specs.Room.{fit_in}
use Rattle.ldm_model.specs.Insert.{after_evicting, admit, time_after}
use Rattle.ldm_model.specs.Reservation.{with_reservation, product_of}
use Rattle.ldm_model.specs.Always.{Always, SignaturesDiffer}
use Rattle.ldm_model.proofs.Changing.{IsKept, kept-entries}
use Rattle.ldm_model.proofs.Times.{at-last}

-- a row that is present after an eviction was so before
present-before : (rows : List Row) (m n : ℕ) (row : Row) → slice_get (without_place rows m) n ≡ Some row → is_some row.place ≡ true → slice_get rows n ≡ Some row
present-before [] m n row at here = at
present-before (one ∷ rows) zero zero row at here = absurd (false≢true (ap placed at ∙ here))
  where
    placed : Option Row → Bool
    placed None = false
    placed (Some r) = is_some r.place
present-before (one ∷ rows) zero (suc n) row at here = at
present-before (one ∷ rows) (suc m) zero row at here = at
present-before (one ∷ rows) (suc m) (suc n) row at here = present-before rows m n row at here

present-evict : (s : State) (m n : ℕ) (row : Row) → slice_get (evict s m).rows n ≡ Some row → is_some row.place ≡ true → slice_get s.rows n ≡ Some row
present-evict s m n row = by_row (slice_get s.rows m)
  where
    by_row : (one : Option Row) → slice_get (evict_row s m one).rows n ≡ Some row → is_some row.place ≡ true → slice_get s.rows n ≡ Some row
    by_row None at here = at
    by_row (Some one) at here = present-before s.rows m n row at here

present-evict_all : (ms : List ℕ) (s : State) (n : ℕ) (row : Row) → slice_get (evict_all s ms).rows n ≡ Some row → is_some row.place ≡ true → slice_get s.rows n ≡ Some row
present-evict_all [] s n row at here = at
present-evict_all (m ∷ ms) s n row at here = present-evict s m n row (present-evict_all ms (evict s m) n row at here) here

-- where no present row passes a test that looks at products alone, each one fails it
find-absent : (test : Queued → Bool) (low : ℕ) (rows : List Row) → find test (queued_from low rows) ≡ None
    → (i place : ℕ) (row : Row) → slice_get rows i ≡ Some row → row.place ≡ Some place → (number : ℕ) × (test (record { number = number; product = row.product; time = row.time; place = place }) ≡ false)
find-absent test low [] none i place row at here = absurd cc
find-absent test low (one ∷ rows) none zero place row at here =
    let same : one ≡ row = cc in
    let placed : one.place ≡ Some place = ap (λ (r : Row). r.place) same ∙ here in
    let first : Queued = record { number = low; product = one.product; time = one.time; place = place } in
    let found : find test (first ∷ queued_from (low + 1) rows) ≡ None = ap (λ (o : Option ℕ). find test (add_queued low one o (queued_from (low + 1) rows))) (sym placed) ∙ none in
    (low, ap (λ (r : Row). test (record { number = low; product = r.product; time = r.time; place = place })) (sym same) ∙ fails first (test first) found)
  where
    fails : (q : Queued) (b : Bool) → cond b (Some q) (find test (queued_from (low + 1) rows)) ≡ None → b ≡ false
    fails q true e = absurd cc
    fails q false e = refl
find-absent test low (one ∷ rows) none (suc i) place row at here = find-absent test (low + 1) rows (behind one.place none) i place row at here
  where
    skipped : (q : Queued) (b : Bool) → cond b (Some q) (find test (queued_from (low + 1) rows)) ≡ None → find test (queued_from (low + 1) rows) ≡ None
    skipped q true e = absurd cc
    skipped q false e = e

    behind : (o : Option ℕ) → find test (add_queued low one o (queued_from (low + 1) rows)) ≡ None → find test (queued_from (low + 1) rows) ≡ None
    behind None e = e
    behind (Some at) e = skipped (record { number = low; product = one.product; time = one.time; place = at }) (test (record { number = low; product = one.product; time = one.time; place = at })) e

bytes_eq-itself : (bytes : List ℕ) → bytes_eq bytes bytes ≡ true
bytes_eq-itself bytes = (bytes_eq-Decides bytes bytes).1 refl

-- a present row has another signature than one that is absent
other-signature : (s : State) (signature : List ℕ) → queued_with signature (queued s) ≡ None → (n : ℕ) (row : Row) → slice_get s.rows n ≡ Some row → is_some row.place ≡ true
    → row.product.info.signature ≡ signature → ⊥
other-signature s signature absent n row at here same = by_place row.place refl here
  where
    by_place : (place : Option ℕ) → row.place ≡ place → is_some place ≡ true → ⊥
    by_place None is h = false≢true h
    by_place (Some place) is h =
        let fails = find-absent (has_signature signature) 0 s.rows absent n place row at is in
        both_ways (bytes_eq row.product.info.signature signature) fails.1 (ap (bytes_eq row.product.info.signature) (sym same) ∙ bytes_eq-itself row.product.info.signature)

differ-admit : (s : State) (now : ℕ) (p : Product) (place : Option ℕ)
    → ((n : ℕ) (row : Row) → slice_get s.rows n ≡ Some row → is_some row.place ≡ true → row.product.info.signature ≡ p.info.signature → ⊥)
    → SignaturesDiffer s → SignaturesDiffer (admit s now p place)
differ-admit s now p place old differ m n one other at_m at_n here there same =
    let new : Row = record { product = p; time = time_after (last_time s) now; place = place } in
    elim (at-last s.rows new one m at_m) [
      | inl left ↦ elim (at-last s.rows new other n at_n) [
        | inl right ↦ differ m n one other left right here there same
        | inr right ↦ absurd (old m one left here (same ∙ ap (λ (r : Row). r.product.info.signature) (sym right.1)))
      ]
      | inr left ↦ elim (at-last s.rows new other n at_n) [
        | inl right ↦ absurd (old n other right there (sym same ∙ ap (λ (r : Row). r.product.info.signature) (sym left.1)))
        | inr right ↦ left.0 ∙ sym right.0
      ]
    ]

differ-kept : IsKept SignaturesDiffer
differ-kept = record {
  placed = λ s cursors differ. differ;
  evicted = λ s i differ m n one other at_m at_n here there same. differ m n one other (present-evict s i m one at_m here) (present-evict s i n other at_n there) here there same;
  grown = λ s now p j admission before differ. differ-admit (after_evicting s j) now p (fit_in (after_evicting s j) (extent_of p.info))
      (λ n row at placed is. other-signature s p.info.signature admission.absent n row (present-evict_all (take j (unheld s)) s n row at placed) placed is) differ;
  reserved = λ s actor info r j found differ. differ;
  filled = λ s r reservation bytes is differ. differ;
  ended = λ s r differ. differ;
  committed = λ s r now reservation can before differ. differ-admit (with_reservation s r None) now (product_of reservation) (Some reservation.place)
      (other-signature s reservation.info.signature can.absent) differ;
}

pub signatures-differ : Always SignaturesDiffer
signatures-differ arena slots history legal = kept-entries SignaturesDiffer differ-kept history (empty arena slots) legal (λ m n one other at_m at_n here there same. absurd cc)
