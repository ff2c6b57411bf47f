-- The present rows that are still to come at a cursor, by their numbers.
use Rattle.std.proofs.Common.{◌≡◌, ◌∙◌, ℕ, zero, suc, ◌+◌, ◌<◌, ◌≤◌, Bool, true, false, cond, List, [], ◌∷◌, length, filter, count_by, Option, Some, None, refl, sym, ap, subst, inl, inr, arith}
use Rattle.std.specs.Prelude.{◌⊎◌, ◌&&◌, nat_le, is_some, slice_get}
use Rattle.std.specs.List.{find, range_with_len}
use Rattle.std.specs.Option.{option_map}
use Rattle.std.proofs.lemmas.List.Sums.{length-filter}
use Rattle.ldm_types.specs.Feed.{feeds_meet}
use Rattle.ldm_model.specs.State.{State, Row, Cursor, Queued, queued, queued_from, add_queued, place_of_row}
use Rattle.ldm_model.specs.Cursor.{awaits}
use Rattle.ldm_model.specs.Law.{feed_of_row}
use Rattle.ldm_model.proofs.Held.{present}

-- whether the row of that number is still to come at a cursor
abbrev pub comes : Cursor → List Row → ℕ → Bool
comes cursor rows n = present rows n && (nat_le cursor.position n && feeds_meet cursor.feed (feed_of_row (slice_get rows n)))

abbrev passes_row : (Queued → Bool) → ℕ → Row → Option ℕ → Bool
passes_row test n row None = false
passes_row test n row (Some place) = test (record { number = n; product = row.product; time = row.time; place = place })

-- a test of present rows, at a row
abbrev passes : (Queued → Bool) → ℕ → Option Row → Bool
passes test n None = false
passes test n (Some row) = passes_row test n row row.place

-- a test of numbers agrees with one of present rows, from a number on
abbrev Agree : (Queued → Bool) → (ℕ → Bool) → ℕ → List Row → Type 0
Agree test by_number low rows = (i : ℕ) → i < length rows → by_number (low + i) ≡ passes test (low + i) (slice_get rows i)

Agree-head : (test : Queued → Bool) (by_number : ℕ → Bool) (low : ℕ) (row : Row) (rows : List Row) → Agree test by_number low (row ∷ rows) → by_number low ≡ passes_row test low row row.place
Agree-head test by_number low row rows agree =
    let e : low + 0 ≡ low = omega arith in
    subst (λ (n : ℕ). by_number n ≡ passes_row test n row row.place) e (agree 0 (omega arith))

Agree-tail : (test : Queued → Bool) (by_number : ℕ → Bool) (low : ℕ) (row : Row) (rows : List Row) → Agree test by_number low (row ∷ rows) → Agree test by_number (low + 1) rows
Agree-tail test by_number low row rows agree i lt =
    let e : low + suc i ≡ low + 1 + i = omega arith in
    subst (λ (n : ℕ). by_number n ≡ passes test n (slice_get rows i)) e (agree (suc i) (omega arith))

abbrev pub number_of : Option Queued → Option ℕ
number_of q = option_map (λ (q : Queued). q.number) q

find-by_number : (test : Queued → Bool) (by_number : ℕ → Bool) (low : ℕ) (rows : List Row) → Agree test by_number low rows
    → number_of (find test (queued_from low rows)) ≡ find by_number (range_with_len low (length rows))
find-by_number test by_number low [] agree = refl
find-by_number test by_number low (row ∷ rows) agree =
    by_place row.place (Agree-head test by_number low row rows agree) (find-by_number test by_number (low + 1) rows (Agree-tail test by_number low row rows agree))
  where
    by_test : (place : ℕ) (b : Bool) → number_of (find test (queued_from (low + 1) rows)) ≡ find by_number (range_with_len (low + 1) (length rows))
        → number_of (cond b (Some (record { number = low; product = row.product; time = row.time; place = place })) (find test (queued_from (low + 1) rows))) ≡ cond b (Some low)
        (find by_number (range_with_len (low + 1) (length rows)))
    by_test place true more = refl
    by_test place false more = more

    by_place : (place : Option ℕ) → by_number low ≡ passes_row test low row place
        → number_of (find test (queued_from (low + 1) rows)) ≡ find by_number (range_with_len (low + 1) (length rows))
        → number_of (find test (add_queued low row place (queued_from (low + 1) rows))) ≡ find by_number (low ∷ range_with_len (low + 1) (length rows))
    by_place None e more = rw e more
    by_place (Some place) e more = rw e (by_test place (test (record { number = low; product = row.product; time = row.time; place = place })) more)

filter-by_number : (test : Queued → Bool) (by_number : ℕ → Bool) (low : ℕ) (rows : List Row) → Agree test by_number low rows
    → length (filter test (queued_from low rows)) ≡ length (filter by_number (range_with_len low (length rows)))
filter-by_number test by_number low [] agree = refl
filter-by_number test by_number low (row ∷ rows) agree =
    by_place row.place (Agree-head test by_number low row rows agree) (filter-by_number test by_number (low + 1) rows (Agree-tail test by_number low row rows agree))
  where
    by_test : (q : Queued) (b : Bool) → length (filter test (queued_from (low + 1) rows)) ≡ length (filter by_number (range_with_len (low + 1) (length rows)))
        → length (cond b (q ∷ filter test (queued_from (low + 1) rows)) (filter test (queued_from (low + 1) rows))) ≡ length
        (cond b (low ∷ filter by_number (range_with_len (low + 1) (length rows))) (filter by_number (range_with_len (low + 1) (length rows))))
    by_test q true more = ap (λ (n : ℕ). suc n) more
    by_test q false more = more

    by_place : (place : Option ℕ) → by_number low ≡ passes_row test low row place
        → length (filter test (queued_from (low + 1) rows)) ≡ length (filter by_number (range_with_len (low + 1) (length rows)))
        → length (filter test (add_queued low row place (queued_from (low + 1) rows))) ≡ length (filter by_number (low ∷ range_with_len (low + 1) (length rows)))
    by_place None e more = rw e more
    by_place (Some place) e more = rw e (by_test (record { number = low; product = row.product; time = row.time; place = place })
        (test (record { number = low; product = row.product; time = row.time; place = place })) more)

comes-passes : (cursor : Cursor) (n : ℕ) (row : Option Row) → (is_some (place_of_row row) && (nat_le cursor.position n && feeds_meet cursor.feed (feed_of_row row))) ≡ passes (awaits cursor) n row
comes-passes cursor n None = refl
comes-passes cursor n (Some row) = by_place row.place
  where
    by_place : (place : Option ℕ) → (is_some place && (nat_le cursor.position n && feeds_meet cursor.feed row.product.info.feed)) ≡ passes_row (awaits cursor) n row place
    by_place None = refl
    by_place (Some place) = refl

comes-Agree : (cursor : Cursor) (rows : List Row) → Agree (awaits cursor) (comes cursor rows) 0 rows
comes-Agree cursor rows i lt = let e : i ≡ 0 + i = omega arith in subst (λ (n : ℕ). comes cursor rows n ≡ passes (awaits cursor) n (slice_get rows i)) e (comes-passes cursor i (slice_get rows i))

-- the first row to come is the first number that passes the test
pub find-comes : (cursor : Cursor) (s : State) → number_of (find (awaits cursor) (queued s)) ≡ find (comes cursor s.rows) (range_with_len 0 (length s.rows))
find-comes cursor s = find-by_number (awaits cursor) (comes cursor s.rows) 0 s.rows (comes-Agree cursor s.rows)

-- and as many are to come as pass it
pub count-comes : (cursor : Cursor) (s : State) → count_by (awaits cursor) (queued s) ≡ length (filter (comes cursor s.rows) (range_with_len 0 (length s.rows)))
count-comes cursor s = sym (length-filter (awaits cursor) (queued s)) ∙ filter-by_number (awaits cursor) (comes cursor s.rows) 0 s.rows (comes-Agree cursor s.rows)

-- the row of a present row
pub record IsRowOf (rows : List Row) (i : ℕ) (q : Queued) : Type 0 where
  pub row : Row
  pub is_row : slice_get rows i ≡ Some row
  pub product : row.product ≡ q.product
  pub time : row.time ≡ q.time
  pub place : row.place ≡ Some q.place

found_from : (test : Queued → Bool) (low : ℕ) (rows : List Row) (q : Queued) → find test (queued_from low rows) ≡ Some q → (i : ℕ) × (q.number ≡ low + i) × IsRowOf rows i q
found_from test low [] q found = absurd cc
found_from test low (row ∷ rows) q found = by_place (λ e. later (found_from test (low + 1) rows q e)) row.place refl found
  where
    later : (i : ℕ) × (q.number ≡ low + 1 + i) × IsRowOf rows i q → (i : ℕ) × (q.number ≡ low + i) × IsRowOf (row ∷ rows) i q
    later there = (suc there.0, omega (arith, there.1), record { row = there.2.row; is_row = there.2.is_row; product = there.2.product; time = there.2.time; place = there.2.place })

    first : ℕ → Queued
    first place = record { number = low; product = row.product; time = row.time; place = place }

    by_test : (find test (queued_from (low + 1) rows) ≡ Some q → (i : ℕ) × (q.number ≡ low + i) × IsRowOf (row ∷ rows) i q) → (place : ℕ) (b : Bool) → row.place ≡ Some place
        → cond b (Some (first place)) (find test (queued_from (low + 1) rows)) ≡ Some q → (i : ℕ) × (q.number ≡ low + i) × IsRowOf (row ∷ rows) i q
    by_test more place true at e =
        let same : first place ≡ q = cc in (
          0,
          omega (arith, ap (λ (q : Queued). q.number) same),
          record { row = row; is_row = refl; product = ap (λ (q : Queued). q.product) same; time = ap (λ (q : Queued). q.time) same; place = at ∙ ap (λ (q : Queued). Some q.place) same },
        )
    by_test more place false at e = more e

    by_place : (find test (queued_from (low + 1) rows) ≡ Some q → (i : ℕ) × (q.number ≡ low + i) × IsRowOf (row ∷ rows) i q) → (place : Option ℕ) → row.place ≡ place
        → find test (add_queued low row place (queued_from (low + 1) rows)) ≡ Some q → (i : ℕ) × (q.number ≡ low + i) × IsRowOf (row ∷ rows) i q
    by_place more None at e = more e
    by_place more (Some place) at e = by_test more place (test (first place)) at e

pub IsRowOf-found : (test : Queued → Bool) (s : State) (q : Queued) → find test (queued s) ≡ Some q → IsRowOf s.rows q.number q
IsRowOf-found test s q found =
    let there = found_from test 0 s.rows q found in
    let same : there.0 ≡ q.number = omega (arith, there.1) in
    subst (λ (i : ℕ). IsRowOf s.rows i q) same there.2

-- the first of the numbers from a bound on that passes a test
pub find-range_before : (test : ℕ → Bool) (low len n : ℕ) → find test (range_with_len low len) ≡ Some n → (test n ≡ true) × ((m : ℕ) → low ≤ m → m < n → test m ≡ false)
find-range_before test low zero n found = absurd cc
find-range_before test low (suc len) n found = by_test (find-range_before test (low + 1) len n) (test low) refl found
  where
    by_test : (find test (range_with_len (low + 1) len) ≡ Some n → (test n ≡ true) × ((m : ℕ) → low + 1 ≤ m → m < n → test m ≡ false)) → (b : Bool) → test low ≡ b
        → cond b (Some low) (find test (range_with_len (low + 1) len)) ≡ Some n → (test n ≡ true) × ((m : ℕ) → low ≤ m → m < n → test m ≡ false)
    by_test more true at e = let same : low ≡ n = cc in (ap test (sym same) ∙ at, λ m le lt. absurd (omega arith))
    by_test more false at e = let rest = more e in (rest.0, λ m le lt. elim (cases m le) [ inl x ↦ ap test (sym x) ∙ at | inr x ↦ rest.1 m x lt ])
      where
        cases : (m : ℕ) → low ≤ m → (low ≡ m) ⊎ (low + 1 ≤ m)
        cases m le = grind arith

pub find-range_none : (test : ℕ → Bool) (low len : ℕ) → find test (range_with_len low len) ≡ None → (m : ℕ) → low ≤ m → m < low + len → test m ≡ false
find-range_none test low zero none m le lt = absurd (omega arith)
find-range_none test low (suc len) none m le lt = by_test (λ e le'. find-range_none test (low + 1) len e m le' (omega arith)) (test low) refl none
  where
    cases : (low ≡ m) ⊎ (low + 1 ≤ m)
    cases = grind arith

    by_test : (find test (range_with_len (low + 1) len) ≡ None → low + 1 ≤ m → test m ≡ false) → (b : Bool) → test low ≡ b
        → cond b (Some low) (find test (range_with_len (low + 1) len)) ≡ None → test m ≡ false
    by_test more true at e = absurd cc
    by_test more false at e = elim cases [ inl x ↦ ap test (sym x) ∙ at | inr x ↦ more e x ]

-- two tests that agree at each of these numbers find the same one
pub find-agree : (test other : ℕ → Bool) (low len : ℕ) → ((m : ℕ) → m < low + len → test m ≡ other m) → find test (range_with_len low len) ≡ find other (range_with_len low len)
find-agree test other low zero same = refl
find-agree test other low (suc len) same =
    let rest = find-agree test other (low + 1) len (λ m lt. same m (omega arith)) in
    λ i. cond (same low (omega arith) i) (Some low) (rest i)

pub find-filter : (test kept : ℕ → Bool) (ns : List ℕ) → find test (filter kept ns) ≡ find (λ n. kept n && test n) ns
find-filter test kept [] = refl
find-filter test kept (n ∷ ns) = by_test (kept n) (find-filter test kept ns)
  where
    by_test : (b : Bool) → find test (filter kept ns) ≡ find (λ m. kept m && test m) ns
        → find test (cond b (n ∷ filter kept ns) (filter kept ns)) ≡ cond (b && test n) (Some n) (find (λ m. kept m && test m) ns)
    by_test true more = λ i. cond (test n) (Some n) (more i)
    by_test false more = more
