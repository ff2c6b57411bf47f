-- Whether there is room beside the held products, by where they lie.
use Rattle.std.proofs.Common.{◌≡◌, ℕ, ◌+◌, ◌<◌, ◌≤◌, ◌||◌, Bool, true, false, cond, leb, ltb, max, List, [], ◌∷◌, ◌++◌, map, Option, Some, None, refl, sym, ap, subst, ◌∙◌, inl, inr, arith}
use Rattle.std.specs.Prelude.{◌&&◌, filter, is_some}
use Rattle.std.specs.List.{AllByRecursion, find, list_any}
use Rattle.std.specs.Option.{IfSome}
use Rattle.std.proofs.lemmas.Bool.{true≢false, false≢true, or_left, or_right, le-leb, lt-leb, le-ltb, lt-ltb, cases_lt, cases_eq, eq-eqb, ne_eqb, or_parts}
use Rattle.std.proofs.lemmas.List.Folds.{list_any-append}
use Rattle.ldm_types.specs.Arena.{Region, covers, fit, is_covered}
use Rattle.ldm_book.specs.declared.spans.Span.{Span}
use Rattle.ldm_types.specs.Cursors.{KeptCursor, Places, is_number}
use Rattle.ldm_cursor.specs.Places.{held_of, holds, is_held}
use Rattle.ldm_book.specs.View.{Kept, KeptReservation, Reservations, open_kept}
use Rattle.ldm_book.specs.Products.{AreRising, at_number, has_number, kept_extent, kept_region, occupied_by, reserved_region}
use Rattle.ldm_book.specs.Readers.{AreReading, IsPlaceReading, is_kept_held}
use Rattle.ldm_book.specs.Spans.{has_gap, held_span, held_spans, reserved_span, span_at, span_of}
use Rattle.ldm_book.proofs.EveryLemmas.{found_of}
use Rattle.ldm_model.proofs.Space.{fit-space, space-fit}
use Rattle.ldm_book.proofs.SpanLemmas.{IsBeside, gap-found, room-found, same_bool}

-- each product is found by its number
find_later : (k : Kept) (ks rs : List Kept) → AllByRecursion (λ (r : Kept). k.number < r.number) rs → AllByRecursion (λ (r : Kept). find (at_number r.number) ks ≡ Some r) rs
    → AllByRecursion (λ (r : Kept). find (at_number r.number) (k ∷ ks) ≡ Some r) rs
find_later k ks [] above all = tt
find_later k ks (r ∷ rs) above all = (ap (λ (b : Bool). cond b (Some k) (find (at_number r.number) ks)) (lt-leb r.number k.number above.0) ∙ all.0, find_later k ks rs above.1 all.1)

find_self : (rows : List Kept) → AreRising rows → AllByRecursion (λ (r : Kept). find (at_number r.number) rows ≡ Some r) rows
find_self [] rising = tt
find_self (k ∷ ks) rising = (ap (λ (b : Bool). cond b (Some k) (find (at_number k.number) ks)) (le-leb k.number k.number (omega arith)), find_later k ks ks rising.0 (find_self ks rising.1))

above_any : (n m : ℕ) (rows : List Kept) → AllByRecursion (λ (r : Kept). m < r.number) rows → list_any (has_number n) rows ≡ true → m < n
above_any n m [] above h = absurd (false≢true h)
above_any n m (k ∷ ks) above h = elim (cases_eq k.number n) [
  | inl same ↦ omega (arith, same, above.0)
  | inr other ↦ above_any n m ks above.1 (ap (λ (b : Bool). b || list_any (has_number n) ks) (sym (ne_eqb k.number n other)) ∙ h)
]

find_number : (n : ℕ) (rows : List Kept) → AreRising rows → list_any (has_number n) rows ≡ true → (k : Kept) × (find (at_number n) rows ≡ Some k) × (k.number ≡ n)
find_number n [] rising h = absurd (false≢true h)
find_number n (k ∷ ks) rising h = elim (cases_eq k.number n) [
  | inl same ↦ (k, ap (λ (b : Bool). cond b (Some k) (find (at_number n) ks)) (le-leb n k.number (omega arith)), same)
  | inr other ↦
      let behind = ap (λ (b : Bool). b || list_any (has_number n) ks) (sym (ne_eqb k.number n other)) ∙ h in
      let rest = find_number n ks rising.1 behind in
      (rest.0, ap (λ (b : Bool). cond b (Some k) (find (at_number n) ks)) (lt-leb n k.number (above_any n k.number ks rising.0 behind)) ∙ rest.1, rest.2)
]

-- what a span does not meet its product does not cover, and the other way
covers-not : (p need i : ℕ) (k : Kept) → IsBeside p need (span_of (Some k)) → p ≤ i → i < p + need → covers i (kept_region k) ≡ false
covers-not p need i k (inl before) low high = ap (λ (b : Bool). b && ltb i (k.place + kept_extent k)) (lt-leb k.place i (omega arith))
covers-not p need i k (inr behind) low high = nor (leb k.place i) (ltb i (k.place + kept_extent k)) (le-ltb i (k.place + kept_extent k) (omega arith))
  where
    nor : (a b : Bool) → b ≡ false → (a && b) ≡ false
    nor true b e = e
    nor false b e = refl

beside-from : (p need : ℕ) (k : Kept) → 0 < need → 0 < kept_extent k → ((i : ℕ) → p ≤ i → i < p + need → covers i (kept_region k) ≡ false) → IsBeside p need (span_of (Some k))
beside-from p need k some extent none = elim (cases_lt k.place (p + need)) [
  | inr before ↦ inl before
  | inl meets ↦ elim (cases_lt p (k.place + kept_extent k)) [
    | inr behind ↦ inr behind
    | inl meets_too ↦
        let i = max p k.place in
        let yes_low = le-leb k.place i (omega arith) in
        let yes_high = lt-ltb i (k.place + kept_extent k) (omega arith) in
        absurd (true≢false (sym (ap (λ (b : Bool). b && ltb i (k.place + kept_extent k)) yes_low ∙ yes_high) ∙ none i (omega arith) (omega arith)))
  ]
]

-- a held product that is found covers nothing that the held ones do not
not_covered : (cs : Places) (test : Kept → Bool) (i : ℕ) (rows : List Kept) (k : Kept) → find test rows ≡ Some k → is_kept_held cs k ≡ true
    → is_covered (map kept_region (filter (is_kept_held cs) rows)) i ≡ false → covers i (kept_region k) ≡ false
not_covered cs test i [] k e held none = absurd cc
not_covered cs test i (r ∷ rs) k e held none = by_test (test r) (is_kept_held cs r) refl (not_covered cs test i rs k) e none
  where
    by_test : (t b : Bool) → is_kept_held cs r ≡ b
        → (find test rs ≡ Some k → is_kept_held cs k ≡ true → is_covered (map kept_region (filter (is_kept_held cs) rs)) i ≡ false → covers i (kept_region k) ≡ false)
        → cond t (Some r) (find test rs) ≡ Some k → is_covered (map kept_region (cond b (r ∷ filter (is_kept_held cs) rs) (filter (is_kept_held cs) rs))) i ≡ false → covers i (kept_region k) ≡ false
    by_test true true is more e none =
        let same : r ≡ k = cc in
        ap (λ (x : Kept). covers i (kept_region x)) (sym same) ∙ (or_parts (covers i (kept_region r)) (is_covered (map kept_region (filter (is_kept_held cs) rs)) i) none).0
    by_test true false is more e none =
        let same : r ≡ k = cc in
        absurd (true≢false (sym held ∙ ap (is_kept_held cs) (sym same) ∙ is))
    by_test false true is more e none = more e held (or_parts (covers i (kept_region r)) (is_covered (map kept_region (filter (is_kept_held cs) rs)) i) none).1
    by_test false false is more e none = more e held none

module _ (cs : Places) (a arena need : ℕ) (rows : List Kept) (reservations : Reservations) (rising : AreRising rows) (all : AreReading a rows cs)
    (headed : AllByRecursion (λ (k : Kept). 0 < k.head) rows) (reserved_headed : AllByRecursion (λ (v : KeptReservation). 0 < v.product.head) (open_kept reservations)) (some : 0 < need) where
  -- where the held products leave so much free, no span is met
  spans_beside : (p : ℕ) → ((i : ℕ) → p ≤ i → i < p + need → is_covered (map kept_region (filter (is_kept_held cs) rows)) i ≡ false) → (few : Places)
      → ((n : ℕ) → is_held n few ≡ true → is_held n cs ≡ true) → AreReading a rows few → AllByRecursion (IsBeside p need) (map (held_span rows) few)
  spans_beside p free [] among reading = tt
  spans_beside p free (place ∷ few) among reading =
      (at_place place (λ n e. among n (or_left (holds n place) (is_held n few) e)) reading.0, spans_beside p free few (λ n e. among n (or_right (holds n place) (is_held n few) e)) reading.1)
    where
      at_held : (o : Option ℕ) → ((n : ℕ) → is_number n o ≡ true → is_held n cs ≡ true) → IfSome o (λ m. list_any (has_number m) rows ≡ true) → IsBeside p need (span_at rows o)
      at_held None is there = inr (omega arith)
      at_held (Some m) is there =
          let found = find_number m rows rising there in
          let k = found.0 in
          let held : is_kept_held cs k ≡ true = ap (λ (n : ℕ). is_held n cs) found.2 ∙ is m (eq-eqb m m refl) in
          subst (λ (o : Option Kept). IsBeside p need (span_of o)) (sym found.1)
          (beside-from p need k some (omega (arith, found_of (λ (x : Kept). 0 < x.head) (at_number m) rows k headed found.1))
          (λ i low high. not_covered cs (at_number m) i rows k found.1 held (free i low high)))

      at_place : (place : Option KeptCursor) → ((n : ℕ) → holds n place ≡ true → is_held n cs ≡ true) → IsPlaceReading a rows place → IsBeside p need (held_span rows place)
      at_place None is reading = inr (omega arith)
      at_place (Some c) is reading = at_held c.held is reading.held

  -- where no span is met, the held products leave so much free
  span_of_held : (p n : ℕ) (few : Places) → is_held n few ≡ true → AllByRecursion (IsBeside p need) (map (held_span rows) few) → IsBeside p need (span_at rows (Some n))
  span_of_held p n [] h beside = absurd (false≢true h)
  span_of_held p n (place ∷ few) h beside = by_held (held_of place) (λ x. x) h beside.0 (λ e. span_of_held p n few e beside.1)
    where
      by_held : (o : Option ℕ) → (ℕ → ℕ) → (is_number n o || is_held n few) ≡ true → IsBeside p need (span_at rows o) → (is_held n few ≡ true → IsBeside p need (span_at rows (Some n)))
          → IsBeside p need (span_at rows (Some n))
      by_held None f h here more = more h
      by_held (Some m) f h here more = elim (cases_eq m n) [
        | inl same ↦ subst (λ (x : ℕ). IsBeside p need (span_at rows (Some x))) same here
        | inr other ↦ more (ap (λ (b : Bool). b || is_held n few) (sym (ne_eqb m n other)) ∙ h)
      ]

  rows_free : (p i : ℕ) → p ≤ i → i < p + need → AllByRecursion (IsBeside p need) (map (held_span rows) cs) → (rs : List Kept)
      → AllByRecursion (λ (r : Kept). find (at_number r.number) rows ≡ Some r) rs → is_covered (map kept_region (filter (is_kept_held cs) rs)) i ≡ false
  rows_free p i low high beside [] found = refl
  rows_free p i low high beside (r ∷ rs) found = by_test (is_kept_held cs r) refl (rows_free p i low high beside rs found.1)
    where
      by_test : (b : Bool) → is_kept_held cs r ≡ b → is_covered (map kept_region (filter (is_kept_held cs) rs)) i ≡ false
          → is_covered (map kept_region (cond b (r ∷ filter (is_kept_held cs) rs) (filter (is_kept_held cs) rs))) i ≡ false
      by_test true held rest =
          let span = subst (λ (o : Option Kept). IsBeside p need (span_of o)) found.0 (span_of_held p r.number cs held beside) in
          ap (λ (b : Bool). b || is_covered (map kept_region (filter (is_kept_held cs) rs)) i) (covers-not p need i r span low high) ∙ rest
      by_test false free rest = rest

  -- so it is with the spans of reservations
  reserved_beside : (p : ℕ) (rs : Reservations) → AllByRecursion (λ (v : KeptReservation). 0 < v.product.head) (open_kept rs)
      → ((i : ℕ) → p ≤ i → i < p + need → is_covered (map reserved_region (open_kept rs)) i ≡ false) → AllByRecursion (IsBeside p need) (map reserved_span rs)
  reserved_beside p [] heads free = tt
  reserved_beside p (None ∷ rs) heads free = (inr (omega arith), reserved_beside p rs heads free)
  reserved_beside p (Some v ∷ rs) heads free = (
    beside-from p need v.product some (omega (arith, heads.0)) (λ i low high. (or_parts (covers i (reserved_region v)) (is_covered (map reserved_region (open_kept rs)) i) (free i low high)).0),
    reserved_beside p rs heads.1 (λ i low high. (or_parts (covers i (reserved_region v)) (is_covered (map reserved_region (open_kept rs)) i) (free i low high)).1),
  )

  reserved_free : (p i : ℕ) → p ≤ i → i < p + need → (rs : Reservations) → AllByRecursion (IsBeside p need) (map reserved_span rs) → is_covered (map reserved_region (open_kept rs)) i ≡ false
  reserved_free p i low high [] beside = refl
  reserved_free p i low high (None ∷ rs) beside = reserved_free p i low high rs beside.1
  reserved_free p i low high (Some v ∷ rs) beside =
      ap (λ (b : Bool). b || is_covered (map reserved_region (open_kept rs)) i) (covers-not p need i v.product beside.0 low high) ∙ reserved_free p i low high rs beside.1

  abbrev spans : List Span
  spans = held_spans rows cs reservations

  abbrev regions : List Region
  regions = occupied_by (filter (is_kept_held cs) rows) reservations

  all_of : (xs ys : List Span) (p : ℕ) → AllByRecursion (IsBeside p need) xs → AllByRecursion (IsBeside p need) ys → AllByRecursion (IsBeside p need) (xs ++ ys)
  all_of [] ys p one other = other
  all_of (x ∷ xs) ys p one other = (one.0, all_of xs ys p one.1 other)

  parts_of : (xs ys : List Span) (p : ℕ) → AllByRecursion (IsBeside p need) (xs ++ ys) → AllByRecursion (IsBeside p need) xs × AllByRecursion (IsBeside p need) ys
  parts_of [] ys p both = (tt, both)
  parts_of (x ∷ xs) ys p both = let rest = parts_of xs ys p both.1 in ((both.0, rest.0), rest.1)

  -- a gap is found exactly where there is room beside the held products and the reservations
  pub gap-is : has_gap need arena spans ≡ is_some (fit need regions arena)
  gap-is =
      let held = map kept_region (filter (is_kept_held cs) rows) in
      let reserved = map reserved_region (open_kept reservations) in
      same_bool (has_gap need arena spans) (is_some (fit need regions arena))
      (λ gap.
      let room = room-found need arena spans gap in
      let parts = parts_of (map (held_span rows) cs) (map reserved_span reservations) room.start room.beside in
      space-fit need arena regions some
      (record {
        start = room.start;
        above = omega arith;
        within = room.within;
        free = λ i low high.
            list_any-append (covers i) held reserved
            ∙ ap (λ (b : Bool). b || is_covered reserved i) (rows_free room.start i low high parts.0 rows (find_self rows rising))
            ∙ reserved_free room.start i low high reservations parts.1;
      }))
      (λ fits.
      let space = fit-space need arena regions fits in
      let free =
      λ (i : ℕ) (low : space.start ≤ i) (high : i < space.start + need). or_parts (is_covered held i) (is_covered reserved i)
      (sym (list_any-append (covers i) held reserved) ∙ space.free i low high) in
      gap-found space.start need arena spans space.within
      (all_of (map (held_span rows) cs) (map reserved_span reservations) space.start
      (spans_beside space.start (λ i low high. (free i low high).0) cs (λ n e. e) all)
      (reserved_beside space.start reservations reserved_headed (λ i low high. (free i low high).1))))
