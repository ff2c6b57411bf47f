-- How many products are held.
use Rattle.std.proofs.Common.{◌≡◌, ℕ, zero, suc, ◌+◌, ◌<◌, ◌≤◌, ◌||◌, Bool, true, false, cond, not, List, [], ◌∷◌, length, Option, Some, None, refl, sym, ap, ◌∙◌, inl, inr, arith}
use Rattle.std.specs.Prelude.{◌==◌, filter}
use Rattle.std.specs.List.{All, AllByRecursion, list_any, range_with_len}
use Rattle.std.specs.Option.{IfSome}
use Rattle.std.proofs.lemmas.Bool.{true≢false, false≢true, or_cases, eq-eqb, eqb-true, ne_eqb, cases_eq, or_right}
use Rattle.ldm_types.specs.Cursors.{KeptCursor, Places, is_number}
use Rattle.ldm_cursor.specs.Places.{count_held, held_of, holds, is_held, is_last_hold}
use Rattle.ldm_model.specs.State.{State}
use Rattle.ldm_model.specs.Evict as model
use Rattle.ldm_book.specs.View.{BookView, Kept, open_kept}
use Rattle.ldm_book.specs.Products.{AreRising, has_number}
use Rattle.ldm_book.specs.Readers.{AreReading, IsPlaceReading, is_kept_held}
use Rattle.ldm_book.specs.Stands.{StandsFor}
use Rattle.ldm_book.proofs.ReadingLemmas.{any_of}
use Rattle.ldm_book.proofs.UnheldLemmas.{count-reserved, held-stands}

filter-alike : (p q : ℕ → Bool) (xs : List ℕ) → ((n : ℕ) → p n ≡ q n) → filter p xs ≡ filter q xs
filter-alike p q [] same = refl
filter-alike p q (x ∷ xs) same = λ i. cond (same x i) (x ∷ filter-alike p q xs same i) (filter-alike p q xs same i)

-- behind a number it is not met again
filter-behind : (b : ℕ → Bool) (m a len : ℕ) → m < a → filter (λ n. (m == n) || b n) (range_with_len a len) ≡ filter b (range_with_len a len)
filter-behind b m a zero h = refl
filter-behind b m a (suc len) h =
    let rest = filter-behind b m (a + 1) len (omega arith) in
    let other : ((m == a) || b a) ≡ b a = ap (λ (x : Bool). x || b a) (ne_eqb m a (λ e. omega (arith, e))) in
    λ i. cond (other i) (a ∷ rest i) (rest i)

-- one number more is counted once
count-more : (b : ℕ → Bool) (m a len : ℕ) → a ≤ m → m < a + len → b m ≡ false → length (filter (λ n. (m == n) || b n) (range_with_len a len)) ≡ 1 + length (filter b (range_with_len a len))
count-more b m a zero above below none = absurd (omega arith)
count-more b m a (suc len) above below none = elim (cases_eq m a) [
  | inl same ↦
      let here : ((m == a) || b a) ≡ true = ap (λ (x : Bool). x || b a) (eq-eqb m a same) in
      let free : b a ≡ false = ap b (sym same) ∙ none in
      let rest = filter-behind b m (a + 1) len (omega arith) in
      ap (λ (x : Bool). length (cond x (a ∷ filter (λ n. (m == n) || b n) (range_with_len (a + 1) len)) (filter (λ n. (m == n) || b n) (range_with_len (a + 1) len)))) here
      ∙ ap (λ (ns : List ℕ). length (a ∷ ns)) rest
      ∙ one (length (filter b (range_with_len (a + 1) len)))
      ∙ ap (λ (x : Bool). 1 + length (cond x (a ∷ filter b (range_with_len (a + 1) len)) (filter b (range_with_len (a + 1) len)))) (sym free)
  | inr other ↦
      let same : ((m == a) || b a) ≡ b a = ap (λ (x : Bool). x || b a) (ne_eqb m a other) in
      by_test (b a) same (count-more b m (a + 1) len (omega (arith, other)) (omega arith) none)
]
  where
    one : (n : ℕ) → suc n ≡ 1 + n
    one n = omega arith

    by_test : (x : Bool) → ((m == a) || b a) ≡ x → length (filter (λ n. (m == n) || b n) (range_with_len (a + 1) len)) ≡ 1 + length (filter b (range_with_len (a + 1) len))
        → length (filter (λ n. (m == n) || b n) (range_with_len a (suc len))) ≡ 1 + length (cond x (a ∷ filter b (range_with_len (a + 1) len)) (filter b (range_with_len (a + 1) len)))
    by_test true e rest =
        ap (λ (x : Bool). length (cond x (a ∷ filter (λ n. (m == n) || b n) (range_with_len (a + 1) len)) (filter (λ n. (m == n) || b n) (range_with_len (a + 1) len)))) e
        ∙ (let more : suc (length (filter (λ n. (m == n) || b n) (range_with_len (a + 1) len))) ≡ 1 + suc (length (filter b (range_with_len (a + 1) len))) = omega (arith, rest) in more)
    by_test false e rest = ap (λ (x : Bool). length (cond x (a ∷ filter (λ n. (m == n) || b n) (range_with_len (a + 1) len)) (filter (λ n. (m == n) || b n) (range_with_len (a + 1) len)))) e ∙ rest

-- each held number is below the end
held_below : (a : ℕ) (rows : List Kept) (cs : Places) (n : ℕ) → All (λ (k : Kept). k.number < a) rows → AreReading a rows cs → is_held n cs ≡ true → n < a
held_below a rows [] n below all h = absurd (false≢true h)
held_below a rows (place ∷ cs) n below all h = elim (or_cases (holds n place) (is_held n cs) h) [
  | inl here ↦ at_place place here all.0
  | inr behind ↦ held_below a rows cs n below all.1 behind
]
  where
    at_number : (o : Option ℕ) → is_number n o ≡ true → IfSome o (λ m. list_any (has_number m) rows ≡ true) → n < a
    at_number None e h = absurd (false≢true e)
    at_number (Some m) e h =
        let there = any_of m rows h in
        let under = below there.0 there.1 there.2 in
        let same = ap (λ (k : Kept). k.number) there.3 in
        omega (arith, under, same, there.4, eqb-true m n e)

    at_place : (place : Option KeptCursor) → holds n place ≡ true → IsPlaceReading a rows place → n < a
    at_place None e reading = absurd (false≢true e)
    at_place (Some c) e reading = at_number c.held e reading.held

count-range : (a : ℕ) (cs : Places) → ((n : ℕ) → is_held n cs ≡ true → n < a) → count_held cs ≡ length (filter (λ n. is_held n cs) (range_with_len 0 a))
count-range a [] below = sym (ap (λ (ns : List ℕ). length ns) (nothing (range_with_len 0 a)))
  where
    nothing : (ns : List ℕ) → filter (λ n. is_held n []) ns ≡ []
    nothing [] = refl
    nothing (n ∷ ns) = nothing ns
count-range a (place ∷ behind) below =
    let rest = count-range a behind (λ n h. below n (or_right (holds n place) (is_held n behind) h)) in
    by_held (held_of place) (λ n h. below n h) rest
  where
    by_held : (o : Option ℕ) → ((n : ℕ) → (is_number n o || is_held n behind) ≡ true → n < a) → count_held behind ≡ length (filter (λ n. is_held n behind) (range_with_len 0 a))
        → cond (is_last_hold o behind) 1 0 + count_held behind ≡ length (filter (λ n. is_number n o || is_held n behind) (range_with_len 0 a))
    by_held None below rest = (let zero : 0 + count_held behind ≡ count_held behind = omega arith in zero) ∙ rest
    by_held (Some m) below rest = by_test (is_held m behind) refl
      where
        by_test : (x : Bool) → is_held m behind ≡ x → cond (not (is_held m behind)) 1 0 + count_held behind ≡ length (filter (λ n. (m == n) || is_held n behind) (range_with_len 0 a))
        by_test true e =
            ap (λ (x : Bool). cond (not x) 1 0 + count_held behind) e ∙ (let zero : 0 + count_held behind ≡ count_held behind = omega arith in zero) ∙ rest
            ∙ ap (λ (ns : List ℕ). length ns) (sym (filter-alike (λ n. (m == n) || is_held n behind) (λ n. is_held n behind) (range_with_len 0 a) again))
          where
            again : (n : ℕ) → ((m == n) || is_held n behind) ≡ is_held n behind
            again n = elim (cases_eq m n) [
              | inl same ↦ ap (λ (x : Bool). x || is_held n behind) (eq-eqb m n same) ∙ sym (ap (λ (k : ℕ). is_held k behind) (sym same) ∙ e)
              | inr other ↦ ap (λ (x : Bool). x || is_held n behind) (ne_eqb m n other)
            ]
        by_test false e =
            ap (λ (x : Bool). cond (not x) 1 0 + count_held behind) e ∙ ap (λ (n : ℕ). 1 + n) rest
            ∙ sym (count-more (λ n. is_held n behind) m 0 a (omega arith) (let under = below m (ap (λ (x : Bool). x || is_held m behind) (eq-eqb m m refl)) in omega arith) e)

-- as many regions are held as the kept cursors and the open reservations say
pub count-stands : (book : BookView) (s : State) → StandsFor book s → All (λ (k : Kept). k.number < book.admitted) book.rows → AreReading book.admitted book.rows book.cursors
    → count_held book.cursors + length (open_kept book.reservations) ≡ model.count_held s
count-stands book s stands below all = λ i. held i + count-reserved book s stands i
  where
    held : count_held book.cursors ≡ length (model.held s)
    held =
        count-range book.admitted book.cursors (λ n h. held_below book.admitted book.rows book.cursors n below all h)
        ∙ ap (λ (ns : List ℕ). length ns) (filter-alike (λ n. is_held n book.cursors) (model.is_held s) (range_with_len 0 book.admitted) (λ n. held-stands book s n stands))
        ∙ ap (λ (n : ℕ). length (filter (model.is_held s) (range_with_len 0 n))) stands.admitted

-- none of these products has a number that is below all of theirs
none_at : (a : ℕ) (rows : List Kept) → AllByRecursion (λ (k : Kept). a + 1 ≤ k.number) rows → list_any (has_number a) rows ≡ false
none_at a [] above = refl
none_at a (k ∷ ks) above = ap (λ (b : Bool). b || list_any (has_number a) ks) (ne_eqb k.number a (λ e. omega (arith, e, above.0))) ∙ none_at a ks above.1

above_more : (a b : ℕ) (rows : List Kept) → a ≤ b → AllByRecursion (λ (k : Kept). b ≤ k.number) rows → AllByRecursion (λ (k : Kept). a ≤ k.number) rows
above_more a b [] h above = tt
above_more a b (k ∷ ks) h above = (omega (arith, above.0), above_more a b ks h above.1)

rising_above : (n : ℕ) (rows : List Kept) → AllByRecursion (λ (k : Kept). n < k.number) rows → AllByRecursion (λ (k : Kept). n + 1 ≤ k.number) rows
rising_above n [] above = tt
rising_above n (k ∷ ks) above = (omega (arith, above.0), rising_above n ks above.1)

-- the held products are as many as the held numbers, where each of these is the number of a product
rows-range : (cs : Places) (len a : ℕ) (rows : List Kept) → AreRising rows → AllByRecursion (λ (k : Kept). a ≤ k.number) rows → AllByRecursion (λ (k : Kept). k.number < a + len) rows
    → ((n : ℕ) → a ≤ n → is_held n cs ≡ true → list_any (has_number n) rows ≡ true) → length (filter (is_kept_held cs) rows) ≡ length (filter (λ n. is_held n cs) (range_with_len a len))
rows-range cs zero a [] rising above below there = refl
rows-range cs zero a (k ∷ ks) rising above below there = absurd (omega (arith, above.0, below.0))
rows-range cs (suc len) a [] rising above below there =
    by_test (is_held a cs) refl (rows-range cs len (a + 1) [] tt tt tt (λ n h e. there n (omega arith) e))
  where
    by_test : (b : Bool) → is_held a cs ≡ b → 0 ≡ length (filter (λ n. is_held n cs) (range_with_len (a + 1) len))
        → 0 ≡ length (cond (is_held a cs) (a ∷ filter (λ n. is_held n cs) (range_with_len (a + 1) len)) (filter (λ n. is_held n cs) (range_with_len (a + 1) len)))
    by_test true e rest = absurd (false≢true (there a (omega arith) e))
    by_test false e rest = rest ∙ ap (λ (b : Bool). length (cond b (a ∷ filter (λ n. is_held n cs) (range_with_len (a + 1) len)) (filter (λ n. is_held n cs) (range_with_len (a + 1) len)))) (sym e)
rows-range cs (suc len) a (k ∷ ks) rising above below there =
    elim (cases_eq k.number a) [
      | inl same ↦
          let rest = rows-range cs len (a + 1) ks rising.1 (above_more (a + 1) (k.number + 1) ks (omega arith) (rising_above k.number ks rising.0)) (shift ks below.1)
          (λ n h e. ap (λ (b : Bool). b || list_any (has_number n) ks) (sym (ne_eqb k.number n (λ x. omega (arith, x, same)))) ∙ there n (omega arith) e) in
          let test : is_held k.number cs ≡ is_held a cs = ap (λ (m : ℕ). is_held m cs) same in
          ap (λ (b : Bool). length (cond b (k ∷ filter (is_kept_held cs) ks) (filter (is_kept_held cs) ks))) test
          ∙ one (is_held a cs) rest
      | inr other ↦
          let ahead : a + 1 ≤ k.number = omega (arith, above.0, other) in
          let behind = above_more (a + 1) k.number (k ∷ ks) ahead (omega arith, above_more k.number (k.number + 1) ks (omega arith) (rising_above k.number ks rising.0)) in
          let rest = rows-range cs len (a + 1) (k ∷ ks) rising behind (shift (k ∷ ks) below) (λ n h e. there n (omega arith) e) in
          let free : is_held a cs ≡ false = not_there (is_held a cs) refl (none_at a (k ∷ ks) behind) in
          rest ∙ ap (λ (b : Bool). length (cond b (a ∷ filter (λ n. is_held n cs) (range_with_len (a + 1) len)) (filter (λ n. is_held n cs) (range_with_len (a + 1) len)))) (sym free)
    ]
  where
    shift : (rows : List Kept) → AllByRecursion (λ (r : Kept). r.number < a + suc len) rows → AllByRecursion (λ (r : Kept). r.number < a + 1 + len) rows
    shift [] all = tt
    shift (r ∷ rs) all = (omega (arith, all.0), shift rs all.1)

    one : (b : Bool) → length (filter (is_kept_held cs) ks) ≡ length (filter (λ n. is_held n cs) (range_with_len (a + 1) len))
        → length (cond b (k ∷ filter (is_kept_held cs) ks) (filter (is_kept_held cs) ks)) ≡ length
        (cond b (a ∷ filter (λ n. is_held n cs) (range_with_len (a + 1) len)) (filter (λ n. is_held n cs) (range_with_len (a + 1) len)))
    one true rest = ap suc rest
    one false rest = rest

    not_there : (b : Bool) → is_held a cs ≡ b → list_any (has_number a) (k ∷ ks) ≡ false → is_held a cs ≡ false
    not_there true e none = absurd (true≢false (sym (there a (omega arith) e) ∙ none))
    not_there false e none = e

-- each held number is that of a product
pub held_there : (a : ℕ) (rows : List Kept) (cs : Places) (n : ℕ) → AreReading a rows cs → is_held n cs ≡ true → list_any (has_number n) rows ≡ true
held_there a rows [] n all h = absurd (false≢true h)
held_there a rows (place ∷ cs) n all h = elim (or_cases (holds n place) (is_held n cs) h) [
  | inl here ↦ at_place place here all.0
  | inr behind ↦ held_there a rows cs n all.1 behind
]
  where
    at_number : (o : Option ℕ) → is_number n o ≡ true → IfSome o (λ m. list_any (has_number m) rows ≡ true) → list_any (has_number n) rows ≡ true
    at_number None e h = absurd (false≢true e)
    at_number (Some m) e h = ap (λ (k : ℕ). list_any (has_number k) rows) (sym (eqb-true m n e)) ∙ h

    at_place : (place : Option KeptCursor) → holds n place ≡ true → IsPlaceReading a rows place → list_any (has_number n) rows ≡ true
    at_place None e reading = absurd (false≢true e)
    at_place (Some c) e reading = at_number c.held e reading.held

recursive : (P : Kept → Type 0) (rows : List Kept) → All P rows → AllByRecursion P rows
recursive P [] all = tt
recursive P (k ∷ ks) all = (all 0 k (omega arith), recursive P ks (λ i d h. all (suc i) d (omega arith)))

-- as many products are held as the cursors say
pub count-rows : (a : ℕ) (rows : List Kept) (cs : Places) → AreRising rows → All (λ (k : Kept). k.number < a) rows → AreReading a rows cs → length (filter (is_kept_held cs) rows) ≡ count_held cs
count-rows a rows cs rising below all =
    rows-range cs a 0 rows rising (all_zero rows) (under rows (recursive (λ (k : Kept). k.number < a) rows below)) (λ n h e. held_there a rows cs n all e)
    ∙ sym (count-range a cs (λ n h. held_below a rows cs n below all h))
  where
    all_zero : (rows : List Kept) → AllByRecursion (λ (k : Kept). 0 ≤ k.number) rows
    all_zero [] = tt
    all_zero (k ∷ ks) = (omega arith, all_zero ks)

    under : (rows : List Kept) → AllByRecursion (λ (k : Kept). k.number < a) rows → AllByRecursion (λ (k : Kept). k.number < 0 + a) rows
    under [] all = tt
    under (k ∷ ks) all = (omega (arith, all.0), under ks all.1)
