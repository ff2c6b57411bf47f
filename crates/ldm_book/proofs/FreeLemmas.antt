-- The products that nobody holds, the oldest first.
use Rattle.std.proofs.Common.{◌≡◌, ℕ, suc, ◌+◌, ◌<◌, ◌≤◌, ◌||◌, Bool, true, false, cond, not, List, [], ◌∷◌, ◌++◌, map, drop, Option, Some, None, refl, sym, ap, subst, ◌∙◌, inl, inr, arith}
use Rattle.std.specs.Prelude.{◌==◌, ◌&&◌, filter, nat_le}
use Rattle.std.specs.List.{All, AllByRecursion, find, list_any}
use Rattle.std.specs.Option.{option_map}
use Rattle.std.proofs.lemmas.Bool.{true≢false, eq-eqb, ne_eqb, le-leb, cases_lt, cases_eq, or_right}
use Rattle.ldm_types.specs.Cursors.{KeptCursor, Places}
use Rattle.ldm_types.specs.Feed.{feeds_meet}
use Rattle.ldm_cursor.specs.Places.{cursor_with_loss, holds, is_held, with_loss}
use Rattle.ldm_book.specs.View.{BookView, Kept}
use Rattle.ldm_book.specs.Products.{AreRising, at_number, has_number, is_other, kept_number}
use Rattle.ldm_book.proofs.MeetingLemmas.{found_later, found_now}
use Rattle.ldm_book.specs.Readers.{AreAhead, feed_of, first_of, free_numbers, is_kept_free, is_kept_held, unheld_numbers, without_product}

-- the number that is found is that of a product
pub number_found : (o : Option Kept) (n : ℕ) → Some n ≡ option_map kept_number o → (k : Kept) × (o ≡ Some k) × (k.number ≡ n)
number_found None n e = absurd cc
number_found (Some k) n e = (k, refl, cc)

pub no_number : (o : Option Kept) → None ≡ option_map kept_number o → o ≡ None
no_number None e = refl
no_number (Some k) e = absurd cc

module _ (cs : Places) where
  abbrev free_rows : List Kept → List Kept
  free_rows rows = filter (is_kept_free cs) rows

  -- all behind a number are ahead of it
  above_ahead : (n : ℕ) (rows : List Kept) → AllByRecursion (λ (other : Kept). n < other.number) rows → AreAhead (n + 1) cs rows
  above_ahead n [] above = tt
  above_ahead n (k ∷ ks) above = (λ free. omega (arith, above.0), above_ahead n ks above.1)

  -- a product in front of all that are ahead is held
  behind_held : (at : ℕ) (k : Kept) → (is_kept_held cs k ≡ false → at ≤ k.number) → k.number < at → is_kept_held cs k ≡ true
  behind_held at k ahead h = by_test (is_kept_held cs k) refl
    where
      by_test : (b : Bool) → is_kept_held cs k ≡ b → is_kept_held cs k ≡ true
      by_test true e = e
      by_test false e = absurd (let above = ahead e in omega arith)

  -- the first product of at least a number is held: what nobody holds is behind it
  pub ahead_more : (at : ℕ) (rows : List Kept) (found : Kept) → AreRising rows → find (at_number at) rows ≡ Some found → is_kept_held cs found ≡ true → AreAhead at cs rows
      → AreAhead (found.number + 1) cs rows
  ahead_more at [] found rising e held ahead = tt
  ahead_more at (k ∷ ks) found rising e held ahead =
      elim (cases_lt k.number at) [
        | inr here ↦
            let same : k ≡ found = found_now at k ks found here e in
            subst (λ (x : Kept). AreAhead (x.number + 1) cs (k ∷ ks)) same
            (λ free. absurd (true≢false (sym (ap (is_kept_held cs) same ∙ held) ∙ free)), above_ahead k.number ks rising.0)
        | inl before ↦
            (λ free. absurd (true≢false (sym (behind_held at k ahead.0 before) ∙ free)), ahead_more at ks found rising.1 (sym (found_later at k ks before) ∙ e) held ahead.1)
      ]

  free_first : (k : Kept) (ks : List Kept) → is_kept_held cs k ≡ false → free_rows (k ∷ ks) ≡ k ∷ free_rows ks
  free_first k ks free = ap (λ (b : Bool). cond (not b) (k ∷ free_rows ks) (free_rows ks)) free

  free_later : (k : Kept) (ks : List Kept) → is_kept_held cs k ≡ true → free_rows (k ∷ ks) ≡ free_rows ks
  free_later k ks held = ap (λ (b : Bool). cond (not b) (k ∷ free_rows ks) (free_rows ks)) held

  -- nobody holds it: it is the oldest such
  pub first_found : (at : ℕ) (rows : List Kept) (found : Kept) → find (at_number at) rows ≡ Some found → is_kept_held cs found ≡ false → AreAhead at cs rows
      → first_of (free_numbers cs rows) ≡ Some found.number
  first_found at [] found e free ahead = absurd cc
  first_found at (k ∷ ks) found e free ahead =
      elim (cases_lt k.number at) [
        | inr here ↦
            let same : k ≡ found = found_now at k ks found here e in
            ap (λ (rs : List Kept). first_of (map kept_number rs)) (free_first k ks (ap (is_kept_held cs) same ∙ free)) ∙ ap (λ (x : Kept). Some x.number) same
        | inl before ↦
            ap (λ (rs : List Kept). first_of (map kept_number rs)) (free_later k ks (behind_held at k ahead.0 before)) ∙ first_found at ks found (sym (found_later at k ks before) ∙ e) free ahead.1
      ]

  pub ahead_found : (at : ℕ) (rows : List Kept) (found : Kept) → AreRising rows → find (at_number at) rows ≡ Some found → AreAhead at cs rows → AreAhead found.number cs rows
  ahead_found at [] found rising e ahead = tt
  ahead_found at (k ∷ ks) found rising e ahead =
      elim (cases_lt k.number at) [
        | inr here ↦
            let same : k ≡ found = found_now at k ks found here e in
            subst (λ (x : Kept). AreAhead x.number cs (k ∷ ks)) same
            (λ free. omega arith, weaker k.number ks (above_ahead k.number ks rising.0))
        | inl before ↦
            (λ free. absurd (true≢false (sym (behind_held at k ahead.0 before) ∙ free)), ahead_found at ks found rising.1 (sym (found_later at k ks before) ∙ e) ahead.1)
      ]
    where
      weaker : (n : ℕ) (rows : List Kept) → AreAhead (n + 1) cs rows → AreAhead n cs rows
      weaker n [] ahead = tt
      weaker n (k ∷ ks) ahead = (λ free. let above = ahead.0 free in omega arith, weaker n ks ahead.1)

  -- none is at least that number: all are held
  pub none_found : (at : ℕ) (rows : List Kept) → find (at_number at) rows ≡ None → AreAhead at cs rows → free_numbers cs rows ≡ []
  none_found at [] e ahead = refl
  none_found at (k ∷ ks) e ahead =
      elim (cases_lt k.number at) [
        | inr here ↦ absurd (let now : find (at_number at) (k ∷ ks) ≡ Some k = ap (λ (b : Bool). cond b (Some k) (find (at_number at) ks)) (le-leb at k.number here) in cc)
        | inl before ↦ ap (map kept_number) (free_later k ks (behind_held at k ahead.0 before)) ∙ none_found at ks (sym (found_later at k ks before) ∙ e) ahead.1
      ]

  -- at the beginning all are ahead
  pub ahead_zero : (rows : List Kept) → AreAhead 0 cs rows
  ahead_zero [] = tt
  ahead_zero (k ∷ ks) = (λ free. omega arith, ahead_zero ks)

  -- the oldest that nobody holds is one of the products, and nobody holds it
  pub first-there : (rows : List Kept) (n : ℕ) → first_of (free_numbers cs rows) ≡ Some n → (list_any (has_number n) rows ≡ true) × (is_held n cs ≡ false)
  first-there [] n e = absurd cc
  first-there (k ∷ ks) n e = by_test (first-there ks n) (is_kept_held cs k) refl
    where
      by_test : (first_of (free_numbers cs ks) ≡ Some n → (list_any (has_number n) ks ≡ true) × (is_held n cs ≡ false)) → (b : Bool) → is_kept_held cs k ≡ b
          → (list_any (has_number n) (k ∷ ks) ≡ true) × (is_held n cs ≡ false)
      by_test more false free =
          let same : Some k.number ≡ Some n = sym (ap (λ (rs : List Kept). first_of (map kept_number rs)) (free_first k ks free)) ∙ e in
          let number : k.number ≡ n = cc in
          (ap (λ (b : Bool). b || list_any (has_number n) ks) (eq-eqb k.number n number), ap (λ (m : ℕ). is_held m cs) (sym number) ∙ free)
      by_test more true held =
          let rest = more (sym (ap (λ (rs : List Kept). first_of (map kept_number rs)) (free_later k ks held)) ∙ e) in
          (or_right (k.number == n) (list_any (has_number n) ks) rest.0, rest.1)

-- a loss ends no hold
holds-loss : (n feed m : ℕ) (place : Option KeptCursor) → holds m (with_loss n feed place) ≡ holds m place
holds-loss n feed m None = refl
holds-loss n feed m (Some c) = by_test (nat_le c.position n && feeds_meet c.feed feed)
  where
    by_test : (b : Bool) → holds m (Some (cond b (cursor_with_loss n c) c)) ≡ holds m (Some c)
    by_test true = refl
    by_test false = refl

pub is_held-loss : (n feed m : ℕ) (cs : Places) → is_held m (map (with_loss n feed) cs) ≡ is_held m cs
is_held-loss n feed m [] = refl
is_held-loss n feed m (place ∷ cs) = λ i. holds-loss n feed m place i || is_held-loss n feed m cs i

-- holds that are alike hold the same products
pub free-alike : (cs ds : Places) (rows : List Kept) → ((m : ℕ) → is_held m cs ≡ is_held m ds) → filter (is_kept_free cs) rows ≡ filter (is_kept_free ds) rows
free-alike cs ds [] alike = refl
free-alike cs ds (k ∷ ks) alike = λ i. cond (not (alike k.number i)) (k ∷ free-alike cs ds ks alike i) (free-alike cs ds ks alike i)

pub held-alike : (cs ds : Places) (rows : List Kept) → ((m : ℕ) → is_held m cs ≡ is_held m ds) → filter (is_kept_held cs) rows ≡ filter (is_kept_held ds) rows
held-alike cs ds [] alike = refl
held-alike cs ds (k ∷ ks) alike = λ i. cond (alike k.number i) (k ∷ held-alike cs ds ks alike i) (held-alike cs ds ks alike i)

pub ahead-alike : (n : ℕ) (cs ds : Places) (rows : List Kept) → ((m : ℕ) → is_held m cs ≡ is_held m ds) → AreAhead n cs rows → AreAhead n ds rows
ahead-alike n cs ds [] alike ahead = tt
ahead-alike n cs ds (k ∷ ks) alike ahead = (λ free. ahead.0 (alike k.number ∙ free), ahead-alike n cs ds ks alike ahead.1)

others_all : (n : ℕ) (rows : List Kept) → AllByRecursion (λ other. n < other.number) rows → filter (is_other n) rows ≡ rows
others_all n [] h = refl
others_all n (k ∷ ks) h =
    let above = h.0 in
    ap (λ (b : Bool). cond (not b) (k ∷ filter (is_other n) ks) (filter (is_other n) ks)) (ne_eqb k.number n (omega arith)) ∙ ap (λ (ys : List Kept). k ∷ ys) (others_all n ks h.1)

-- the first of the products that nobody holds is taken out: the others are left, and so are the held ones
pub free_left : (cs : Places) (rows : List Kept) (n : ℕ) → AreRising rows → first_of (free_numbers cs rows) ≡ Some n → free_numbers cs (filter (is_other n) rows) ≡ drop 1 (free_numbers cs rows)
free_left cs [] n rising e = refl
free_left cs (k ∷ ks) n rising e = by_test (free_left cs ks n rising.1) (is_kept_held cs k) refl
  where
    by_test : (first_of (free_numbers cs ks) ≡ Some n → free_numbers cs (filter (is_other n) ks) ≡ drop 1 (free_numbers cs ks)) → (b : Bool) → is_kept_held cs k ≡ b
        → free_numbers cs (filter (is_other n) (k ∷ ks)) ≡ drop 1 (free_numbers cs (k ∷ ks))
    by_test more false free =
        let same : Some k.number ≡ Some n = sym (ap (λ (rs : List Kept). first_of (map kept_number rs)) (free_first cs k ks free)) ∙ e in
        let number : k.number ≡ n = cc in
        ap (λ (b : Bool). free_numbers cs (cond (not b) (k ∷ filter (is_other n) ks) (filter (is_other n) ks))) (eq-eqb k.number n number)
        ∙ ap (λ (m : ℕ). free_numbers cs (filter (is_other m) ks)) (sym number)
        ∙ ap (free_numbers cs) (others_all k.number ks rising.0)
        ∙ sym (ap (λ (rs : List Kept). drop 1 (map kept_number rs)) (free_first cs k ks free))
    by_test more true held =
        let later : first_of (free_numbers cs ks) ≡ Some n = sym (ap (λ (rs : List Kept). first_of (map kept_number rs)) (free_later cs k ks held)) ∙ e in
        let there = first-there cs ks n later in
        let other : (k.number == n) ≡ false = ne_eqb k.number n (λ same. true≢false (sym held ∙ ap (λ (m : ℕ). is_held m cs) same ∙ there.1)) in
        ap (λ (b : Bool). free_numbers cs (cond (not b) (k ∷ filter (is_other n) ks) (filter (is_other n) ks))) other
        ∙ ap (map kept_number) (free_later cs k (filter (is_other n) ks) held)
        ∙ more later
        ∙ sym (ap (λ (rs : List Kept). drop 1 (map kept_number rs)) (free_later cs k ks held))

pub held_left : (cs : Places) (rows : List Kept) (n : ℕ) → is_held n cs ≡ false → filter (is_kept_held cs) (filter (is_other n) rows) ≡ filter (is_kept_held cs) rows
held_left cs [] n free = refl
held_left cs (k ∷ ks) n free = elim (cases_eq k.number n) [
  | inl same ↦
      ap (λ (x : Bool). filter (is_kept_held cs) (cond (not x) (k ∷ filter (is_other n) ks) (filter (is_other n) ks))) (eq-eqb k.number n same)
      ∙ held_left cs ks n free
      ∙ sym (ap (λ (x : Bool). cond x (k ∷ filter (is_kept_held cs) ks) (filter (is_kept_held cs) ks)) (ap (λ (m : ℕ). is_held m cs) same ∙ free))
  | inr other ↦
      ap (λ (x : Bool). filter (is_kept_held cs) (cond (not x) (k ∷ filter (is_other n) ks) (filter (is_other n) ks))) (ne_eqb k.number n other)
      ∙ ap (λ (rs : List Kept). cond (is_kept_held cs k) (k ∷ rs) rs) (held_left cs ks n free)
]

-- numbers rise among what is left
pub rising_left : (test : Kept → Bool) (rows : List Kept) → AreRising rows → AreRising (filter test rows)
rising_left test [] rising = tt
rising_left test (k ∷ ks) rising = by_test (test k) (rising_left test ks rising.1) (all_left ks rising.0)
  where
    all_left : (rows : List Kept) → AllByRecursion (λ other. k.number < other.number) rows → AllByRecursion (λ other. k.number < other.number) (filter test rows)
    all_left [] all = tt
    all_left (r ∷ rs) all = keep (test r) (all_left rs all.1)
      where
        keep : (b : Bool) → AllByRecursion (λ other. k.number < other.number) (filter test rs) → AllByRecursion (λ other. k.number < other.number) (cond b (r ∷ filter test rs) (filter test rs))
        keep true rest = (all.0, rest)
        keep false rest = rest

    by_test : (b : Bool) → AreRising (filter test ks) → AllByRecursion (λ other. k.number < other.number) (filter test ks) → AreRising (cond b (k ∷ filter test ks) (filter test ks))
    by_test true rest above = (above, rest)
    by_test false rest above = rest

-- a book without the first product that nobody holds
pub unheld-evicted : (book : BookView) (n : ℕ) → AreRising book.rows → first_of (unheld_numbers book) ≡ Some n → unheld_numbers (without_product n book) ≡ drop 1 (unheld_numbers book)
unheld-evicted book n rising e =
    let feed = feed_of (find (at_number n) book.rows) in
    ap (map kept_number) (free-alike (map (with_loss n feed) book.cursors) book.cursors (filter (is_other n) book.rows) (λ m. is_held-loss n feed m book.cursors))
    ∙ free_left book.cursors book.rows n rising e

-- and with one product more that has a greater number
pub rising_push : (rows : List Kept) (new : Kept) → AreRising rows → All (λ (k : Kept). k.number < new.number) rows → AreRising (rows ++ new ∷ [])
rising_push [] new rising below = (tt, tt)
rising_push (k ∷ ks) new rising below =
    (more ks rising.0, rising_push ks new rising.1 (λ i d h. below (suc i) d (omega arith)))
  where
    more : (rows : List Kept) → AllByRecursion (λ other. k.number < other.number) rows → AllByRecursion (λ other. k.number < other.number) (rows ++ new ∷ [])
    more [] all = (below 0 k (omega arith), tt)
    more (r ∷ rs) all = (all.0, more rs all.1)
