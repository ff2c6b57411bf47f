-- Insertion times rise with numbers, and the last one is that of the newest row.
use Rattle.std.proofs.Common.{◌≡◌, ◌∙◌, ℕ, zero, suc, ◌-◌, ◌<◌, ◌≤◌, false, take, List, [], ◌∷◌, ◌++◌, length, Option, Some, None, refl, sym, ap, inl, inr, arith, length-append}
use Rattle.std.specs.Prelude.{◌⊎◌, slice_get}
use Rattle.std.specs.Option.{option_map}
use Rattle.std.proofs.lemmas.Bool.{cases_lt, leb-false}
use Rattle.std.proofs.lemmas.Option.{same_Some, slice_get_within}
use Rattle.ldm_types.specs.declared.limits.TheConstants.{GREATEST_INSTANT}
use Rattle.ldm_model.specs.Product.{Product, extent_of}
use Rattle.ldm_model.specs.State.{State, Row, empty, latest, last_time}
use Rattle.ldm_model.specs.Evict.{unheld, without_place, evict, evict_row, evict_all}
use Rattle.ldm_model.specs.Room.{fit_in}
use Rattle.ldm_model.specs.Insert.{after_evicting, admit, is_last, time_after}
use Rattle.ldm_model.specs.Reservation.{with_reservation, product_of}
use Rattle.ldm_model.specs.History.{after}
use Rattle.ldm_model.specs.Always.{Always, TimesRise, TimesAreInstants, LastIsNewest}
use Rattle.ldm_model.proofs.Admitted.{Keeps-evict}
use Rattle.ldm_model.proofs.Rows.{slice_get-front, slice_get-last}
use Rattle.ldm_model.proofs.Changing.{IsKept, kept-entries}

abbrev time_of : Option Row → Option ℕ
time_of row = option_map (λ (r : Row). r.time) row

-- the last insertion time is that of the newest row, in every state
latest-newest : (before : Option ℕ) (row : Row) (rows : List Row) → latest before (row ∷ rows) ≡ time_of (slice_get (row ∷ rows) (length rows))
latest-newest before row [] = refl
latest-newest before row (next ∷ rows) = latest-newest (Some row.time) next rows

last-newest : (s : State) → LastIsNewest s
last-newest s = by_rows s.rows
  where
    by_rows : (rows : List Row) → latest None rows ≡ time_of (slice_get rows (length rows - 1))
    by_rows [] = refl
    by_rows (row ∷ rows) =
        let e : length rows ≡ suc (length rows) - 1 = omega arith in
        latest-newest None row rows ∙ ap (λ (n : ℕ). time_of (slice_get (row ∷ rows) n)) e

-- evictions keep it
latest-without : (n : ℕ) (before : Option ℕ) (rows : List Row) → latest before (without_place rows n) ≡ latest before rows
latest-without n before [] = refl
latest-without zero before (row ∷ rows) = refl
latest-without (suc n) before (row ∷ rows) = latest-without n (Some row.time) rows

last-evict : (s : State) (n : ℕ) → last_time (evict s n) ≡ last_time s
last-evict s n = by_row (slice_get s.rows n)
  where
    by_row : (row : Option Row) → last_time (evict_row s n row) ≡ last_time s
    by_row None = refl
    by_row (Some row) = latest-without n None s.rows

last-evict_all : (ns : List ℕ) (s : State) → last_time (evict_all s ns) ≡ last_time s
last-evict_all [] s = refl
last-evict_all (n ∷ ns) s = last-evict_all ns (evict s n) ∙ last-evict s n

row-within : (rows : List Row) (n : ℕ) → n < length rows → (row : Row) × (slice_get rows n ≡ Some row)
row-within [] n lt = absurd (omega arith)
row-within (row ∷ rows) zero lt = (row, refl)
row-within (row ∷ rows) (suc n) lt = row-within rows n (omega arith)

-- no time is later than the last one
until-last : (s : State) → TimesRise s → (n : ℕ) (row : Row) → slice_get s.rows n ≡ Some row → (last : ℕ) × (last_time s ≡ Some last) × (row.time ≤ last)
until-last s rise n row at =
    let within = slice_get_within s.rows n row at in
    let newest = row-within s.rows (length s.rows - 1) (omega arith) in (
      newest.0.time,
      last-newest s ∙ ap time_of newest.1,
      elim (cases_lt n (length s.rows - 1)) [
        | inl lt ↦ let below = rise n (length s.rows - 1) row newest.0 lt at newest.1 in omega arith
        | inr le ↦
            let same : n ≡ length s.rows - 1 = omega arith in
            let one : row ≡ newest.0 = same_Some row newest.0 (sym at ∙ ap (λ (i : ℕ). slice_get s.rows i) same ∙ newest.1) in
            let time = ap (λ (r : Row). r.time) one in omega arith
      ],
    )

-- a row of these, or the one that is added behind them
pub at-last : (rows : List Row) (new row : Row) (n : ℕ) → slice_get (rows ++ new ∷ []) n ≡ Some row → (slice_get rows n ≡ Some row) ⊎ ((n ≡ length rows) × (new ≡ row))
at-last rows new row n at = elim (cases_lt n (length rows)) [
  | inl lt ↦ inl (sym (slice_get-front rows (new ∷ []) n lt) ∙ at)
  | inr le ↦
      let within = slice_get_within (rows ++ new ∷ []) n row at in
      let end : n ≡ length rows = omega (arith, length-append rows (new ∷ [])) in
      inr (end, same_Some new row (sym (slice_get-last rows new n end) ∙ at))
]

later-time : (last : Option ℕ) (now at : ℕ) → last ≡ Some at → at < time_after last now
later-time None now at e = absurd cc
later-time (Some last) now at e = let same = same_Some last at e in omega arith

rise-admit : (s : State) (now : ℕ) (p : Product) (place : Option ℕ) → TimesRise s → TimesRise (admit s now p place)
rise-admit s now p place rise m n old new lt at_m at_n =
    let row : Row = record { product = p; time = time_after (last_time s) now; place = place } in
    elim (at-last s.rows row new n at_n) [
      | inl there ↦ elim (at-last s.rows row old m at_m) [
        | inl here ↦ rise m n old new lt here there
        | inr here ↦ let within = slice_get_within s.rows n new there in absurd (omega (arith, here.0))
      ]
      | inr there ↦ elim (at-last s.rows row old m at_m) [
        | inl here ↦
            let until = until-last s rise m old here in
            let later = later-time (last_time s) now until.0 until.1 in
            let time = ap (λ (r : Row). r.time) there.1 in
            omega (arith, until.2, later, time)
        | inr here ↦ absurd (omega (arith, here.0, there.0))
      ]
    ]

rise-kept : IsKept TimesRise
rise-kept = record {
  placed = λ s cursors rise. rise;
  evicted = λ s i rise m n old new lt at_m at_n.
      let before = Keeps-evict s i m old at_m in
      let after = Keeps-evict s i n new at_n in
      let below = rise m n before.0 after.0 lt before.1 after.1 in
      omega (arith, before.3, after.3);
  grown = λ s now p j admission before rise. rise-admit (after_evicting s j) now p (fit_in (after_evicting s j) (extent_of p.info)) rise;
  reserved = λ s actor info r j found rise. rise;
  filled = λ s r reservation bytes is rise. rise;
  ended = λ s r rise. rise;
  committed = λ s r now reservation can before rise. rise-admit (with_reservation s r None) now (product_of reservation) (Some reservation.place) rise;
}

instant-after : (last : Option ℕ) (now : ℕ) → now ≤ GREATEST_INSTANT → is_last last ≡ false → time_after last now ≤ GREATEST_INSTANT
instant-after None now small early = small
instant-after (Some last) now small early = let below = leb-false GREATEST_INSTANT last early in omega arith

instants-admit : (s : State) (now : ℕ) (p : Product) (place : Option ℕ) → now ≤ GREATEST_INSTANT → is_last (last_time s) ≡ false → TimesAreInstants s → TimesAreInstants (admit s now p place)
instants-admit s now p place small early instants n row at = elim (at-last s.rows (record { product = p; time = time_after (last_time s) now; place = place }) row n at) [
  | inl there ↦ instants n row there
  | inr there ↦ let new = instant-after (last_time s) now small early in let time = ap (λ (r : Row). r.time) there.1 in omega arith
]

instants-kept : IsKept TimesAreInstants
instants-kept = record {
  placed = λ s cursors instants. instants;
  evicted = λ s i instants n row at. let before = Keeps-evict s i n row at in let small = instants n before.0 before.1 in omega (arith, before.3);
  grown = λ s now p j admission before instants. instants-admit (after_evicting s j) now p (fit_in (after_evicting s j) (extent_of p.info)) admission.instant
      (ap is_last (last-evict_all (take j (unheld s)) s) ∙ admission.in_time) instants;
  reserved = λ s actor info r j found instants. instants;
  filled = λ s r reservation bytes is instants. instants;
  ended = λ s r instants. instants;
  committed = λ s r now reservation can before instants. instants-admit (with_reservation s r None) now (product_of reservation) (Some reservation.place) can.instant can.in_time instants;
}

pub times-rise : Always TimesRise
times-rise arena slots history legal = kept-entries TimesRise rise-kept history (empty arena slots) legal (λ m n old new lt at_m at_n. absurd cc)

pub times-instants : Always TimesAreInstants
times-instants arena slots history legal = kept-entries TimesAreInstants instants-kept history (empty arena slots) legal (λ n row at. absurd cc)

pub last-is-newest : Always LastIsNewest
last-is-newest arena slots history legal = last-newest (after arena slots history)
