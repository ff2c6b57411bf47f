-- The rows of an image: what their numbers are, and that they are lawful.
use Rattle.std.proofs.Common.{◌≡◌, ℕ, zero, suc, ◌+◌, ◌-◌, ◌*◌, ◌%◌, ◌<◌, ◌≤◌, List, [], ◌∷◌, ◌++◌, length, take, drop, refl, sym, ◌∙◌, ap, subst, arith}
use Rattle.std.specs.Prelude.{get_or, flat_map, map, Option, Some, None}
use Rattle.std.specs.Int.{w64, from_be_bytes}
use Rattle.std.proofs.lemmas.List.{take-take, drop-drop, drop-take, length-append}
use Rattle.std.proofs.lemmas.List.Elements.{All-get_or, All-from_recursion}
use Rattle.std.proofs.lemmas.Nat.{from_be_bytes-to_be_bytes_8}
use Rattle.ldm_types.specs.declared.limits.TheConstants.{ARENA_UNIT}
use Rattle.ldm_types.specs.Arena.{Region}
use Rattle.ldm_book.specs.View.{BookView, Kept}
use Rattle.ldm_book.specs.Products.{AreRising, LieApart, kept_region}
use Rattle.ldm_book.specs.Sound.{IsTimed}
use Rattle.ldm_book.specs.Restoring.{IsRestorable, IsNewest, TimesAreRising}
use Rattle.ldm_image.specs.Image.{image, last_field, row_bytes}
use Rattle.ldm_image.specs.Fault.{RowNumber, RowTime, IsFieldLawful, number_at, number_in, time_in, place_in, row_start}
use Rattle.ldm_image.specs.Rows.{IsPlaceLawful, IsRowLawful}
use Rattle.ldm_image.proofs.HeadLemmas.{admitted_of_image, last_of_image, admitted_small, last_small}

abbrev pub no_kept : Kept
no_kept = record { number = 0; time = 0; place = 0; signature = []; feed = 0; head = 0; size = 0 }

-- the bytes of rows, and what stands behind them
pub length_rows : (rows : List Kept) → length (flat_map row_bytes rows) ≡ 24 * length rows
length_rows [] = refl
length_rows (k ∷ rows) = let rest = length_rows rows in omega (arith, rest)

row_part : (rows : List Kept) (rest : List ℕ) (i : ℕ) → i < length rows → take 24 (drop (24 * i) (flat_map row_bytes rows ++ rest)) ≡ row_bytes (get_or rows i no_kept)
row_part [] rest i within = absurd (omega (arith, within))
row_part (k ∷ rows) rest zero within = refl
row_part (k ∷ rows) rest (suc i) within =
    let all = flat_map row_bytes (k ∷ rows) ++ rest in
    let next : 24 * suc i ≡ 24 + 24 * i = omega arith in
    ap (λ (n : ℕ). take 24 (drop n all)) next ∙ ap (λ (l : List ℕ). take 24 l) (sym (drop-drop (24 * i) 24 all)) ∙ row_part rows rest i (omega (arith, within))

-- the numbers of a row, by its 24 bytes
pub number_take : (place : ℕ) (file : List ℕ) → number_at place file ≡ from_be_bytes w64 (take 8 (drop place file))
number_take place file =
    let eight : place + 8 - place ≡ 8 = omega arith in
    ap (λ (n : ℕ). from_be_bytes w64 (take n (drop place file))) eight

first_number : (place : ℕ) (file row : List ℕ) → take 24 (drop place file) ≡ row → number_at place file ≡ from_be_bytes w64 (take 8 row)
first_number place file row is =
    number_take place file ∙ ap (λ (l : List ℕ). from_be_bytes w64 l) (sym (take-take 8 24 (drop place file) (omega arith)) ∙ ap (λ (l : List ℕ). take 8 l) is)

next_number : (place skip more : ℕ) (file row : List ℕ) → skip + more ≡ 24 → 8 ≤ more → take 24 (drop place file) ≡ row
    → number_at (place + skip) file ≡ from_be_bytes w64 (take 8 (drop skip row))
next_number place skip more file row sum enough is =
    let behind : take more (drop skip (drop place file)) ≡ drop skip row =
    sym (drop-take skip more (drop place file)) ∙ ap (λ (n : ℕ). drop skip (take n (drop place file))) sum ∙ ap (λ (l : List ℕ). drop skip l) is in
    number_take (place + skip) file
    ∙ ap (λ (l : List ℕ). from_be_bytes w64 (take 8 l)) (sym (drop-drop skip place file))
    ∙ ap (λ (l : List ℕ). from_be_bytes w64 l) (sym (take-take 8 more (drop skip (drop place file)) enough) ∙ ap (λ (l : List ℕ). take 8 l) behind)

-- what is true of each row that is kept
row_timed : (last : Option ℕ) (admitted : ℕ) (rows : List Kept) (row : ℕ) → IsTimed last admitted rows → row < length rows
    → ((get_or rows row no_kept).number < admitted) × ((get_or rows row no_kept).time < last_field last)
row_timed None admitted rows row timed within = absurd (omega (arith, within, ap length timed.1))
row_timed (Some last) admitted rows row timed within =
    let at = All-get_or (λ (k : Kept). (k.number < admitted) × (k.time ≤ last)) rows row no_kept within timed.1 in
    (at.0, omega (arith, at.1))

place_small : (arena : ℕ) (rows : List Kept) (more : List Region) (row : ℕ) → LieApart arena (map kept_region rows ++ more) → row < length rows
    → (get_or rows row no_kept).place ≤ arena
place_small arena [] more row apart within = absurd (omega (arith, within))
place_small arena (k ∷ rows) more zero apart within = omega (arith, apart.0)
place_small arena (k ∷ rows) more (suc row) apart within = place_small arena rows more row apart.2 (omega (arith, within))

number_rises : (rows : List Kept) (row : ℕ) → AreRising rows → suc row < length rows → (get_or rows row no_kept).number < (get_or rows (suc row) no_kept).number
number_rises [] row rising within = absurd (omega (arith, within))
number_rises (k ∷ []) row rising within = absurd (omega (arith, within))
number_rises (k ∷ next ∷ rows) zero rising within = rising.0.0
number_rises (k ∷ next ∷ rows) (suc row) rising within = number_rises (next ∷ rows) row rising.1 (omega (arith, within))

time_rises : (rows : List Kept) (row : ℕ) → TimesAreRising rows → suc row < length rows → (get_or rows row no_kept).time < (get_or rows (suc row) no_kept).time
time_rises [] row rising within = absurd (omega (arith, within))
time_rises (k ∷ []) row rising within = absurd (omega (arith, within))
time_rises (k ∷ next ∷ rows) zero rising within = rising.0.0
time_rises (k ∷ next ∷ rows) (suc row) rising within = time_rises (next ∷ rows) row rising.1 (omega (arith, within))

step : (earlier row : ℕ) → earlier + 1 ≡ row → suc earlier ≡ row
step earlier row next = omega (arith, next)

newest_field : (last : Option ℕ) (time : ℕ) → last ≡ Some time → time + 1 ≡ last_field last
newest_field None time is = cc is
newest_field (Some last) time is = cc is

module _ (book : BookView) (is : IsRestorable book) (row : ℕ) (within : row < length book.rows) where
  abbrev kept_at : Kept
  kept_at = get_or book.rows row no_kept

  part_of_image : take 24 (drop (row_start row) (image book)) ≡ row_bytes kept_at
  part_of_image =
      ap (λ (l : List ℕ). take 24 l) (sym (drop-drop (24 * row) 48 (image book))) ∙ row_part book.rows book.bytes row within

  timed_at : (kept_at.number < book.admitted) × (kept_at.time < last_field book.last)
  timed_at = row_timed book.last book.admitted book.rows row is.timed within

  pub number_of_row : number_in row (image book) ≡ kept_at.number
  number_of_row =
      first_number (row_start row) (image book) (row_bytes kept_at) part_of_image
      ∙ from_be_bytes-to_be_bytes_8 kept_at.number (omega (arith, timed_at.0, admitted_small book is, last_small book is))

  pub time_of_row : time_in row (image book) ≡ kept_at.time
  time_of_row =
      next_number (row_start row) 8 16 (image book) (row_bytes kept_at) refl (omega arith) part_of_image
      ∙ from_be_bytes-to_be_bytes_8 kept_at.time (omega (arith, timed_at.1, last_small book is))

  pub place_of_row : place_in row (image book) ≡ kept_at.place
  place_of_row =
      next_number (row_start row) 16 8 (image book) (row_bytes kept_at) refl (omega arith) part_of_image
      ∙ from_be_bytes-to_be_bytes_8 kept_at.place (omega (arith, place_small book.arena book.rows [] row is.apart within, is.arena.1))

  whole_row : row_start row + 24 ≤ length (image book)
  whole_row =
      let long = length_rows book.rows in
      let both = length-append (flat_map row_bytes book.rows) book.bytes in
      omega (arith, long, both, within)

-- the rows of an image are lawful
module _ (book : BookView) (is : IsRestorable book) (row : ℕ) (within : row < length book.rows) where
  number_is_lawful : IsFieldLawful (image book) (RowNumber row)
  number_is_lawful = (
    omega (arith, whole_row book is row within),
    rw (number_of_row book is row within, admitted_of_image book is) (timed_at book is row within).0,
    λ earlier next.
        let before : earlier < length book.rows = omega (arith, next, within) in
        rw (number_of_row book is row within, number_of_row book is earlier before)
        (subst (λ (n : ℕ). (get_or book.rows earlier no_kept).number < (get_or book.rows n no_kept).number) (step earlier row next)
        (number_rises book.rows earlier is.rising (omega (arith, next, within)))),
  )

  time_is_lawful : IsFieldLawful (image book) (RowTime row)
  time_is_lawful = (
    omega (arith, whole_row book is row within),
    rw (time_of_row book is row within, last_of_image book is) (timed_at book is row within).1,
    λ earlier next.
        let before : earlier < length book.rows = omega (arith, next, within) in
        rw (time_of_row book is row within, time_of_row book is earlier before)
        (subst (λ (n : ℕ). (get_or book.rows earlier no_kept).time < (get_or book.rows n no_kept).time) (step earlier row next)
        (time_rises book.rows earlier is.times (omega (arith, next, within)))),
    λ newest.
        let last : book.last ≡ Some (kept_at book is row within).time =
        All-get_or (IsNewest book) book.rows row no_kept within (All-from_recursion (IsNewest book) book.rows is.newest)
        (ap (λ (n : ℕ). n + 1) (sym (number_of_row book is row within)) ∙ newest ∙ admitted_of_image book is) in
        rw (time_of_row book is row within, last_of_image book is) (newest_field book.last (kept_at book is row within).time last),
  )

  place_is_lawful : IsPlaceLawful (image book) row
  place_is_lawful = (
    omega (arith, whole_row book is row within),
    rw (place_of_row book is row within)
        (All-get_or (λ (k : Kept). k.place % ARENA_UNIT ≡ 0) book.rows row no_kept within (All-from_recursion (λ (k : Kept). k.place % ARENA_UNIT ≡ 0) book.rows is.placed)),
  )

  pub row_is_lawful : IsRowLawful (image book) row
  row_is_lawful = record { number = number_is_lawful; time = time_is_lawful; place = place_is_lawful }
