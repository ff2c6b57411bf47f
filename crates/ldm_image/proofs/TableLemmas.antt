-- The numbers of rows, by the bytes that were read of them.
use Rattle.std.proofs.Common.{◌≡◌, inl, inr, ⊎_elim, ℕ, zero, suc, refl, ◌+◌, ◌-◌, ◌*◌, ◌%◌, ◌<◌, ◌≤◌, List, [], ◌∷◌, ◌++◌, length, take, drop, sym, ◌∙◌, ap, subst, arith}
use Rattle.std.specs.Prelude.{Some, None}
use Rattle.std.specs.Int.{w64, from_be_bytes}
use Rattle.std.proofs.lemmas.Bool.{cases_lt}
use Rattle.std.proofs.lemmas.List.{take-take, drop-drop, drop-take}
use Rattle.ldm_image.specs.declared.sizes.Sizes.{Sizes}
use Rattle.ldm_types.specs.declared.limits.TheConstants.{ARENA_UNIT}
use Rattle.ldm_book.specs.declared.restoring.RowNote.{RowNote}
use Rattle.ldm_book.specs.Restoring.{note_at}
use Rattle.ldm_image.specs.Sizes.{HasSizes}
use Rattle.ldm_image.specs.Fault.{HasEight, RowNumber, RowTime, IsFieldLawful, number_at, number_in, time_in, place_in, row_start, count_in}
use Rattle.ldm_image.specs.Rows.{AreRows, HoldsTable, AreFrom, IsRowLawful, IsRowAt, RowFaultAt, BadNumber, BadTime, BadPlace}
use Rattle.ldm_image.proofs.RowLemmas.{number_take}

module _ (table file : List ℕ) (sizes : Sizes) (holds : HoldsTable table sizes file) (place at : ℕ) (is : at ≡ 48 + place) where
  pub table_number : (n : ℕ) → HasEight place table × (n ≡ number_at place table) → HasEight at file × (n ≡ number_at at file)
  table_number n has =
      let count = length table in
      let len : 48 + count - 48 ≡ count = omega arith in
      let table_is : table ≡ take count (drop 48 file) = holds.is ∙ ap (λ (k : ℕ). take k (drop 48 file)) len in
      let sum : count ≡ place + (count - place) = omega (arith, has.0) in
      let behind : drop place table ≡ take (count - place) (drop at file) =
      ap (λ (l : List ℕ). drop place l) (table_is ∙ ap (λ (k : ℕ). take k (drop 48 file)) sum) ∙ drop-take place (count - place) (drop 48 file)
      ∙ ap (λ (l : List ℕ). take (count - place) l) (drop-drop place 48 file ∙ ap (λ (k : ℕ). drop k file) (sym is)) in (
        omega (arith, has.0, holds.within, is),
        has.1 ∙ number_take place table
            ∙ ap (λ (l : List ℕ). from_be_bytes w64 l) (ap (λ (l : List ℕ). take 8 l) behind ∙ take-take 8 (count - place) (drop at file) (omega (arith, has.0)))
            ∙ sym (number_take at file),
      )

  pub table_lacks : place + 8 ≤ 24 * count_in file → ¬ (HasEight place table) → ¬ (HasEight at file)
  table_lacks most not has = ⊎_elim (λ all. not (omega (arith, all, most))) (λ ends. not (omega (arith, ends, has, is))) holds.all

-- a number from one on is above that of the row before it
pub rises_from : (n number time row : ℕ) (file : List ℕ) → AreFrom number time row file → n ≡ number_in row file → number ≤ n
    → (earlier : ℕ) → earlier + 1 ≡ row → number_in earlier file < number_in row file
rises_from n number time row file from is le earlier next = let at = (from.next earlier next).0 in omega (arith, at, is, le)

pub is_from : (n number time row : ℕ) (file : List ℕ) → AreFrom number time row file → n ≡ number_in row file
    → ((earlier : ℕ) → earlier + 1 ≡ row → number_in earlier file < number_in row file) → number ≤ n
is_from n number time zero file from is rising = let none = (from.first refl).0 in omega (arith, none)
is_from n number time (suc row) file from is rising =
    let at = (from.next row (omega arith)).0 in
    let less = rising row (omega arith) in
    omega (arith, at, is, less)

pub time_rises_from : (end number time row : ℕ) (file : List ℕ) → AreFrom number time row file → end ≡ time_in row file → time ≤ end
    → (earlier : ℕ) → earlier + 1 ≡ row → time_in earlier file < time_in row file
time_rises_from end number time row file from is le earlier next = let at = (from.next earlier next).1 in omega (arith, at, is, le)

pub time_is_from : (end number time row : ℕ) (file : List ℕ) → AreFrom number time row file → end ≡ time_in row file
    → ((earlier : ℕ) → earlier + 1 ≡ row → time_in earlier file < time_in row file) → time ≤ end
time_is_from end number time zero file from is rising = let none = (from.first refl).1 in omega (arith, none)
time_is_from end number time (suc row) file from is rising =
    let at = (from.next row (omega arith)).1 in
    let less = rising row (omega arith) in
    omega (arith, at, is, less)

-- a row of the file, by the numbers that were read of it
module _ (table file : List ℕ) (sizes : Sizes) (holds : HoldsTable table sizes file) (number time row : ℕ) (from : AreFrom number time row file) (inside : row < sizes.count) where
  row_inside : row < count_in file
  row_inside = omega (arith, inside, holds.sized.count)

  number_read : (n : ℕ) → HasEight (24 * row) table × (n ≡ number_at (24 * row) table) → HasEight (row_start row) file × (n ≡ number_in row file)
  number_read n has = table_number table file sizes holds (24 * row) (row_start row) refl n has

  time_read : (end : ℕ) → HasEight (24 * row + 8) table × (end ≡ number_at (24 * row + 8) table) → HasEight (row_start row + 8) file × (end ≡ time_in row file)
  time_read end has = table_number table file sizes holds (24 * row + 8) (row_start row + 8) (omega arith) end has

  place_read : (place : ℕ) → HasEight (24 * row + 16) table × (place ≡ number_at (24 * row + 16) table)
      → HasEight (row_start row + 16) file × (place ≡ place_in row file)
  place_read place has = table_number table file sizes holds (24 * row + 16) (row_start row + 16) (omega arith) place has

  pub bad_number : (n : ℕ) → HasEight (24 * row) table × (n ≡ number_at (24 * row) table) → (number ≤ n → n < sizes.admitted → ⊥) → RowFaultAt file row (row_start row)
  bad_number n has not =
      let at = number_read n has in
      BadNumber (λ lawful. not (is_from n number time row file from at.1 lawful.2) (omega (arith, lawful.1, at.1, holds.sized.admitted))) refl

  pub good_number : (n : ℕ) → HasEight (24 * row) table × (n ≡ number_at (24 * row) table) → number ≤ n → n < sizes.admitted → IsFieldLawful file (RowNumber row)
  good_number n has le less =
      let at = number_read n has in
      (at.0, omega (arith, at.1, holds.sized.admitted, less), rises_from n number time row file from at.1 le)

  pub no_time : IsFieldLawful file (RowNumber row) → ¬ (HasEight (24 * row + 8) table) → RowFaultAt file row (row_start row + 8)
  no_time good not =
      BadTime good (λ lawful. table_lacks table file sizes holds (24 * row + 8) (row_start row + 8) (omega arith) (omega (arith, row_inside)) not lawful.0) refl

  pub bad_time : (n end : ℕ) → HasEight (24 * row) table × (n ≡ number_at (24 * row) table) → IsFieldLawful file (RowNumber row)
      → HasEight (24 * row + 8) table × (end ≡ number_at (24 * row + 8) table)
      → (time ≤ end → end < sizes.end → (n + 1 ≡ sizes.admitted → end + 1 ≡ sizes.end) → ⊥) → RowFaultAt file row (row_start row + 8)
  bad_time n end has good ends not =
      let first = number_read n has in
      let at = time_read end ends in
      BadTime good
      (λ lawful.
      not (time_is_from end number time row file from at.1 lawful.2) (omega (arith, lawful.1, at.1, holds.sized.end))
      (λ newest.
      let last = lawful.3 (omega (arith, newest, first.1, holds.sized.admitted)) in
      omega (arith, last, at.1, holds.sized.end)))
      refl

  pub good_time : (n end : ℕ) → HasEight (24 * row) table × (n ≡ number_at (24 * row) table) → HasEight (24 * row + 8) table × (end ≡ number_at (24 * row + 8) table)
      → time ≤ end → end < sizes.end → (n + 1 ≡ sizes.admitted → end + 1 ≡ sizes.end) → IsFieldLawful file (RowTime row)
  good_time n end has ends le less newest =
      let first = number_read n has in
      let at = time_read end ends in (
        at.0,
        omega (arith, at.1, holds.sized.end, less),
        time_rises_from end number time row file from at.1 le,
        λ is.
            let last = newest (omega (arith, is, first.1, holds.sized.admitted)) in
            omega (arith, last, at.1, holds.sized.end),
      )

  pub no_place : IsFieldLawful file (RowNumber row) → IsFieldLawful file (RowTime row) → ¬ (HasEight (24 * row + 16) table) → RowFaultAt file row (row_start row + 16)
  no_place good timed not =
      BadPlace good timed (λ lawful. table_lacks table file sizes holds (24 * row + 16) (row_start row + 16) (omega arith) (omega (arith, row_inside)) not lawful.0) refl

  pub bad_place : (place : ℕ) → HasEight (24 * row + 16) table × (place ≡ number_at (24 * row + 16) table) → IsFieldLawful file (RowNumber row)
      → IsFieldLawful file (RowTime row) → (place % ARENA_UNIT ≡ 0 → ⊥) → RowFaultAt file row (row_start row + 16)
  bad_place place has good timed not =
      let at = place_read place has in
      BadPlace good timed (λ lawful. not (subst (λ (p : ℕ). p % ARENA_UNIT ≡ 0) (sym at.1) lawful.1)) refl

  pub row_is : (n end place : ℕ) (note : RowNote) → HasEight (24 * row) table × (n ≡ number_at (24 * row) table)
      → HasEight (24 * row + 8) table × (end ≡ number_at (24 * row + 8) table) → HasEight (24 * row + 16) table × (place ≡ number_at (24 * row + 16) table)
      → IsFieldLawful file (RowNumber row) → IsFieldLawful file (RowTime row) → place % ARENA_UNIT ≡ 0 → note.n ≡ n → note.time ≡ end → note.place ≡ place
      → IsRowLawful file row × IsRowAt file row note
  row_is n end place note has ends places good timed whole a b d =
      let first = number_read n has in
      let at = time_read end ends in
      let stands = place_read place places in (
        record { number = good; time = timed; place = (stands.0, subst (λ (p : ℕ). p % ARENA_UNIT ≡ 0) stands.1 whole) },
        record { number = a ∙ first.1; time = b ∙ at.1; place = d ∙ stands.1 },
      )

-- one row more was judged
front_note : (notes : List RowNote) (note : RowNote) (row : ℕ) → row < length notes → note_at (notes ++ note ∷ []) row ≡ note_at notes row
front_note [] note row within = absurd (omega (arith, within))
front_note (n ∷ notes) note zero within = refl
front_note (n ∷ notes) note (suc row) within = front_note notes note row (omega (arith, within))

last_note : (notes : List RowNote) (note : RowNote) → note_at (notes ++ note ∷ []) (length notes) ≡ note
last_note [] note = refl
last_note (n ∷ notes) note = last_note notes note

pub more_rows : (file : List ℕ) (notes more : List RowNote) (note : RowNote) (i : ℕ) → length notes ≡ i → more ≡ notes ++ note ∷ []
    → ((row : ℕ) → row < i → IsRowLawful file row × IsRowAt file row (note_at notes row)) → IsRowLawful file i × IsRowAt file i note
    → (row : ℕ) → row < i + 1 → IsRowLawful file row × IsRowAt file row (note_at more row)
more_rows file notes more note i count is so_far next row within =
    elim (cases_lt row i) [
      | inl below ↦
          (let at = so_far row below in
          let same : note_at more row ≡ note_at notes row = ap (λ (l : List RowNote). note_at l row) is ∙ front_note notes note row (omega (arith, below, count)) in
          (at.0, subst (λ (n : RowNote). IsRowAt file row n) (sym same) at.1))
      | inr above ↦
          (let it : length notes ≡ row = omega (arith, above, within, count) in
          let same : note_at more row ≡ note = ap (λ (l : List RowNote). note_at l row) is ∙ ap (λ (k : ℕ). note_at (notes ++ note ∷ []) k) (sym it) ∙ last_note notes note in
          let here : i ≡ row = omega (arith, above, within) in (
            subst (λ (k : ℕ). IsRowLawful file k) here next.0,
            subst (λ (n : RowNote). IsRowAt file row n) (sym same) (subst (λ (k : ℕ). IsRowAt file k note) here next.1),
          ))
    ]

pub next_from : (file : List ℕ) (note : RowNote) (time i : ℕ) → time ≡ note.time → IsRowAt file i note → AreFrom (note.n + 1) (time + 1) (i + 1) file
next_from file note time i is at = record {
  first = λ none. absurd (omega (arith, none));
  next = λ before next.
      let same : before ≡ i = omega (arith, next) in (
        ap (λ (k : ℕ). k + 1) (at.number ∙ ap (λ (k : ℕ). number_in k file) (sym same)),
        ap (λ (k : ℕ). k + 1) (is ∙ at.time ∙ ap (λ (k : ℕ). time_in k file) (sym same)),
      );
}

-- the rows end
pub rows_end : (file : List ℕ) (notes : List RowNote) (sizes : Sizes) (i : ℕ) → HasSizes sizes file → length notes ≡ i → i ≡ sizes.count
    → ((row : ℕ) → row < i → IsRowLawful file row × IsRowAt file row (note_at notes row)) → AreRows notes None file
rows_end file notes sizes i sized count all so_far = record {
  lawful = λ row within. so_far row (omega (arith, within, count));
  few = omega (arith, count, all, sized.count);
  ends = count ∙ all ∙ sized.count;
}

pub rows_stop : (file : List ℕ) (notes : List RowNote) (sizes : Sizes) (i at : ℕ) → HasSizes sizes file → length notes ≡ i → i < sizes.count
    → ((row : ℕ) → row < i → IsRowLawful file row × IsRowAt file row (note_at notes row)) → RowFaultAt file i at → AreRows notes (Some at) file
rows_stop file notes sizes i at sized count inside so_far fault = record {
  lawful = λ row within. so_far row (omega (arith, within, count));
  few = omega (arith, count, inside, sized.count);
  ends = (omega (arith, count, inside, sized.count), subst (λ (k : ℕ). RowFaultAt file k at) (sym count) fault);
}
