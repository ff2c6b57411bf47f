-- The rows of a file, judged by their own three numbers.
use Rattle.std.specs.Prelude.{◌≡◌, ◌⊎◌, ℕ, ◌+◌, ◌*◌, ◌%◌, ◌<◌, ◌≤◌, List, length, Option, Some, None, Result, Ok, Err}
use Rattle.std.specs.List.{between}
use Rattle.ldm_types.specs.declared.limits.TheConstants.{ARENA_UNIT}
use Rattle.ldm_book.specs.declared.restoring.RowNote.{RowNote}
use Rattle.ldm_book.specs.Restoring.{note_at}
use Rattle.ldm_image.specs.declared.sizes.Sizes.{Sizes}
use Rattle.ldm_image.specs.Fault.{HasEight, RowNumber, RowTime, IsFieldLawful, row_start, number_in, time_in, place_in, count_in}
use Rattle.ldm_image.specs.Sizes.{HasSizes}

-- the place of a row can be one, whatever stands there
abbrev pub IsPlaceLawful : List ℕ → ℕ → Type 0
IsPlaceLawful file row = HasEight (row_start row + 16) file × (place_in row file % ARENA_UNIT ≡ 0)

-- the three numbers of a row are lawful
pub record IsRowLawful (file : List ℕ) (row : ℕ) : Type 0 where
  pub number : IsFieldLawful file (RowNumber row)
  pub time : IsFieldLawful file (RowTime row)
  pub place : IsPlaceLawful file row

-- The first number of a row that is not lawful begins at a place.
pub data RowFaultAt (file : List ℕ) (row at : ℕ) : Type 0 where
  BadNumber : ¬ (IsFieldLawful file (RowNumber row)) → at ≡ row_start row → RowFaultAt file row at
  BadTime : IsFieldLawful file (RowNumber row) → ¬ (IsFieldLawful file (RowTime row)) → at ≡ row_start row + 8 → RowFaultAt file row at
  BadPlace : IsFieldLawful file (RowNumber row) → IsFieldLawful file (RowTime row) → ¬ (IsPlaceLawful file row) → at ≡ row_start row + 16 → RowFaultAt file row at

-- The bytes of the rows of a file were read: all of them, or those up to its end.
pub record HoldsTable (table : List ℕ) (sizes : Sizes) (file : List ℕ) : Type 0 where
  pub sized : HasSizes sizes file
  pub is : table ≡ between 48 (48 + length table) file
  pub within : 48 + length table ≤ length file
  pub all : (length table ≡ 24 * count_in file) ⊎ (length file ≡ 48 + length table)

-- number and time of a row are from these on: they are above those of the row before it
pub record AreFrom (number time row : ℕ) (file : List ℕ) : Type 0 where
  pub first : row ≡ 0 → (number ≡ 0) × (time ≡ 0)
  pub next : (before : ℕ) → before + 1 ≡ row → (number ≡ number_in before file + 1) × (time ≡ time_in before file + 1)

-- the three numbers of a row
pub record IsRowAt (file : List ℕ) (row : ℕ) (note : RowNote) : Type 0 where
  pub number : note.n ≡ number_in row file
  pub time : note.time ≡ time_in row file
  pub place : note.place ≡ place_in row file

-- What a row of a file is.
abbrev pub JudgesRow : Result RowNote ℕ → ℕ → List ℕ → Type 0
JudgesRow (Ok note) row file = IsRowLawful file row × IsRowAt file row note
JudgesRow (Err at) row file = RowFaultAt file row at

-- where the rows end: all of them are lawful, or the next one is not
abbrev pub EndsRows : Option ℕ → ℕ → List ℕ → Type 0
EndsRows None count file = count ≡ count_in file
EndsRows (Some at) count file = (count < count_in file) × RowFaultAt file count at

-- The rows of a file up to the first that is not lawful.
pub record AreRows (notes : List RowNote) (fault : Option ℕ) (file : List ℕ) : Type 0 where
  pub lawful : (row : ℕ) → row < length notes → IsRowLawful file row × IsRowAt file row (note_at notes row)
  pub few : length notes ≤ count_in file
  pub ends : EndsRows fault (length notes) file
