-- What keeps a file from being an image, and where: its fields in order, and which of them are lawful.
use Rattle.std.specs.Prelude.{◌≡◌, ◌≢◌, ◌↔◌, ℕ, ◌+◌, ◌*◌, ◌%◌, ◌<◌, ◌≤◌, List, [], ◌∷◌, ◌++◌, length, take, min, zero, suc}
use Rattle.std.specs.Int.{w64, from_be_bytes}
use Rattle.std.specs.List.{AllByRecursion, between}
use Rattle.ldm_types.specs.declared.limits.TheConstants.{GREATEST_INSTANT, SMALLEST_ARENA, LARGEST_ARENA, ARENA_UNIT, MOST_SLOTS}
use Rattle.ldm_types.specs.Info.{Metadata, metadata_len}
use Rattle.ldm_types.specs.Arena.{Region, AreApart}
use Rattle.ldm_model.specs.Product.{extent_of}
use Rattle.ldm_book.specs.Stored.{StandsAt}

-- a field of a file
pub data Field : Type 0 where
  Magic : Field
  Version : Field
  Gate : Field
  Zeros : Field
  Arena : Field
  Slots : Field
  Admitted : Field
  Last : Field
  Count : Field
  -- of the row with that number, from 0
  RowNumber : (row : ℕ) → Field
  RowTime : (row : ℕ) → Field
  RowPlace : (row : ℕ) → Field
  Bytes : Field
  Surplus : Field

-- the number in the 8 bytes at a place
abbrev pub number_at : ℕ → List ℕ → ℕ
number_at place file = from_be_bytes w64 (between place (place + 8) file)

abbrev pub arena_in : List ℕ → ℕ
arena_in file = number_at 8 file

abbrev pub slots_in : List ℕ → ℕ
slots_in file = number_at 16 file

abbrev pub admitted_in : List ℕ → ℕ
admitted_in file = number_at 24 file

abbrev pub last_in : List ℕ → ℕ
last_in file = number_at 32 file

abbrev pub count_in : List ℕ → ℕ
count_in file = number_at 40 file

-- where a row begins, and the three numbers of one
abbrev pub row_start : ℕ → ℕ
row_start row = 48 + 24 * row

abbrev pub number_in : ℕ → List ℕ → ℕ
number_in row file = number_at (row_start row) file

abbrev pub time_in : ℕ → List ℕ → ℕ
time_in row file = number_at (row_start row + 8) file

abbrev pub place_in : ℕ → List ℕ → ℕ
place_in row file = number_at (row_start row + 16) file

-- where the arena begins, and its bytes
abbrev pub arena_start : List ℕ → ℕ
arena_start file = row_start (count_in file)

abbrev pub arena_bytes : List ℕ → List ℕ
arena_bytes file = between (arena_start file) (arena_start file + arena_in file) file

-- where a field begins
abbrev pub start_of : List ℕ → Field → ℕ
start_of file Magic = 0
start_of file Version = 4
start_of file Gate = 5
start_of file Zeros = 6
start_of file Arena = 8
start_of file Slots = 16
start_of file Admitted = 24
start_of file Last = 32
start_of file Count = 40
start_of file (RowNumber row) = row_start row
start_of file (RowTime row) = row_start row + 8
start_of file (RowPlace row) = row_start row + 16
start_of file Bytes = arena_start file
start_of file Surplus = arena_start file + arena_in file

-- the end does not cut the 8 bytes at a place
abbrev pub HasEight : ℕ → List ℕ → Type 0
HasEight place file = place + 8 ≤ length file

-- where a product lies
abbrev pub region_at : ℕ → Metadata → Region
region_at place info = record { start = place; extent = extent_of info }

-- A product with these metadata lies at a place: it is spelled there, its body ends within the arena, and an earlier
-- row has another region and another signature.
pub record LiesAt (file : List ℕ) (row : ℕ) (info : Metadata) : Type 0 where
  pub spelled : StandsAt (arena_bytes file) (place_in row file) info
  pub within : place_in row file + metadata_len info + info.size ≤ arena_in file
  pub apart : (earlier : ℕ) (other : Metadata) → earlier < row → StandsAt (arena_bytes file) (place_in earlier file) other →
      AreApart (region_at (place_in earlier file) other) (region_at (place_in row file) info) × (other.signature ≢ info.signature)

-- the end of the file does not cut the arena
abbrev pub HasArena : List ℕ → Type 0
HasArena file = arena_start file + arena_in file ≤ length file

-- Whether a field is lawful, where those before it are. Where the end cuts the arena, that is what keeps the file from being an
-- image, and a row is judged by its own three numbers alone.
abbrev pub IsFieldLawful : List ℕ → Field → Type 0
IsFieldLawful file Magic = take 4 file ≡ 76 ∷ 68 ∷ 77 ∷ 81 ∷ []
IsFieldLawful file Version = between 4 5 file ≡ 1 ∷ []
IsFieldLawful file Gate = between 5 6 file ≡ 1 ∷ []
IsFieldLawful file Zeros = between 6 8 file ≡ 0 ∷ 0 ∷ []
IsFieldLawful file Arena =
    HasEight 8 file × (SMALLEST_ARENA ≤ arena_in file) × (arena_in file ≤ LARGEST_ARENA) × (arena_in file % ARENA_UNIT ≡ 0)
IsFieldLawful file Slots = HasEight 16 file × (0 < slots_in file) × (slots_in file ≤ MOST_SLOTS)
IsFieldLawful file Admitted = HasEight 24 file
IsFieldLawful file Last =
    HasEight 32 file × (last_in file ≤ GREATEST_INSTANT + 1) × (admitted_in file ≤ last_in file) × (admitted_in file ≡ 0 ↔ last_in file ≡ 0)
IsFieldLawful file Count = HasEight 40 file × (count_in file ≤ slots_in file)
IsFieldLawful file (RowNumber row) =
    HasEight (row_start row) file
    × (number_in row file < admitted_in file)
    × ((earlier : ℕ) → earlier + 1 ≡ row → number_in earlier file < number_in row file)
IsFieldLawful file (RowTime row) =
    HasEight (row_start row + 8) file
    × (time_in row file < last_in file)
    × ((earlier : ℕ) → earlier + 1 ≡ row → time_in earlier file < time_in row file)
    × (number_in row file + 1 ≡ admitted_in file → time_in row file + 1 ≡ last_in file)
IsFieldLawful file (RowPlace row) =
    HasEight (row_start row + 16) file × (place_in row file % ARENA_UNIT ≡ 0) × (HasArena file → (info : Metadata) × LiesAt file row info)
IsFieldLawful file Bytes = HasArena file
IsFieldLawful file Surplus = length file ≤ arena_start file + arena_in file

-- the fields of this row and those behind it
abbrev pub row_fields : ℕ → ℕ → List Field
row_fields first zero = []
row_fields first (suc count) = RowNumber first ∷ RowTime first ∷ RowPlace first ∷ row_fields (first + 1) count

-- all fields of a file, in order: of rows as many as it says, and not more than it may have
abbrev pub fields : List ℕ → List Field
fields file =
    Magic ∷ Version ∷ Gate ∷ Zeros ∷ Arena ∷ Slots ∷ Admitted ∷ Last ∷ Count ∷ (row_fields 0 (min (count_in file) MOST_SLOTS) ++ Bytes ∷ Surplus ∷ [])

-- A file is no image: the first field that is not lawful begins at that place.
pub record IsFaultyAt (file : List ℕ) (at : ℕ) : Type 0 where
  pub before : List Field
  pub field : Field
  pub behind : List Field
  pub all : fields file ≡ before ++ field ∷ behind
  pub lawful : AllByRecursion (IsFieldLawful file) before
  pub not_lawful : ¬ (IsFieldLawful file field)
  pub at_it : at ≡ start_of file field
