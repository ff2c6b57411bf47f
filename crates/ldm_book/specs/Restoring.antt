-- Which queues can be restored, what they are restored from, and which row keeps others from it.
use Rattle.std.specs.Prelude.{◌≡◌, ◌≢◌, ℕ, ◌+◌, ◌%◌, ◌<◌, ◌≤◌, List, [], ◌∷◌, length, map, replicate, slice_index_or, take, Option, Some, None, IfSome}
use Rattle.std.specs.List.{AllByRecursion}
use Rattle.ldm_types.specs.declared.limits.TheConstants.{GREATEST_INSTANT, SMALLEST_ARENA, LARGEST_ARENA, ARENA_UNIT, MOST_SLOTS}
use Rattle.ldm_types.specs.Info.{Metadata, metadata_len}
use Rattle.ldm_types.specs.Arena.{Region, AreApart}
use Rattle.ldm_model.specs.Product.{extent_of}
use Rattle.ldm_book.specs.declared.restoring.RowNote.{RowNote}
use Rattle.ldm_book.specs.declared.fault.RowFault.{RowFault}
use Rattle.ldm_book.specs.declared.fault.RowFault.TheVariants.{Surplus, Number, Time, Place}
use Rattle.ldm_book.specs.declared.fault.RestoreFault.{RestoreFault}
use Rattle.ldm_book.specs.declared.fault.RestoreFault.TheVariants.{BadArena, BadSlots, BadCount, BadRow, OutOfMemory}
use Rattle.ldm_book.specs.Limits.{IsGoodArena, IsGoodSlots}
use Rattle.ldm_book.specs.Lookup.{kept_with}
use Rattle.ldm_book.specs.Products.{AreRising, LieApart, ProductsView, kept_extent, kept_region, occupied_by, occupied_in}
use Rattle.ldm_book.specs.Sound.{IsTimed}
use Rattle.ldm_book.specs.Stored.{HaveMetadata, StandsAt}
use Rattle.ldm_book.specs.View.{BookView, Kept}

-- a product that was admitted last has the last insertion time
abbrev pub IsNewest : BookView → Kept → Type 0
IsNewest book k = k.number + 1 ≡ book.admitted → book.last ≡ Some k.time

-- each insertion time is before those that stand behind it
abbrev pub TimesAreRising : List Kept → Type 0
TimesAreRising [] = Unit {0}
TimesAreRising (k ∷ rows) = AllByRecursion (λ (other : Kept). k.time < other.time) rows × TimesAreRising rows

-- no two have one signature
abbrev pub SignaturesDiffer : List Kept → Type 0
SignaturesDiffer [] = Unit {0}
SignaturesDiffer (k ∷ rows) = AllByRecursion (λ (other : Kept). other.signature ≢ k.signature) rows × SignaturesDiffer rows

-- A queue can be restored from its arena, its numbers and the places of its products, and nothing of it is open.
pub record IsRestorable (book : BookView) : Type 0 where
  pub arena : (SMALLEST_ARENA ≤ book.arena) × (book.arena ≤ LARGEST_ARENA) × (book.arena % ARENA_UNIT ≡ 0)
  pub filled : length book.bytes ≡ book.arena
  pub slots : (0 < book.slots) × (book.slots ≤ MOST_SLOTS)
  pub last : IfSome book.last (λ last. (last ≤ GREATEST_INSTANT) × (0 < book.admitted))
  pub few : length book.rows ≤ book.slots
  -- numbers and times are below those admitted and not above the last, and rise
  pub timed : IsTimed book.last book.admitted book.rows
  pub rising : AreRising book.rows
  pub times : TimesAreRising book.rows
  pub newest : AllByRecursion (IsNewest book) book.rows
  -- at each place stand metadata and a body behind them, within the arena, and apart from the others
  pub placed : AllByRecursion (λ (k : Kept). k.place % ARENA_UNIT ≡ 0) book.rows
  pub stored : HaveMetadata book.bytes book.rows
  pub apart : LieApart book.arena (occupied_by book.rows [])
  pub differ : SignaturesDiffer book.rows
  -- nothing is open
  pub no_cursor : book.cursors ≡ replicate 64 None
  pub no_reservation : book.reservations ≡ replicate 64 None

-- a book of which nothing is open any more
abbrev pub all_closed : BookView → BookView
all_closed book = record book { cursors = replicate 64 None; reservations = replicate 64 None }

-- what a queue is restored from
pub record Backup : Type 0 where
  -- the arena's bytes
  pub bytes : List ℕ
  pub slots : ℕ
  pub admitted : ℕ
  pub last : Option ℕ
  -- the rows, in the order of their numbers
  pub notes : List RowNote

abbrev pub backup : List ℕ → ℕ → ℕ → Option ℕ → List RowNote → Backup
backup bytes slots admitted last notes = record { bytes = bytes; slots = slots; admitted = admitted; last = last; notes = notes }

-- what is noted of a kept product
abbrev pub note_of : Kept → RowNote
note_of k = record { n = k.number; time = k.time; place = k.place }

-- what a book can be restored from
abbrev pub backup_of : BookView → Backup
backup_of book = backup book.bytes book.slots book.admitted book.last (map note_of book.rows)

-- what rows are restored from, beside what a book has
abbrev pub backup_with : BookView → List RowNote → Backup
backup_with book notes = backup book.bytes book.slots book.admitted book.last notes

-- A book was restored from it: it has these bytes, these numbers and these rows, and of each row the metadata that stand at its
-- place.
pub record IsRestored (from : Backup) (book : BookView) : Type 0 where
  pub is : backup_of book ≡ from
  pub restorable : IsRestorable book

-- the last insertion time and one more, or 0 where there is none: the times of rows are below it
abbrev pub end_of_times : Option ℕ → ℕ
end_of_times None = 0
end_of_times (Some last) = last + 1

-- how many products were admitted, up to a last insertion time
abbrev pub IsGoodCount : Option ℕ → ℕ → Type 0
IsGoodCount None admitted = admitted ≡ 0
IsGoodCount (Some last) admitted = (0 < admitted) × (admitted ≤ last + 1)

-- the row of an index
abbrev pub note_at : List RowNote → ℕ → RowNote
note_at notes i = slice_index_or notes i (record { n = 0; time = 0; place = 0 })

-- its number: below those admitted, and above that of the row before it
abbrev pub IsGoodNumber : Backup → ℕ → Type 0
IsGoodNumber from i =
    ((note_at from.notes i).n < from.admitted)
    × ((before : ℕ) → before + 1 ≡ i → (note_at from.notes before).n < (note_at from.notes i).n)

-- its time: not above the last, and above that of the row before it; the product that was admitted last has the last
abbrev pub IsGoodTime : Backup → ℕ → Type 0
IsGoodTime from i =
    ((note_at from.notes i).time < end_of_times from.last)
    × ((before : ℕ) → before + 1 ≡ i → (note_at from.notes before).time < (note_at from.notes i).time)
    × ((note_at from.notes i).n + 1 ≡ from.admitted → (note_at from.notes i).time + 1 ≡ end_of_times from.last)

-- where a product with these metadata lies
abbrev pub region_at : ℕ → Metadata → Region
region_at place info = record { start = place; extent = extent_of info }

-- The product of a row has these metadata: they stand at its place, its body ends within the arena, and an earlier row has another
-- region and another signature.
pub record LiesAt (from : Backup) (i : ℕ) (info : Metadata) : Type 0 where
  pub spelled : StandsAt from.bytes (note_at from.notes i).place info
  pub within : (note_at from.notes i).place + metadata_len info + info.size ≤ length from.bytes
  pub apart : (earlier : ℕ) (other : Metadata) → earlier < i → StandsAt from.bytes (note_at from.notes earlier).place other →
      AreApart (region_at (note_at from.notes earlier).place other) (region_at (note_at from.notes i).place info) × (other.signature ≢ info.signature)

-- its place
abbrev pub IsGoodPlace : Backup → ℕ → Type 0
IsGoodPlace from i = ((note_at from.notes i).place % ARENA_UNIT ≡ 0) × (info : Metadata) × LiesAt from i info

-- a row, where those before it are good
pub record IsGoodRow (from : Backup) (i : ℕ) : Type 0 where
  pub few : i < from.slots
  pub number : IsGoodNumber from i
  pub time : IsGoodTime from i
  pub place : IsGoodPlace from i

-- the first fault of a row, where those before it are good
abbrev pub IsRowFault : Backup → ℕ → RowFault → Type 0
IsRowFault from i Surplus = from.slots ≤ i
IsRowFault from i Number = (i < from.slots) × ¬ (IsGoodNumber from i)
IsRowFault from i Time = (i < from.slots) × IsGoodNumber from i × ¬ (IsGoodTime from i)
IsRowFault from i Place = (i < from.slots) × IsGoodNumber from i × IsGoodTime from i × ¬ (IsGoodPlace from i)

-- a row is the first that is not good, and why
pub record IsBadRow (from : Backup) (i : ℕ) (fault : RowFault) : Type 0 where
  pub inside : i < length from.notes
  pub before : (earlier : ℕ) → earlier < i → IsGoodRow from earlier
  pub is : IsRowFault from i fault

-- arena, slots and the number of admitted products can be had
pub record HasGoodSizes (from : Backup) : Type 0 where
  pub arena : IsGoodArena (length from.bytes)
  pub slots : IsGoodSlots from.slots
  pub count : IsGoodCount from.last from.admitted

-- each fault of restoring a queue, where it comes
abbrev pub IsRestoreFault : Backup → RestoreFault → Type 0
IsRestoreFault from (BadArena a) = (a ≡ length from.bytes) × ¬ (IsGoodArena (length from.bytes))
IsRestoreFault from (BadSlots n) = (n ≡ from.slots) × IsGoodArena (length from.bytes) × ¬ (IsGoodSlots from.slots)
IsRestoreFault from BadCount = IsGoodArena (length from.bytes) × IsGoodSlots from.slots × ¬ (IsGoodCount from.last from.admitted)
IsRestoreFault from (BadRow i fault) = HasGoodSizes from × IsBadRow from i fault
IsRestoreFault from OutOfMemory = HasGoodSizes from

-- so many of these rows were restored, and no more
pub record IsSoFar (notes : List RowNote) (i : ℕ) (book : BookView) : Type 0 where
  pub are : map note_of book.rows ≡ take i notes
  pub restorable : IsRestorable book

-- A product can be put in at its place: its region is free, and no other has its signature.
pub record IsPlaceable (p : ProductsView) (k : Kept) : Type 0 where
  pub within : k.place + kept_extent k ≤ p.arena
  pub apart : AllByRecursion (λ (other : Region). AreApart other (kept_region k)) (occupied_in p)
  pub absent : kept_with k.signature p.rows ≡ None

-- The metadata of a product stand at a place where it can begin, and its body ends within the arena.
pub record IsWholeAt (bytes : List ℕ) (place : ℕ) (info : Metadata) : Type 0 where
  pub placed : place % ARENA_UNIT ≡ 0
  pub spelled : StandsAt bytes place info
  pub within : place + metadata_len info + info.size ≤ length bytes
