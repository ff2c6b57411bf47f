-- The queue of a file of which all was read.
use Rattle.std.specs.Prelude.{◌≡◌, ℕ, ◌+◌, ◌<◌, List, length, slice_index, Option, Result, Ok, Err}
use Rattle.ldm_types.specs.Info.{Metadata}
use Rattle.ldm_book.specs.View.{BookView}
use Rattle.ldm_book.specs.Restoring.{Backup, IsRestorable, IsRestored, backup, backup_of}
use Rattle.ldm_book.specs.declared.restoring.RowNote.{RowNote}
use Rattle.ldm_image.specs.declared.open.ImageFault.{ImageFault}
use Rattle.ldm_image.specs.declared.open.ImageFault.TheVariants.{Unclean, BadImage, DiskFault, OutOfMemory}
use Rattle.ldm_image.specs.declared.sizes.Sizes.{Sizes}
use Rattle.ldm_image.specs.Fault.{HasArena, LiesAt, arena_bytes, arena_in, arena_start, row_start}
use Rattle.ldm_image.specs.Rows.{AreRows}
use Rattle.ldm_image.specs.Sizes.{HasSizes}

-- All of a file was read: its numbers, its rows up to the first whose own numbers are not lawful, and its arena.
pub record HoldsAll (sizes : Sizes) (notes : List RowNote) (fault : Option ℕ) (arena : List ℕ) (file : List ℕ) : Type 0 where
  pub sized : HasSizes sizes file
  pub rows : AreRows notes fault file
  pub whole : HasArena file
  pub bytes : arena ≡ arena_bytes file

-- what the queue of a file is restored from
abbrev pub backup_in : Sizes → List RowNote → List ℕ → Backup
backup_in sizes notes file = backup (arena_bytes file) sizes.slots sizes.admitted sizes.last notes

-- a product of the row lies in the arena
abbrev pub Lies : List ℕ → ℕ → Type 0
Lies file row = (info : Metadata) × LiesAt file row info

-- The place of a row is the first that is not lawful, and no queue has these rows and this arena.
pub record IsBadPlace (sizes : Sizes) (notes : List RowNote) (file : List ℕ) (at row : ℕ) : Type 0 where
  pub within : row < length notes
  pub before : (earlier : ℕ) → earlier < row → Lies file earlier
  pub not : ¬ (Lies file row)
  pub at_it : at ≡ row_start row + 16
  pub other : (book : BookView) → IsRestorable book → ¬ (backup_of book ≡ backup_in sizes notes file)

-- The queue of the rows was restored.
pub record RestoresQueue (sizes : Sizes) (notes : List RowNote) (file : List ℕ) (made : BookView) : Type 0 where
  pub restored : IsRestored (backup_in sizes notes file) made
  pub only : (book : BookView) → IsRestorable book → backup_of book ≡ backup_in sizes notes file → made ≡ book
  pub lie : (row : ℕ) → row < length notes → Lies file row

-- What restoring the queue of the rows comes to.
abbrev pub RestoresRows : Result BookView ImageFault → Sizes → List RowNote → List ℕ → Type 0
RestoresRows (Ok made) sizes notes file = RestoresQueue sizes notes file made
RestoresRows (Err (BadImage at)) sizes notes file = (row : ℕ) × IsBadPlace sizes notes file at row
RestoresRows (Err (Unclean gate)) sizes notes file = ⊥
RestoresRows (Err DiskFault) sizes notes file = ⊥
RestoresRows (Err OutOfMemory) sizes notes file = Unit {0}

-- a file that has what it says and no more has bytes alone
abbrev pub AreBytesIfWhole : List ℕ → Type 0
AreBytesIfWhole file = length file ≡ arena_start file + arena_in file → (i : ℕ) → slice_index file i < 256
