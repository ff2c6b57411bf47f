-- Reading and writing the gate of a file, and what a crash leaves meanwhile.
use Rattle.std.specs.Prelude.{◌≡◌, ◌≢◌, ◌⊎◌, ℕ, ◌+◌, ◌<◌, ◌≤◌, List, [], ◌∷◌, length, slice_index, Option, Some, None, Result, Ok, Err}
use Rattle.ldm_outside.specs.declared.fault.Failed.{Failed}
use Rattle.ldm_disk.specs.Told.{FileRecord, IsSettled}
use Rattle.ldm_disk.specs.Model.{written_at}
use Rattle.ldm_disk.specs.Moments.{LeavesOnly}
use Rattle.ldm_book.specs.View.{BookView}
use Rattle.ldm_image.specs.Image.{GATE, image, image_with}
use Rattle.ldm_image.specs.Saving.{IsUnclean, IsNoImage, MayBeLeft}

-- a file that ends before its gate has none
abbrev pub HasGate : Option ℕ → List ℕ → Type 0
HasGate None file = length file ≤ GATE
HasGate (Some gate) file = (GATE < length file) × (slice_index file GATE ≡ gate)

-- Between two files the gate may be any byte. One that ended before it may have any bytes up to it and with it.
pub record IsTorn (before after : List ℕ) : Type 0 where
  pub stays : (place : ℕ) → place < length before → place < length after → place ≢ GATE → slice_index after place ≡ slice_index before place
  pub long : (length after ≡ length before) ⊎ ((length before ≤ GATE) × (length after ≤ GATE + 1))

-- The gate was written and synced; or a call failed.
abbrev pub WritesGate : Result (Unit {0}) Failed → ℕ → FileRecord → FileRecord → Type 0
WritesGate (Ok done) gate old new =
    LeavesOnly (IsTorn old.bytes) old new × IsSettled new × (new.bytes ≡ written_at GATE (gate ∷ []) old.bytes)
WritesGate (Err failed) gate old new = LeavesOnly (IsTorn old.bytes) old new

-- What a crash may leave while a file is made unclean.
pub data LeftOfShutting (before left : List ℕ) : Type 0 where
  Before : left ≡ before → LeftOfShutting before left
  Unclean : IsUnclean left → LeftOfShutting before left
  NoImage : IsNoImage before → IsNoImage left → LeftOfShutting before left

-- The file is not clean from then on; or a call failed.
abbrev pub Shuts : Result (Unit {0}) Failed → FileRecord → FileRecord → Type 0
Shuts (Ok done) old new = LeavesOnly (LeftOfShutting old.bytes) old new × IsSettled new × IsUnclean new.bytes
Shuts (Err failed) old new = LeavesOnly (LeftOfShutting old.bytes) old new

-- a file is the image of a queue but for its gate, which is not 1
pub record IsUncleanImage (book : BookView) (file : List ℕ) : Type 0 where
  pub gate : ℕ
  pub other : gate ≢ 1
  pub is : file ≡ image_with gate book

-- The file has the image, but for its gate; or a call failed.
abbrev pub WritesUnclean : Result (Unit {0}) Failed → BookView → FileRecord → FileRecord → Type 0
WritesUnclean (Ok done) book old new =
    LeavesOnly (LeftOfShutting old.bytes) old new × IsSettled new × IsUncleanImage book new.bytes
WritesUnclean (Err failed) book old new = LeavesOnly (LeftOfShutting old.bytes) old new

-- The image was written and synced; or a call failed.
abbrev pub WritesImage : Result (Unit {0}) Failed → BookView → FileRecord → FileRecord → Type 0
WritesImage (Ok done) book old new = LeavesOnly (MayBeLeft book old.bytes) old new × IsSettled new × (new.bytes ≡ image book)
WritesImage (Err failed) book old new = LeavesOnly (MayBeLeft book old.bytes) old new
