-- What saving the image of a queue does to a file, at each of its moments.
use Rattle.std.specs.Prelude.{◌≡◌, ◌≢◌, ℕ, ◌<◌, ◌≤◌, true, List, length, slice_index, IfSome}
use Rattle.ldm_outside.specs.Count.{Rose}
use Rattle.ldm_disk.specs.Told.{FileRecord, DiskRecord, IsSettled}
use Rattle.ldm_disk.specs.Moments.{LeavesOnly}
use Rattle.ldm_book.specs.View.{BookView}
use Rattle.ldm_image.specs.declared.save.SaveEnd.{SaveEnd}
use Rattle.ldm_image.specs.declared.save.SaveEnd.TheVariants.{Saved, DiskFault, OutOfMemory}
use Rattle.ldm_image.specs.Image.{image, GATE, IsImage}

-- a file that is not clean: it has a gate, and this is not 1
pub record IsUnclean (file : List ℕ) : Type 0 where
  pub long : GATE < length file
  pub gate : slice_index file GATE ≢ 1

-- a file that is neither the image of a queue nor unclean
pub record IsNoImage (file : List ℕ) : Type 0 where
  pub not_unclean : ¬ (IsUnclean file)
  pub not_image : (book : BookView) → ¬ (IsImage file book)

-- What a crash may leave while the image of a queue is saved over a file.
pub data MayBeLeft (book : BookView) (before left : List ℕ) : Type 0 where
  -- the file as it was
  Before : left ≡ before → MayBeLeft book before left
  -- the image
  After : left ≡ image book → MayBeLeft book before left
  -- a file that is not clean
  Unclean : IsUnclean left → MayBeLeft book before left
  -- no image, where the file was none
  NoImage : IsNoImage before → IsNoImage left → MayBeLeft book before left

-- a file is attached, and nothing of it is pending
pub record IsReady (disk : DiskRecord) : Type 0 where
  pub attached : disk.attached ≡ true
  pub settled : IfSome disk.file IsSettled

-- What saving did to the file, by its end.
abbrev pub SavesFile : SaveEnd → BookView → FileRecord → FileRecord → Type 0
-- it is the image, and nothing is pending
SavesFile Saved book old new = LeavesOnly (MayBeLeft book old.bytes) old new × IsSettled new × (new.bytes ≡ image book)
SavesFile DiskFault book old new = LeavesOnly (MayBeLeft book old.bytes) old new
-- nothing was done
SavesFile OutOfMemory book old new = new ≡ old

-- Why saving ended: it fails only where the disk failed, and without memory it does not touch the disk.
abbrev pub EndsSaving : SaveEnd → DiskRecord → DiskRecord → Type 0
EndsSaving Saved old new = old.faults ≤ new.faults
EndsSaving DiskFault old new = Rose old.faults new.faults
EndsSaving OutOfMemory old new = new ≡ old
