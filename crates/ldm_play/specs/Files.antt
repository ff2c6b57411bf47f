-- What becomes of the file of a queue, and what a crash at any moment leaves of it.
use Rattle.std.specs.Prelude.{◌≡◌, ◌⊎◌, ℕ, true, List, slice_index}
use Rattle.ldm_outside.specs.Count.{Rose}
use Rattle.ldm_disk.specs.Calls.{FileChanges}
use Rattle.ldm_disk.specs.Told.{FileRecord, DiskRecord, IsSettled}
use Rattle.ldm_disk.specs.Moments.{LeavesOnly, Passes}
use Rattle.ldm_model.specs.State.{State}
use Rattle.ldm_book.specs.View.{BookView}
use Rattle.ldm_book.specs.Stands.{StandsFor}
use Rattle.ldm_book.specs.Restoring.{all_closed}
use Rattle.ldm_image.specs.Fault.{IsFaultyAt}
use Rattle.ldm_image.specs.Image.{image, GATE, IsImage}
use Rattle.ldm_image.specs.Opening.{IsOther}
use Rattle.ldm_image.specs.Saving.{IsUnclean, MayBeLeft}
use Rattle.ldm_image.specs.declared.save.SaveEnd.{SaveEnd}
use Rattle.ldm_image.specs.declared.save.SaveEnd.TheVariants as save
use Rattle.ldm_image.specs.declared.open.ImageFault.{ImageFault}
use Rattle.ldm_image.specs.declared.open.ImageFault.TheVariants as fault

-- the file was attached and read alone: a crash at any moment leaves what it might leave before
abbrev pub OnlyReads : FileRecord → FileRecord → Type 0
OnlyReads old new = LeavesOnly (Passes old.may_leave) old new

-- a file is the image of that queue, and of no other
pub record IsImageOf (file : List ℕ) (opened : BookView) : Type 0 where
  pub is_image : IsImage file opened
  pub only : (book : BookView) → IsImage file book → opened ≡ book

-- The file was attached and opened: it is the image of that queue, and nothing of it is pending.
pub record IsOpenedAs (opened : BookView) (old new : FileRecord) : Type 0 where
  pub reads : OnlyReads old new
  pub settled : IsSettled new
  pub image : IsImageOf new.bytes opened

-- why a file was not opened, by its bytes
abbrev pub IsClosedBy : ImageFault → List ℕ → Type 0
IsClosedBy (fault.Unclean gate) file = IsUnclean file × (slice_index file GATE ≡ gate)
IsClosedBy (fault.BadImage at) file = ¬ (IsUnclean file) × IsFaultyAt file at × IsOther file
IsClosedBy fault.DiskFault file = Unit {0}
IsClosedBy fault.OutOfMemory file = Unit {0}

-- The file was attached and read, if it could be, and not opened.
pub record IsNotOpened (why : ImageFault) (old new : FileRecord) : Type 0 where
  pub reads : OnlyReads old new
  pub closed : IsClosedBy why new.bytes

-- a fault of the disk comes only where its count rose
abbrev pub HasOpenCause : ImageFault → DiskRecord → DiskRecord → Type 0
HasOpenCause fault.DiskFault old new = Rose old.faults new.faults
HasOpenCause _ old new = Unit {0}

-- the file of a disk was not opened
abbrev pub LeavesClosed : ImageFault → DiskRecord → DiskRecord → Type 0
LeavesClosed why old new = HasOpenCause why old new × FileChanges (IsNotOpened why) old.file new.file

-- what a crash may leave while a queue is saved over a file, which was so when it was attached: what it might leave before; or what
-- saving leaves
abbrev pub LeftMeanwhile : BookView → List ℕ → FileRecord → List ℕ → Type 0
LeftMeanwhile book before old left = (old.may_leave left ≡ true) ⊎ MayBeLeft book before left

-- A queue was saved over a file, which was so when it was attached, or this was given up.
pub record SavesOver (book : BookView) (before : List ℕ) (old new : FileRecord) : Type 0 where
  pub was : old.may_leave before ≡ true
  pub leaves : LeavesOnly (LeftMeanwhile book before old) old new

-- what a queue in a state is saved as is the image of it, with nothing open
abbrev pub IsSavedClosed : BookView → List ℕ → Type 0
IsSavedClosed book file = (s : State) → StandsFor book s → IsImage file (all_closed book)

-- the file is the image of a queue, with nothing open, and a crash leaves just that
pub record IsKept (book : BookView) (file : FileRecord) : Type 0 where
  pub bytes : file.bytes ≡ image book
  pub closed : IsSavedClosed book file.bytes
  pub settled : IsSettled file

-- what saving made of the file, by how it ended
abbrev pub Becomes : SaveEnd → BookView → FileRecord → Type 0
Becomes save.Saved book new = IsKept book new
Becomes _ book new = Unit {0}

-- a fault of the disk comes only where its count rose
abbrev pub HasSaveCause : SaveEnd → DiskRecord → DiskRecord → Type 0
HasSaveCause save.DiskFault old new = Rose old.faults new.faults
HasSaveCause _ old new = Unit {0}

-- a queue was saved over a file that was attached
abbrev pub SavesFile : SaveEnd → BookView → FileRecord → FileRecord → Type 0
SavesFile end book old new = (before : List ℕ) × SavesOver book before old new × Becomes end book new

abbrev pub Saves : SaveEnd → BookView → DiskRecord → DiskRecord → Type 0
Saves end book old new = HasSaveCause end old new × FileChanges (SavesFile end book) old.file new.file

-- a queue was saved over the image from which it was opened
abbrev pub SavesAgainFile : SaveEnd → BookView → BookView → FileRecord → FileRecord → Type 0
SavesAgainFile end opened book old new =
    (before : List ℕ) × IsImageOf before opened × SavesOver book before old new × Becomes end book new

abbrev pub SavesAgain : SaveEnd → BookView → BookView → DiskRecord → DiskRecord → Type 0
SavesAgain end opened book old new = HasSaveCause end old new × FileChanges (SavesAgainFile end opened book) old.file new.file
