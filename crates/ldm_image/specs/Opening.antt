-- What opening the image of a queue answers.
use Rattle.std.specs.Prelude.{◌≡◌, ℕ, List, slice_index, Result, Ok, Err}
use Rattle.ldm_outside.specs.Count.{Rose}
use Rattle.ldm_disk.specs.Calls.{FileChanges, KeepsFile}
use Rattle.ldm_disk.specs.Told.{DiskRecord}
use Rattle.ldm_book.specs.View.{BookView}
use Rattle.ldm_image.specs.Image.{IsImage, GATE}
use Rattle.ldm_image.specs.Fault.{IsFaultyAt}
use Rattle.ldm_image.specs.Saving.{IsUnclean}
use Rattle.ldm_image.specs.declared.open.ImageFault.{ImageFault}
use Rattle.ldm_image.specs.declared.open.ImageFault.TheVariants.{Unclean, BadImage, DiskFault, OutOfMemory}

-- a file is the image of no queue
abbrev pub IsOther : List ℕ → Type 0
IsOther file = (book : BookView) → ¬ (IsImage file book)

-- What is answered, by the file.
abbrev pub OpensFile : Result BookView ImageFault → List ℕ → Type 0
-- the queue whose image it is, and of no other
OpensFile (Ok opened) file = IsImage file opened × ((book : BookView) → IsImage file book → opened ≡ book)
OpensFile (Err (Unclean gate)) file = IsUnclean file × (slice_index file GATE ≡ gate) × IsOther file
OpensFile (Err (BadImage at)) file = ¬ (IsUnclean file) × IsFaultyAt file at × IsOther file
OpensFile (Err DiskFault) file = Unit {0}
OpensFile (Err OutOfMemory) file = ¬ (IsUnclean file)

-- the disk failed only where its count of faults rose
abbrev pub OpenCause : Result BookView ImageFault → DiskRecord → DiskRecord → Type 0
OpenCause (Err DiskFault) old new = Rose old.faults new.faults
OpenCause result old new = Unit {0}

-- the file stays as it is, and so does what a crash may leave of it
abbrev pub OpensImage : Result BookView ImageFault → DiskRecord → DiskRecord → Type 0
OpensImage result old new =
    OpenCause result old new × FileChanges (λ before after. OpensFile result before.bytes × KeepsFile before after) old.file new.file
