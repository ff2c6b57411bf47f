-- When these commands come to their end.
use Rattle.std.specs.Prelude.{◌≡◌, ◌⊎◌, ℕ, [], Some}
use Rattle.ldm_outside.specs.Count.{Rose}
use Rattle.ldm_disk.specs.Told.{FileRecord, DiskRecord, IsSettled}
use Rattle.ldm_model.specs.State.{State}
use Rattle.ldm_book.specs.View.{BookView}
use Rattle.ldm_book.specs.Stands.{StandsFor}
use Rattle.ldm_image.specs.Image.{IsImage}
use Rattle.ldm_play.specs.Complete.{Unhindered}
use Rattle.ldm_play.specs.Ending.{Size}
use Rattle.ldm_play.specs.OnBook.{RunsFreely, play_from}
use Rattle.ldm_play.specs.Outside.{OutsideRecord, CheckRecord}

-- the disk tells a file of which nothing is pending, and which is the image of that queue; and it did not fail
pub record IsReadable (book : BookView) (old new : DiskRecord) : Type 0 where
  pub file : FileRecord
  pub told : old.file ≡ Some file
  pub settled : IsSettled file
  pub is_image : IsImage file.bytes book
  pub works : ¬ (Rose old.faults new.faults)

-- a `save` that nothing hinders ends with 0, or with 71 for want of memory
abbrev pub SaveCompletes : Size → ℕ → OutsideRecord → OutsideRecord → Type 0
SaveCompletes size code old new =
    Unhindered size old.streams new.streams → ¬ (Rose old.disk.faults new.disk.faults) → (code ≡ 0) ⊎ (code ≡ 71)

-- Nothing hinders a `resume`: the file is an image, and its queue stands for a state on which the script runs freely.
pub record ResumesFreely (old new : OutsideRecord) : Type 0 where
  pub book : BookView
  pub readable : IsReadable book old.disk new.disk
  pub state : State
  pub stands : StandsFor book state
  pub runs : RunsFreely (play_from state []) old.streams new.streams
  pub log_works : ¬ (Rose old.streams.log.faults new.streams.log.faults)

-- such a one ends with 0, or with 71 for want of memory
abbrev pub ResumeCompletes : ℕ → OutsideRecord → OutsideRecord → Type 0
ResumeCompletes code old new = ResumesFreely old new → (code ≡ 0) ⊎ (code ≡ 71)

-- Nothing hinders a `pqcheck`: the file is an image, and neither sink nor log failed.
pub record ChecksFreely (old new : CheckRecord) : Type 0 where
  pub book : BookView
  pub readable : IsReadable book old.disk new.disk
  pub sink_works : ¬ (Rose old.sink.faults new.sink.faults)
  pub log_works : ¬ (Rose old.log.faults new.log.faults)

abbrev pub CheckCompletes : ℕ → CheckRecord → CheckRecord → Type 0
CheckCompletes code old new = ChecksFreely old new → (code ≡ 0) ⊎ (code ≡ 71)
