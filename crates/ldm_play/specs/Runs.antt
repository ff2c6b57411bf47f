-- How each of these commands ends: with the number and the log line of what stands then.
use Rattle.std.specs.Prelude.{ℕ, Result}
use Rattle.ldm_book.specs.declared.fault.CreateFault.{CreateFault}
use Rattle.ldm_image.specs.declared.open.ImageFault.{ImageFault}
use Rattle.ldm_status.specs.Status.{Reports}
use Rattle.ldm_play.specs.Ending.{Size}
use Rattle.ldm_play.specs.declared.save_command.KeptPlay.{KeptPlay}
use Rattle.ldm_play.specs.declared.check_command.CheckFault.{CheckFault}
use Rattle.ldm_play.specs.Check.{CheckEnds}
use Rattle.ldm_play.specs.Outside.{OutsideRecord, CheckRecord}
use Rattle.ldm_play.specs.Resume.{ResumeEnds}
use Rattle.ldm_play.specs.Save.{SaveEnds}
use Rattle.ldm_play.specs.SavingStatuses.{status_of_save, status_of_resume, status_of_check}

-- A script was played on a new queue of that size, and this was saved, as far as it went.
abbrev pub SaveRuns : Size → ℕ → OutsideRecord → OutsideRecord → Type 0
SaveRuns size code old new =
    (ending : Result KeptPlay CreateFault) × SaveEnds ending size old new × Reports (status_of_save ending) code old.streams.log new.streams.log

-- A script was played on the queue of a file, and this was saved again, as far as it went.
abbrev pub ResumeRuns : ℕ → OutsideRecord → OutsideRecord → Type 0
ResumeRuns code old new =
    (ending : Result KeptPlay ImageFault) × ResumeEnds ending old new × Reports (status_of_resume ending) code old.streams.log new.streams.log

-- The numbers of the queue of a file were written, as far as it went.
abbrev pub CheckRuns : ℕ → CheckRecord → CheckRecord → Type 0
CheckRuns code old new =
    (ending : Result (Unit {0}) CheckFault) × CheckEnds ending old new × Reports (status_of_check ending) code old.log new.log
