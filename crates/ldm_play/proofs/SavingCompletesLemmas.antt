-- A command that nothing hinders comes to its end: for `SaveCompletes`, `ResumeCompletes` and `CheckCompletes`.
use Rattle.std.proofs.Common.{◌≡◌, ◌∙◌, ◌⊎◌, inl, inr, ℕ, ◌≤◌, Result, Ok, Err, refl, ap}
use Rattle.ldm_outside.specs.Count.{Rose}
use Rattle.ldm_book.specs.declared.fault.CreateFault.{CreateFault}
use Rattle.ldm_book.specs.declared.fault.CreateFault.TheVariants as create
use Rattle.ldm_image.specs.declared.save.SaveEnd.{SaveEnd}
use Rattle.ldm_image.specs.declared.save.SaveEnd.TheVariants as save
use Rattle.ldm_image.specs.declared.open.ImageFault.{ImageFault}
use Rattle.ldm_status.specs.Status.{code_of, Reports}
use Rattle.ldm_status.specs.Streams.{StreamsRecord}
use Rattle.ldm_status.specs.declared.status.Status.{Status}
use Rattle.ldm_status.specs.declared.status.Status.TheVariants as status
use Rattle.ldm_outside.specs.Io.{SinkRecord}
use Rattle.ldm_script.specs.Resolve.{new_play}
use Rattle.ldm_play.specs.Complete.{Unhindered}
use Rattle.ldm_play.specs.Ending.{Size}
use Rattle.ldm_play.specs.OnBook.{RunsFreely}
use Rattle.ldm_play.specs.declared.save_command.KeptPlay.{KeptPlay}
use Rattle.ldm_play.specs.declared.save_command.KeptPlay.TheVariants.{Stopped, Played}
use Rattle.ldm_play.specs.declared.check_command.CheckFault.{CheckFault}
use Rattle.ldm_play.specs.declared.check_command.CheckFault.TheVariants.{Unopened, SinkFault}
use Rattle.ldm_play.specs.Check.{CheckEnds}
use Rattle.ldm_play.specs.SavingComplete.{SaveCompletes, ResumeCompletes, CheckCompletes}
use Rattle.ldm_play.specs.Outside.{OutsideRecord, CheckRecord}
use Rattle.ldm_play.specs.Resume.{ResumeEnds}
use Rattle.ldm_play.specs.Save.{SaveEnds}
use Rattle.ldm_play.specs.SavingStatuses.{status_of_closed, status_of_save, status_of_resume, status_of_check, status_of_kept}
use Rattle.ldm_play.specs.Steps.{IsPlayedOrLacks, IsCheckedOrLacks, SaveComes, ResumeComes, CheckComes}

-- all went well, or there is no memory
abbrev IsGood : Status → Type 0
IsGood s = (s ≡ status.Done) ⊎ (s ≡ status.NoMemory)

-- the number of such a status, where the log works
reported : (s : Status) (code : ℕ) (old new : SinkRecord) → IsGood s → Reports s code old new → ¬ (Rose old.faults new.faults) → (code ≡ 0) ⊎ (code ≡ 71)
reported s code old new good (inl told) works = elim good [ inl done ↦ inl (told.0 ∙ ap code_of done) | inr lacks ↦ inr (told.0 ∙ ap code_of lacks) ]
reported s code old new good (inr failed) works = absurd (works failed.1)

module _ (size : Size) (old new : OutsideRecord) (free : Unhindered size old.streams new.streams) (works : ¬ (Rose old.disk.faults new.disk.faults)) where
  runs : RunsFreely (new_play size.arena size.slots) old.streams new.streams
  runs = record {
    script = free.script;
    told = free.told;
    short = free.short;
    good_lines = free.good_lines;
    source_works = free.source_works;
    sink_works = free.sink_works;
  }

  save_good : (ending : Result KeptPlay CreateFault) → SaveEnds ending size old new → SaveComes ending size old.streams new.streams → IsGood (status_of_save ending)
  save_good (Ok (Stopped why)) ends comes = absurd (comes runs)
  save_good (Ok (Played save.Saved)) ends comes = inl refl
  save_good (Ok (Played save.DiskFault)) ends comes = absurd (works ends.2.2.0)
  save_good (Ok (Played save.OutOfMemory)) ends comes = inr refl
  save_good (Err (create.BadArena arena)) ends comes = absurd (ends.0.1 free.good_arena)
  save_good (Err (create.BadSlots slots)) ends comes = absurd (ends.0.2 free.good_slots)
  save_good (Err create.OutOfMemory) ends comes = inr refl

pub save_completes : (size : Size) (old new : OutsideRecord) (ending : Result KeptPlay CreateFault) (code : ℕ) → SaveEnds ending size old new → SaveComes ending size old.streams new.streams
    → Reports (status_of_save ending) code old.streams.log new.streams.log → SaveCompletes size code old new
save_completes size old new ending code ends comes reports = λ free works.
    reported (status_of_save ending) code old.streams.log new.streams.log (save_good size old new free works ending ends comes) reports free.log_works

resume_good : (old new : OutsideRecord) (ending : Result KeptPlay ImageFault) → ¬ (Rose old.disk.faults new.disk.faults) → ResumeEnds ending old new → IsPlayedOrLacks ending → IsGood (status_of_resume ending)
resume_good old new (Ok (Stopped why)) works ends comes = absurd comes
resume_good old new (Ok (Played save.Saved)) works ends comes = inl refl
resume_good old new (Ok (Played save.DiskFault)) works ends comes = absurd (works ends.1.1.0)
resume_good old new (Ok (Played save.OutOfMemory)) works ends comes = inr refl
resume_good old new (Err why) works ends comes = inr (ap status_of_closed comes)

pub resume_completes : (old new : OutsideRecord) (ending : Result KeptPlay ImageFault) (code : ℕ) → ResumeEnds ending old new → ResumeComes ending old new
    → Reports (status_of_resume ending) code old.streams.log new.streams.log → ResumeCompletes code old new
resume_completes old new ending code ends comes reports = λ free.
    reported (status_of_resume ending) code old.streams.log new.streams.log
    (resume_good old new ending free.readable.works ends (comes free.book free.state free.readable free.stands free.runs)) reports free.log_works

check_good : (old new : CheckRecord) (ending : Result (Unit {0}) CheckFault) → ¬ (Rose old.sink.faults new.sink.faults) → CheckEnds ending old new → IsCheckedOrLacks ending → IsGood (status_of_check ending)
check_good old new (Ok done) works ends comes = inl refl
check_good old new (Err (Unopened why)) works ends comes = inr (ap status_of_closed comes)
check_good old new (Err SinkFault) works ends comes = absurd (works ends.2)

pub check_completes : (old new : CheckRecord) (ending : Result (Unit {0}) CheckFault) (code : ℕ) → CheckEnds ending old new → CheckComes ending old new
    → Reports (status_of_check ending) code old.log new.log → CheckCompletes code old new
check_completes old new ending code ends comes reports = λ free.
    reported (status_of_check ending) code old.log new.log (check_good old new ending free.sink_works ends (comes free.book free.readable)) reports free.log_works
