-- What the log is told where the journal failed.
use Rattle.std.proofs.Common.{◌≡◌, ℕ, [], refl, arith, subst, sym}
use Rattle.std.specs.Prelude.{List, Ok}
use Rattle.ldm_outside.specs.Io.{SinkRecord}
use Rattle.ldm_outside.proofs.CallerLemmas.{Takes-nothing}
use Rattle.ldm_recorder.specs.declared.end.RecordEnd.{RecordEnd}
use Rattle.ldm_recorder.specs.declared.end.RecordEnd.TheVariants as end
use Rattle.ldm_recorder.specs.Failing.{SaysLine, TellsFault, fault_line}

-- another end is not told
quiet : (why : RecordEnd) → (why ≡ end.DiskFault → ⊥) → (why ≡ end.NotAJournal → ⊥) → fault_line why ≡ []
quiet end.DiskFault disk file = absurd (disk refl)
quiet end.NotAJournal disk file = absurd (file refl)
quiet (end.Stopped n) disk file = refl
quiet end.LogFault disk file = refl
quiet end.Worn disk file = refl
quiet end.NoNumbers disk file = refl
quiet end.OutOfMemory disk file = refl

pub not_told : (why : RecordEnd) (log : SinkRecord) → (why ≡ end.DiskFault → ⊥) → (why ≡ end.NotAJournal → ⊥) → TellsFault why log log
not_told why log disk file =
    subst (λ (line : List ℕ). SaysLine line log log) (sym (quiet why disk file)) (record { ended = Ok tt; writes = Takes-nothing log log refl; faults = omega arith })
