-- What the log is told where the journal failed.
use Rattle.std.specs.Prelude.{◌≤◌, ℕ, List, [], ◌∷◌, ◌++◌, codes, Result}
use Rattle.ldm_outside.specs.declared.io.SinkFailed.{SinkFailed}
use Rattle.ldm_outside.specs.Io.{SinkRecord, WritesAll}
use Rattle.ldm_recorder.specs.declared.end.RecordEnd.{RecordEnd}
use Rattle.ldm_recorder.specs.declared.end.RecordEnd.TheVariants as end

-- a line where the disk failed, or another wrote into the file, and none at another end
abbrev pub fault_line : RecordEnd → List ℕ
fault_line end.DiskFault = codes "journal fault" ++ 10 ∷ []
fault_line end.NotAJournal = codes "journal changed" ++ 10 ∷ []
fault_line _ = []

-- the log took a line, or failed behind a front of it
pub record SaysLine (line : List ℕ) (old new : SinkRecord) : Type 0 where
  pub ended : Result (Unit {0}) SinkFailed
  pub writes : WritesAll ended line old new
  pub faults : old.faults ≤ new.faults

abbrev pub TellsFault : RecordEnd → SinkRecord → SinkRecord → Type 0
TellsFault why old new = SaysLine (fault_line why) old new
