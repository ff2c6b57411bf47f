-- What a recorder did: its calls on the queue, the events of the journal, and the lines of the log.
use Rattle.std.specs.Prelude.{◌≡◌, ℕ, ◌-◌, ◌^◌, ◌≤◌, List, [], ◌∷◌, ◌++◌, length, Option, Some, None, IfSome, Result, Ok, Err}
use Rattle.ldm_disk.specs.Told.{DiskRecord}
use Rattle.ldm_disk.specs.Calls.{FileChanges}
use Rattle.ldm_outside.specs.Count.{Rose}
use Rattle.ldm_outside.specs.Io.{SinkRecord, Takes}
use Rattle.ldm_model.specs.declared.event.Entry.{Entry}
use Rattle.ldm_shared.specs.declared.steps.TheConstants.{MOST_TURNS}
use Rattle.ldm_shared.specs.Passes.{PassView, Calls}
use Rattle.ldm_journal.specs.declared.marks.Marks.{Marks}
use Rattle.ldm_journal.specs.Records.{Kept}
use Rattle.ldm_journal.specs.Standing.{Stands}
use Rattle.ldm_journal.specs.Joining.{MakesEvents, BreaksOffAmid}
use Rattle.ldm_recorder.specs.declared.end.RecordEnd.{RecordEnd}
use Rattle.ldm_recorder.specs.declared.end.RecordEnd.TheVariants as end
use Rattle.ldm_recorder.specs.declared.recorder.Recorder.{Recorder}
use Rattle.ldm_recorder.specs.Turns.{Turn, CaughtUp, Given, Lost, Saved, Who, Work, AreNumbered, AreTold, work_of}

-- The pass, the journal's marks with the disk, and the log.
pub record Sight : Type 0 where
  pub pass : PassView
  pub marks : Marks
  pub disk : DiskRecord
  pub log : SinkRecord

abbrev pub sight_at : PassView → Marks → DiskRecord → SinkRecord → Sight
sight_at pass marks disk log = record { pass = pass; marks = marks; disk = disk; log = log }

abbrev pub sight_of : PassView → Recorder → DiskRecord → SinkRecord → Sight
sight_of pass recorder disk log = sight_at pass recorder.journal.marks disk log

abbrev pub who_of : PassView → Recorder → Who
who_of pass recorder = record {
  actor = pass.actor;
  k = recorder.reader.k;
  base = recorder.base;
  ring = recorder.journal.marks.ring;
  lines = recorder.lines.items;
}

-- All of some work was done, and nothing else.
pub record DoesAll (work : Work) (old new : Sight) : Type 0 where
  pub calls : Calls old.pass new.pass work.entries
  pub events : FileChanges (MakesEvents work.events old.marks new.marks) old.disk.file new.disk.file
  pub lines : Takes old.log work.lines new.log
  pub ring : new.marks.ring ≡ old.marks.ring
  pub disk_faults : old.disk.faults ≤ new.disk.faults
  pub log_faults : old.log.faults ≤ new.log.faults

-- the number of the product in hand is past those that a journal has
abbrev pub IsPastNumbers : List Turn → Type 0
IsPastNumbers (Given n product ∷ []) = 2 ^ 64 - 1 ≤ product.number
IsPastNumbers _ = ⊥

-- Why work broke off that was for these turns. Want of memory may come at any time.
abbrev pub CauseOf : RecordEnd → List Turn → Sight → Sight → Type 0
CauseOf (end.Stopped at) turns old new = ⊥
CauseOf end.DiskFault turns old new = Rose old.disk.faults new.disk.faults
CauseOf end.NotAJournal turns old new = IfSome old.disk.file (λ f. (kept appended : List Kept) → ¬ (Stands old.marks kept appended f))
CauseOf end.LogFault turns old new = Rose old.log.faults new.log.faults
CauseOf end.Worn turns old new = length new.pass.seen ≡ MOST_TURNS
CauseOf end.NoNumbers turns old new = IsPastNumbers turns
CauseOf end.OutOfMemory turns old new = Unit {0}

-- Work broke off: of its calls and of its lines a front was made, and a crash at any moment leaves what its events may
-- leave.
pub record DoesPart (work : Work) (old new : Sight) : Type 0 where
  pub called : List Entry
  pub not_called : List Entry
  pub calls_are : called ++ not_called ≡ work.entries
  pub calls : Calls old.pass new.pass called
  pub events : FileChanges (BreaksOffAmid work.events old.marks) old.disk.file new.disk.file
  pub written : List ℕ
  pub not_written : List ℕ
  pub lines_are : written ++ not_written ≡ work.lines
  pub lines : Takes old.log written new.log
  pub disk_faults : old.disk.faults ≤ new.disk.faults
  pub log_faults : old.log.faults ≤ new.log.faults

-- Just these turns were done, and each is whole.
pub record Does (who : Who) (turns : List Turn) (old new : Sight) : Type 0 where
  pub numbered : AreNumbered who.base turns
  pub told : AreTold new.pass.seen who turns
  pub all : DoesAll (work_of who turns) old new

-- A turn broke off; or it was none.
pub record Stops (why : RecordEnd) (who : Who) (old new : Sight) : Type 0 where
  pub in_hand : List Turn
  pub one : length in_hand ≤ 1
  pub numbered : AreNumbered who.base in_hand
  pub told : AreTold new.pass.seen who in_hand
  pub part : DoesPart (work_of who in_hand) old new
  pub cause : CauseOf why in_hand old new

-- what a turn came to: where nothing was left, how many products the queue had admitted
abbrev pub IsAtEnd : Option ℕ → Turn → Type 0
IsAtEnd at_end (CaughtUp at lasts) = at_end ≡ Some at
IsAtEnd at_end _ = at_end ≡ None

-- Where nothing was left, and so many bytes had been appended since the last commit: only where there were none is no line
-- told of.
abbrev pub TellsWhereDue : ℕ → Turn → Type 0
TellsWhereDue appended (CaughtUp at None) = appended ≡ 0
TellsWhereDue appended (CaughtUp at (Some lasts)) = Unit {0}
TellsWhereDue appended (Lost count first last) = Unit {0}
TellsWhereDue appended (Given n product) = Unit {0}
TellsWhereDue appended Saved = Unit {0}

abbrev pub TurnsBy : Result (Option ℕ) RecordEnd → Who → Sight → Sight → Type 0
TurnsBy (Ok at_end) who old new =
    (turn : Turn) × IsAtEnd at_end turn × TellsWhereDue old.marks.appended turn × Does who (turn ∷ []) old new
TurnsBy (Err why) who old new = Stops why who old new

-- what holds where nothing was left, of how many products the queue had admitted
abbrev pub IfAtEnd : Result (Option ℕ) RecordEnd → (ℕ → Type 0) → Type 0
IfAtEnd (Ok (Some at)) P = P at
IfAtEnd _ P = Unit {0}
