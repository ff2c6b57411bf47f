-- What is done to the journal.
use Rattle.std.specs.Prelude.{◌≡◌, ℕ, ◌+◌, ◌-◌, ◌≤◌, List, [], ◌∷◌, Bool, IfSome, Result, Ok, Err, nat_le}
use Rattle.ldm_disk.specs.Told.{DiskRecord}
use Rattle.ldm_disk.specs.Calls.{FileChanges}
use Rattle.ldm_outside.specs.Count.{Rose}
use Rattle.ldm_journal.specs.declared.marks.Marks.{Marks}
use Rattle.ldm_journal.specs.Records.{Kept}
use Rattle.ldm_journal.specs.Standing.{Stands}
use Rattle.ldm_journal.specs.Appending.{record_len}
use Rattle.ldm_journal.specs.Runs.{Event, Append, Commit, Content}
use Rattle.ldm_journal.specs.Joining.{BreaksOffAmid, MakesEvents}
use Rattle.ldm_recorder.specs.declared.end.RecordEnd.{RecordEnd}
use Rattle.ldm_recorder.specs.declared.end.RecordEnd.TheVariants as end

-- the marks of a journal, and what its disk tells
pub record Kit : Type 0 where
  pub marks : Marks
  pub disk : DiskRecord

abbrev pub kit_of : Marks → DiskRecord → Kit
kit_of marks disk = record { marks = marks; disk = disk }

-- Just these events were made.
pub record Makes (events : Content → List Event) (old new : Kit) : Type 0 where
  pub made : FileChanges (MakesEvents events old.marks new.marks) old.disk.file new.disk.file
  pub ring : new.marks.ring ≡ old.marks.ring
  pub faults : old.disk.faults ≤ new.disk.faults

-- the journal stood for nothing
abbrev pub StoodForNothing : Kit → Type 0
StoodForNothing old = IfSome old.disk.file (λ f. (kept appended : List Kept) → ¬ (Stands old.marks kept appended f))

-- the disk failed, or another wrote into the file
abbrev pub DiskCause : RecordEnd → Kit → Kit → Type 0
DiskCause end.DiskFault old new = Rose old.disk.faults new.disk.faults
DiskCause end.NotAJournal old new = (old.disk.faults ≤ new.disk.faults) × StoodForNothing old
DiskCause _ old new = ⊥

-- It broke off amid these events.
pub record BreaksOff (why : RecordEnd) (events : Content → List Event) (old new : Kit) : Type 0 where
  pub left : FileChanges (BreaksOffAmid events old.marks) old.disk.file new.disk.file
  pub cause : DiskCause why old new

abbrev pub SavesBy : Result (Unit {0}) RecordEnd → (Content → List Event) → Kit → Kit → Type 0
SavesBy (Ok done) events old new = Makes events old new × (new.marks.next ≡ old.marks.next)
SavesBy (Err why) events old new = BreaksOff why events old new

-- A product was appended.
abbrev pub AppendsBy : Result (Unit {0}) RecordEnd → Kept → Kit → Kit → Type 0
AppendsBy (Ok done) k old new = Makes (λ start. Append k ∷ []) old new × (new.marks.next ≡ k.number + 1)
AppendsBy (Err why) k old new = BreaksOff why (λ start. Append k ∷ []) old new

-- The fewest products went from the front that had to, with a commit, and a product was appended.
abbrev pub replacing : ℕ → Kept → Content → List Event
replacing ring k start = Commit (ring - record_len k) start.note ∷ Append k ∷ []

abbrev pub ReplacesBy : Result (Unit {0}) RecordEnd → Kept → Kit → Kit → Type 0
ReplacesBy (Ok done) k old new = Makes (replacing old.marks.ring k) old new × (new.marks.next ≡ k.number + 1)
ReplacesBy (Err why) k old new = BreaksOff why (replacing old.marks.ring k) old new

-- A product was kept, or is larger than the ring.
abbrev pub KeepsBy : Result Bool RecordEnd → Kept → (Content → List Event) → Kit → Kit → Type 0
KeepsBy (Ok kept) k events old new =
    (kept ≡ nat_le (record_len k) old.marks.ring) × Makes events old new × (new.marks.next ≤ k.number + 1)
KeepsBy (Err why) k events old new = BreaksOff why events old new
