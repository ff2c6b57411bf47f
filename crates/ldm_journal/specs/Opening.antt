-- What opening a journal answers.
use Rattle.std.specs.Prelude.{◌≡◌, ◌≢◌, ◌⊎◌, ℕ, ◌+◌, ◌^◌, ◌<◌, Bool, List, [], length, take, Result, Ok, Err}
use Rattle.std.specs.List.{AllByRecursion}
use Rattle.ldm_disk.specs.Told.{FileRecord, IsSettled}
use Rattle.ldm_disk.specs.Moments.{LeavesOnly}
use Rattle.ldm_disk.specs.Calls.{KeepsFile}
use Rattle.ldm_journal.specs.declared.places.TheConstants.{RING}
use Rattle.ldm_journal.specs.declared.journal.Journal.{Journal}
use Rattle.ldm_journal.specs.declared.marks.Marks.{Marks}
use Rattle.ldm_journal.specs.declared.fault.JournalFault.{JournalFault}
use Rattle.ldm_journal.specs.declared.fault.JournalFault.TheVariants.{NotAJournal, OtherRing, OtherLength, BadHead, BadRecord, DiskFault, OutOfMemory}
use Rattle.ldm_journal.specs.Records.{Kept, records_of, IsLawful, AreRising}
use Rattle.ldm_journal.specs.Format.{Holds, opening, selected, place_of, front_at, used_at, next_at, note_at, no_note, around}
use Rattle.ldm_journal.specs.Standing.{Keeps, Stands}
use Rattle.ldm_journal.specs.Making.{LeftOfMaking}

-- A file had a journal, and it stays as it is: what it keeps is what was opened, and so is the note.
pub record IsFound (ring : ℕ) (marks : Marks) (old new : FileRecord) : Type 0 where
  pub kept : List Kept
  pub holds : Holds ring kept marks.note old.bytes
  pub stands : Stands marks kept [] new
  pub stays : KeepsFile old new

-- An empty file was made a journal that keeps nothing, with a note of zeros.
pub record IsMade (ring : ℕ) (marks : Marks) (old new : FileRecord) : Type 0 where
  pub empty : old.bytes ≡ []
  pub stands : Stands marks [] [] new
  pub note : marks.note ≡ no_note
  pub settled : IsSettled new
  pub leaves : LeavesOnly (LeftOfMaking ring) old new

-- A file that is not empty is no journal with that ring, and stays as it is.
pub record IsRefused (ring : ℕ) (old new : FileRecord) : Type 0 where
  pub not_empty : old.bytes ≢ []
  pub none : (kept : List Kept) (note : List ℕ) → ¬ (Holds ring kept note old.bytes)
  pub stays : KeepsFile old new

-- The disk failed while a file was read, or an empty one was made a journal.
pub record IsBrokenOff (ring : ℕ) (old new : FileRecord) : Type 0 where
  pub making : old.bytes ≡ [] → LeavesOnly (LeftOfMaking ring) old new
  pub reading : old.bytes ≢ [] → KeepsFile old new

-- What is answered, by the file, of which nothing was pending.
abbrev pub Opens : Result Marks JournalFault → ℕ → FileRecord → FileRecord → Type 0
Opens (Ok marks) ring old new = (marks.ring ≡ ring) × (IsFound ring marks old new ⊎ IsMade ring marks old new)
Opens (Err DiskFault) ring old new = IsBrokenOff ring old new
Opens (Err OutOfMemory) ring old new = KeepsFile old new
Opens (Err NotAJournal) ring old new = IsRefused ring old new
Opens (Err OtherRing) ring old new = IsRefused ring old new
Opens (Err OtherLength) ring old new = IsRefused ring old new
Opens (Err BadHead) ring old new = IsRefused ring old new
Opens (Err BadRecord) ring old new = IsRefused ring old new

-- the marks of a journal that was opened
abbrev pub marks_of : Result Journal JournalFault → Result Marks JournalFault
marks_of (Ok journal) = Ok journal.marks
marks_of (Err fault) = Err fault

-- What a file is that was read.
abbrev pub JudgesFile : Result Marks JournalFault → ℕ → List ℕ → Type 0
JudgesFile (Ok marks) ring file =
    (marks.ring ≡ ring) × (marks.appended ≡ 0) × ((kept : List Kept) × Keeps marks kept file × AreRising 0 kept marks.next)
JudgesFile (Err DiskFault) ring file = Unit {0}
JudgesFile (Err OutOfMemory) ring file = Unit {0}
JudgesFile (Err fault) ring file = (kept : List Kept) (note : List ℕ) → ¬ (Holds ring kept note file)

-- a fault that is one of the file, and not of the disk or of memory
abbrev pub IsOfFile : JournalFault → Type 0
IsOfFile DiskFault = ⊥
IsOfFile OutOfMemory = ⊥
IsOfFile fault = Unit {0}

-- the marks that the numbers of a head give
pub record HasNumbers (marks : Marks) (size : ℕ) (which : Bool) (bytes : List ℕ) : Type 0 where
  pub ring : marks.ring ≡ size
  pub odd : marks.odd ≡ which
  pub front : marks.front ≡ front_at (place_of which) bytes
  pub used : marks.used ≡ used_at (place_of which) bytes
  pub appended : marks.appended ≡ 0
  pub next : marks.next ≡ next_at (place_of which) bytes
  pub small : marks.next < 2 ^ 64
  pub note : marks.note ≡ note_at (place_of which) bytes

-- the marks are what the head says that counts
pub record HasMarks (marks : Marks) (size : ℕ) (file : List ℕ) : Type 0 where
  pub opened : take 24 file ≡ opening size
  pub long : length file ≡ RING + size
  pub ring : marks.ring ≡ size
  pub odd : selected file ≡ marks.odd
  pub front : front_at (place_of (selected file)) file ≡ marks.front
  pub used : used_at (place_of (selected file)) file ≡ marks.used
  pub next : next_at (place_of (selected file)) file ≡ marks.next
  pub appended : marks.appended ≡ 0
  pub note : note_at (place_of (selected file)) file ≡ marks.note

-- What stands in front of the ring was judged, and the length.
abbrev pub JudgesFront : Result Marks JournalFault → ℕ → List ℕ → Type 0
JudgesFront (Ok marks) ring file = HasMarks marks ring file
JudgesFront (Err fault) ring file = (kept : List Kept) (note : List ℕ) → ¬ (Holds ring kept note file)

-- bytes are the records of products, in order
pub record AreRecords (kept : List Kept) (next : ℕ) (bytes : List ℕ) : Type 0 where
  pub records : bytes ≡ records_of kept
  pub lawful : AllByRecursion IsLawful kept
  pub rising : AreRising 0 kept next

-- The records were read.
abbrev pub JudgesRecords : Result (Unit {0}) JournalFault → Marks → List ℕ → Type 0
JudgesRecords (Ok done) marks file = (kept : List Kept) × AreRecords kept marks.next (around marks.ring marks.front marks.used file)
JudgesRecords (Err DiskFault) marks file = Unit {0}
JudgesRecords (Err OutOfMemory) marks file = Unit {0}
JudgesRecords (Err fault) marks file =
    length file ≡ RING + marks.ring → (kept : List Kept) → ¬ (AreRecords kept marks.next (around marks.ring marks.front marks.used file))
