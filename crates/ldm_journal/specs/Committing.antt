-- What committing what was appended to a journal does.
use Rattle.std.specs.Prelude.{◌≡◌, ◌≢◌, ◌⊎◌, ℕ, ◌+◌, ◌-◌, ◌%◌, ◌<◌, ◌≤◌, Bool, true, false, not, List, [], ◌∷◌, ◌++◌, length, drop, slice_index, Result, Ok, Err}
use Rattle.std.specs.List.{AllByRecursion}
use Rattle.ldm_outside.specs.declared.fault.Failed.{Failed}
use Rattle.ldm_outside.specs.Count.{Rose}
use Rattle.ldm_disk.specs.Told.{FileRecord, DiskRecord, IsSettled}
use Rattle.ldm_disk.specs.Model.{written_at}
use Rattle.ldm_disk.specs.Moments.{LeavesOnly}
use Rattle.ldm_journal.specs.declared.places.TheConstants.{SELECT}
use Rattle.ldm_journal.specs.declared.marks.Marks.{Marks}
use Rattle.ldm_journal.specs.declared.fault.JournalFault.{JournalFault}
use Rattle.ldm_journal.specs.declared.fault.JournalFault.TheVariants as fault
use Rattle.ldm_journal.specs.declared.commit.CommitEnd.{CommitEnd}
use Rattle.ldm_journal.specs.declared.commit.CommitEnd.TheVariants.{Committed, NotAJournal, DiskFault}
use Rattle.ldm_journal.specs.Records.{Kept, eight, fitting, records_of, IsLawful, AreRising}
use Rattle.ldm_journal.specs.Format.{Holds, place_of}
use Rattle.ldm_journal.specs.Standing.{Keeps, Stands}
use Rattle.ldm_journal.specs.Pushing.{CrashKeeps}
use Rattle.ldm_journal.specs.Sound.{IsSound}

-- a file keeps the products of one list with one note, or those of another with another
abbrev pub HoldsEither : ℕ → List Kept → List ℕ → List Kept → List ℕ → List ℕ → Type 0
HoldsEither ring kept note left note' file = Holds ring kept note file ⊎ Holds ring left note' file

-- What is kept after a commit that is to leave so many bytes free: all that is committed and appended, but for the
-- fewest at the front that have to go.
abbrev pub kept_after : ℕ → Marks → List Kept → List Kept → List Kept
kept_after gap marks kept appended = fitting (marks.ring - gap) (kept ++ appended)

-- What committing did, by its end, whatever the journal stands for. A crash at any moment of it leaves what was
-- committed before, with the note of then, or what is after, with the note that is given.
abbrev pub Commits : CommitEnd → ℕ → List ℕ → Marks → Marks → FileRecord → FileRecord → Type 0
Commits Committed gap note before after old new =
    (kept appended : List Kept) → Stands before kept appended old →
    let left = kept_after gap before kept appended in
    Stands after left [] new × IsSettled new × LeavesOnly (HoldsEither before.ring kept before.note left note) old new
-- a file for which the journal stands never ends so
Commits NotAJournal gap note before after old new = (kept appended : List Kept) → ¬ (Stands before kept appended old)
Commits DiskFault gap note before after old new =
    (kept appended : List Kept) → Stands before kept appended old →
    LeavesOnly (HoldsEither before.ring kept before.note (kept_after gap before kept appended) note) old new

-- the note that is committed then
abbrev pub NotesCommitting : CommitEnd → List ℕ → Marks → Marks → Type 0
NotesCommitting Committed note before after = after.note ≡ note
NotesCommitting NotAJournal note before after = after.note ≡ before.note
NotesCommitting DiskFault note before after = after.note ≡ before.note

-- it fails only where the disk failed
abbrev pub EndsCommitting : CommitEnd → DiskRecord → DiskRecord → Type 0
EndsCommitting DiskFault old new = Rose old.faults new.faults
EndsCommitting other old new = old.faults ≤ new.faults

-- Nothing is appended any more, and so many bytes of the ring are free.
abbrev pub Frees : CommitEnd → ℕ → Marks → Type 0
Frees Committed gap after = (after.appended ≡ 0) × (after.used + gap ≤ after.ring)
Frees other gap after = Unit {0}

-- how committing ends where the length of a record could not be read
abbrev pub end_of : JournalFault → CommitEnd
end_of fault.DiskFault = DiskFault
end_of why = NotAJournal

-- How many bytes go from the front: what is left fits.
abbrev pub DropsFor : Result ℕ JournalFault → ℕ → Marks → FileRecord → Type 0
DropsFor (Ok dropped) gap marks file =
    (kept appended : List Kept) → Stands marks kept appended file →
    records_of (kept_after gap marks kept appended) ≡ drop dropped (records_of (kept ++ appended))
DropsFor (Err fault.DiskFault) gap marks file = Unit {0}
DropsFor (Err why) gap marks file = (kept appended : List Kept) → ¬ (Stands marks kept appended file)

-- the journal after so many bytes were let go from the front, and with a note
abbrev pub turned : ℕ → List ℕ → Marks → Marks
turned dropped note marks = record {
  ring = marks.ring;
  odd = not marks.odd;
  front = (marks.front + dropped) % marks.ring;
  used = marks.used + marks.appended - dropped;
  appended = 0;
  next = marks.next;
  note = note;
}

-- what is left when so many bytes go from the front
pub record IsLeft (dropped : ℕ) (marks : Marks) (kept appended left : List Kept) : Type 0 where
  pub records : records_of left ≡ drop dropped (records_of (kept ++ appended))
  pub lawful : AllByRecursion IsLawful left
  pub rising : AreRising 0 left marks.next

-- So many bytes were let go from the front, and what is left is committed with a note; or a call failed.
abbrev pub Turns : Result (Unit {0}) Failed → ℕ → List ℕ → Marks → Marks → FileRecord → FileRecord → Type 0
Turns (Ok done) dropped note before after old new =
    (kept appended left : List Kept) → Stands before kept appended old → IsLeft dropped before kept appended left →
    Stands after left [] new × IsSettled new × LeavesOnly (HoldsEither before.ring kept before.note left note) old new
Turns (Err failed) dropped note before after old new =
    (kept appended left : List Kept) → Stands before kept appended old → IsLeft dropped before kept appended left →
    LeavesOnly (HoldsEither before.ring kept before.note left note) old new

-- the bytes of the head of a journal
abbrev pub head_bytes_of : Marks → List ℕ
head_bytes_of marks = eight marks.front ++ eight marks.used ++ eight marks.next ++ marks.note

-- The head of a journal was written, beside the one that counts, and synced; or a call failed.
abbrev pub WritesHead : Result (Unit {0}) Failed → Marks → FileRecord → FileRecord → Type 0
WritesHead (Ok done) next old new =
    (before : Marks) (kept : List Kept) → IsSound before → next.odd ≡ not before.odd → CrashKeeps before kept old →
    LeavesOnly (Keeps before kept) old new × IsSettled new × (new.bytes ≡ written_at (place_of next.odd) (head_bytes_of next) old.bytes)
WritesHead (Err failed) next old new =
    (before : Marks) (kept : List Kept) → IsSound before → next.odd ≡ not before.odd → CrashKeeps before kept old → LeavesOnly (Keeps before kept) old new

-- a file has the bytes of another but for the byte that selects a head
pub record IsSelecting (before after : List ℕ) : Type 0 where
  pub long : length after ≡ length before
  pub same : (place : ℕ) → place < length before → place ≢ SELECT → slice_index after place ≡ slice_index before place

-- the byte that selects a head
abbrev pub select_byte : Bool → ℕ
select_byte false = 0
select_byte true = 1

-- A head was selected, and that was synced; or a call failed.
abbrev pub Selects : Result (Unit {0}) Failed → Bool → FileRecord → FileRecord → Type 0
Selects (Ok done) odd old new =
    IsSettled old → SELECT < length old.bytes →
    LeavesOnly (IsSelecting old.bytes) old new × IsSettled new × (new.bytes ≡ written_at SELECT (select_byte odd ∷ []) old.bytes)
Selects (Err failed) odd old new = IsSettled old → SELECT < length old.bytes → LeavesOnly (IsSelecting old.bytes) old new
