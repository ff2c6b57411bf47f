-- What appending a product to a journal does.
use Rattle.std.specs.Prelude.{◌≡◌, ℕ, ◌+◌, ◌<◌, ◌≤◌, List, [], ◌∷◌, ◌++◌, length}
use Rattle.ldm_outside.specs.Count.{Rose}
use Rattle.ldm_types.specs.Info.{metadata_len}
use Rattle.ldm_disk.specs.Told.{FileRecord, DiskRecord}
use Rattle.ldm_disk.specs.Moments.{LeavesOnly}
use Rattle.ldm_journal.specs.declared.marks.Marks.{Marks}
use Rattle.ldm_journal.specs.declared.append.AppendEnd.{AppendEnd}
use Rattle.ldm_journal.specs.declared.append.AppendEnd.TheVariants.{Appended, Full, DiskFault}
use Rattle.ldm_journal.specs.Records.{Kept}
use Rattle.ldm_journal.specs.Format.{Holds}
use Rattle.ldm_journal.specs.Standing.{Stands}

-- how many bytes the record of a product has
abbrev pub record_len : Kept → ℕ
record_len k = 40 + metadata_len k.info + length k.body

-- What appending a product did, by its end, whatever the journal stands for. A crash at any moment of it leaves what is
-- committed, with its note.
abbrev pub Appends : AppendEnd → Kept → Marks → Marks → FileRecord → FileRecord → Type 0
Appends Appended k before after old new =
    (kept appended : List Kept) → Stands before kept appended old → Stands after kept (appended ++ k ∷ []) new × LeavesOnly (Holds before.ring kept before.note) old new
-- nothing was written
Appends Full k before after old new = (new ≡ old) × (after ≡ before)
Appends DiskFault k before after old new =
    (kept appended : List Kept) → Stands before kept appended old → LeavesOnly (Holds before.ring kept before.note) old new

-- Why it ended: it is full exactly where the ring has no room, and fails only where the disk failed.
abbrev pub EndsAppending : AppendEnd → Kept → Marks → DiskRecord → DiskRecord → Type 0
EndsAppending Appended k marks old new =
    (marks.used + marks.appended + record_len k ≤ marks.ring) × (old.faults ≤ new.faults)
EndsAppending Full k marks old new = marks.ring < marks.used + marks.appended + record_len k
EndsAppending DiskFault k marks old new =
    (marks.used + marks.appended + record_len k ≤ marks.ring) × Rose old.faults new.faults

-- Which number the next product may have.
abbrev pub NumbersAppending : AppendEnd → ℕ → Marks → Marks → Type 0
NumbersAppending Appended number before after = after.next ≡ number + 1
NumbersAppending Full number before after = after.next ≡ before.next
NumbersAppending DiskFault number before after = Unit {0}
