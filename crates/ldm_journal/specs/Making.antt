-- Making a journal in an empty file, and what a crash leaves meanwhile.
use Rattle.std.specs.Prelude.{◌≡◌, ◌≢◌, ◌⊎◌, ℕ, ◌+◌, ◌≤◌, false, List, [], ◌++◌, length, Result, Ok, Err}
use Rattle.ldm_outside.specs.declared.fault.Failed.{Failed}
use Rattle.ldm_disk.specs.Told.{FileRecord, IsSettled}
use Rattle.ldm_disk.specs.Moments.{LeavesOnly}
use Rattle.ldm_journal.specs.declared.places.TheConstants.{RING}
use Rattle.ldm_journal.specs.declared.marks.Marks.{Marks}
use Rattle.ldm_journal.specs.Format.{no_note, opening, zeros}
use Rattle.ldm_journal.specs.Standing.{Keeps}

-- the marks of a journal that keeps nothing and was just made
abbrev pub first_marks : ℕ → Marks
first_marks ring = record { ring = ring; odd = false; front = 0; used = 0; appended = 0; next = 0; note = no_note }

-- what stands in front of its ring
abbrev pub first_front : ℕ → List ℕ
first_front ring = opening ring ++ zeros 12264

-- What a crash may leave while a journal is made in an empty file: one that has another length than a journal with that
-- ring, or a journal that keeps nothing.
abbrev pub LeftOfMaking : ℕ → List ℕ → Type 0
LeftOfMaking ring left = (length left ≢ RING + ring) ⊎ Keeps (first_marks ring) [] left

-- What stands in front of the ring was written into an empty file; or a call failed.
abbrev pub Lays : Result (Unit {0}) Failed → ℕ → FileRecord → FileRecord → Type 0
Lays (Ok done) ring old new =
    old.bytes ≡ [] → IsSettled old → LeavesOnly (λ left. length left ≤ RING) old new × IsSettled new × (new.bytes ≡ first_front ring)
Lays (Err failed) ring old new = old.bytes ≡ [] → IsSettled old → LeavesOnly (λ left. length left ≤ RING) old new

-- The ring was put behind it; or a call failed.
abbrev pub Widens : Result (Unit {0}) Failed → ℕ → FileRecord → FileRecord → Type 0
Widens (Ok done) ring old new =
    old.bytes ≡ first_front ring → IsSettled old → LeavesOnly (LeftOfMaking ring) old new × IsSettled new × Keeps (first_marks ring) [] new.bytes
Widens (Err failed) ring old new = old.bytes ≡ first_front ring → IsSettled old → LeavesOnly (LeftOfMaking ring) old new

-- An empty file was made a journal that keeps nothing; or a call failed.
abbrev pub Makes : Result (Unit {0}) Failed → ℕ → FileRecord → FileRecord → Type 0
Makes (Ok done) ring old new =
    old.bytes ≡ [] → IsSettled old → LeavesOnly (LeftOfMaking ring) old new × IsSettled new × Keeps (first_marks ring) [] new.bytes
Makes (Err failed) ring old new = old.bytes ≡ [] → IsSettled old → LeavesOnly (LeftOfMaking ring) old new
