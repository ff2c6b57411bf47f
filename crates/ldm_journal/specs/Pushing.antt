-- Writing bytes behind what was appended.
use Rattle.std.specs.Prelude.{◌≡◌, ℕ, ◌+◌, ◌%◌, true, List, ◌++◌, length, Result, Ok, Err}
use Rattle.ldm_outside.specs.declared.fault.Failed.{Failed}
use Rattle.ldm_disk.specs.Told.{FileRecord}
use Rattle.ldm_disk.specs.Moments.{LeavesOnly}
use Rattle.ldm_journal.specs.declared.marks.Marks.{Marks}
use Rattle.ldm_journal.specs.Records.{Kept}
use Rattle.ldm_journal.specs.Format.{around}
use Rattle.ldm_journal.specs.Standing.{Keeps}

-- whatever a crash now leaves keeps these products
abbrev pub CrashKeeps : Marks → List Kept → FileRecord → Type 0
CrashKeeps marks kept file = (left : List ℕ) → file.may_leave left ≡ true → Keeps marks kept left

-- the bytes that were appended, and so many more
abbrev pub behind_in : Marks → ℕ → List ℕ → List ℕ
behind_in marks more file = around marks.ring (marks.front + marks.used) (marks.appended + more) file

-- where in the ring the next byte goes
abbrev pub place_behind : Marks → ℕ
place_behind marks = (marks.front + marks.used + marks.appended) % marks.ring

-- so many bytes more were appended
abbrev pub grown : ℕ → Marks → Marks
grown count marks = record marks { appended = marks.appended + count }

-- a piece stands behind what was appended
abbrev pub StandsBehind : Marks → List ℕ → List ℕ → List ℕ → Type 0
StandsBehind marks piece before after = behind_in marks (length piece) after ≡ behind_in marks 0 before ++ piece

-- A piece was written behind what was appended, and a crash leaves what is committed; or a call failed.
abbrev pub Pushes : Result (Unit {0}) Failed → Marks → List ℕ → FileRecord → FileRecord → Type 0
Pushes (Ok done) marks piece old new =
    (kept : List Kept) → CrashKeeps marks kept old →
    CrashKeeps marks kept new × LeavesOnly (Keeps marks kept) old new × StandsBehind marks piece old.bytes new.bytes
Pushes (Err failed) marks piece old new =
    (kept : List Kept) → CrashKeeps marks kept old → LeavesOnly (Keeps marks kept) old new
