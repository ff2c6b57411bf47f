-- What a journal that is open stands for.
use Rattle.std.specs.Prelude.{◌≡◌, ℕ, ◌+◌, true, List, ◌++◌}
use Rattle.std.specs.List.{AllByRecursion}
use Rattle.ldm_disk.specs.Told.{FileRecord}
use Rattle.ldm_journal.specs.declared.marks.Marks.{Marks}
use Rattle.ldm_journal.specs.Records.{Kept, records_of, IsLawful, AreRising}
use Rattle.ldm_journal.specs.Format.{Holds, selected, place_of, front_at, used_at, around}

-- A file keeps these products, and the note of an open journal, by the head that the journal has.
pub record Keeps (marks : Marks) (kept : List Kept) (file : List ℕ) : Type 0 where
  pub holds : Holds marks.ring kept marks.note file
  pub odd : selected file ≡ marks.odd
  pub front : front_at (place_of (selected file)) file ≡ marks.front
  pub used : used_at (place_of (selected file)) file ≡ marks.used

-- An open journal stands for products that are committed, whatever a crash leaves, and for products that were appended
-- since, whose records the file has as it reads.
pub record Stands (marks : Marks) (kept appended : List Kept) (file : FileRecord) : Type 0 where
  pub crash : (left : List ℕ) → file.may_leave left ≡ true → Keeps marks kept left
  pub behind : around marks.ring (marks.front + marks.used) marks.appended file.bytes ≡ records_of appended
  pub lawful : AllByRecursion IsLawful appended
  pub rising : AreRising 0 (kept ++ appended) marks.next
