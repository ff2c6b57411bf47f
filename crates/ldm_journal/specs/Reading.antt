-- Reading the ring, and the records in it.
use Rattle.std.specs.Prelude.{◌≡◌, ℕ, ◌+◌, ◌<◌, ◌≤◌, List, ◌++◌, length, take, drop, slice_get, Option, Some, None, Result, Ok, Err}
use Rattle.std.specs.List.{between}
use Rattle.ldm_outside.specs.Count.{Rose}
use Rattle.ldm_disk.specs.Told.{FileRecord, DiskRecord}
use Rattle.ldm_journal.specs.declared.marks.Marks.{Marks}
use Rattle.ldm_journal.specs.declared.entry.Entry.{Entry}
use Rattle.ldm_journal.specs.declared.reader.Reader.{Reader}
use Rattle.ldm_journal.specs.declared.fault.JournalFault.{JournalFault}
use Rattle.ldm_journal.specs.declared.fault.JournalFault.TheVariants.{NotAJournal, DiskFault, OutOfMemory}
use Rattle.ldm_journal.specs.declared.places.TheConstants.{RING}
use Rattle.ldm_journal.specs.Records.{Kept, counted, record_bytes, size_of, IsLawful}
use Rattle.ldm_journal.specs.Format.{around}
use Rattle.ldm_journal.specs.Standing.{Stands}

-- the product of an entry, whose body is in these bytes
abbrev pub kept_of : Entry → List ℕ → Kept
kept_of entry bytes = record {
  number = entry.number;
  time = entry.time;
  info = entry.info;
  body = between entry.body_at (entry.body_at + entry.info.size) bytes;
}

-- Bytes are the record of a product, or of none.
abbrev pub JudgesRecord : Option Entry → List ℕ → Type 0
JudgesRecord (Some entry) bytes = IsLawful (kept_of entry bytes) × (bytes ≡ record_bytes (kept_of entry bytes))
JudgesRecord None bytes = (k : Kept) → IsLawful k → ¬ (bytes ≡ record_bytes k)

-- The product of bytes, if they are the record of one. Their sum may be any.
abbrev pub TellsRecord : Option Entry → List ℕ → Type 0
TellsRecord (Some entry) bytes = (k : Kept) → IsLawful k → bytes ≡ record_bytes k → k ≡ kept_of entry bytes
TellsRecord None bytes = (k : Kept) → IsLawful k → ¬ (bytes ≡ record_bytes k)

-- Bytes are the record of a product but for its sum, or of none.
abbrev pub JudgesCounted : Option Entry → List ℕ → Type 0
JudgesCounted (Some entry) bytes =
    IsLawful (kept_of entry bytes) × (bytes ≡ counted (kept_of entry bytes)) × (entry.body_at + entry.info.size ≤ length bytes)
JudgesCounted None bytes = (k : Kept) → IsLawful k → ¬ (bytes ≡ counted k)

-- What stands at a place was read whole. No other fault comes of a file that has it than one of the disk.
abbrev pub Fills : Result (Unit {0}) JournalFault → ℕ → List ℕ → List ℕ → Type 0
Fills (Ok done) at into file = into ≡ between at (at + length into) file
Fills (Err NotAJournal) at into file = length file < at + length into
Fills (Err DiskFault) at into file = Unit {0}
Fills (Err fault) at into file = ⊥

-- So many bytes of the ring were read, of a file that has a ring of that size.
abbrev pub FillsAround : Result (Unit {0}) JournalFault → ℕ → ℕ → List ℕ → List ℕ → Type 0
FillsAround (Ok done) ring from into file = into ≡ around ring from (length into) file
FillsAround (Err DiskFault) ring from into file = Unit {0}
FillsAround (Err fault) ring from into file = ¬ (length file ≡ RING + ring)

-- How many bytes the record has at the front of some bytes of the ring.
abbrev pub CountsRecord : Result ℕ JournalFault → ℕ → ℕ → ℕ → List ℕ → Type 0
CountsRecord (Ok len) ring from left file =
    (k : Kept) (rest : List ℕ) → IsLawful k → around ring from left file ≡ record_bytes k ++ rest → len ≡ length (record_bytes k)
CountsRecord (Err DiskFault) ring from left file = Unit {0}
CountsRecord (Err fault) ring from left file =
    length file ≡ RING + ring → (k : Kept) (rest : List ℕ) → IsLawful k → ¬ (around ring from left file ≡ record_bytes k ++ rest)

-- why no record was read at the front of some bytes of the ring
abbrev pub HasNoRecord : JournalFault → ℕ → ℕ → ℕ → List ℕ → Type 0
HasNoRecord DiskFault ring from left file = Unit {0}
HasNoRecord OutOfMemory ring from left file = Unit {0}
HasNoRecord fault ring from left file =
    length file ≡ RING + ring → (k : Kept) (rest : List ℕ) → IsLawful k → ¬ (around ring from left file ≡ record_bytes k ++ rest)

-- As many bytes as the record has were read into a buffer.
abbrev pub Fetches : Result (Unit {0}) JournalFault → ℕ → ℕ → ℕ → List ℕ → List ℕ → Type 0
Fetches (Ok done) ring from left buffer file =
    (length buffer ≤ left) × (buffer ≡ around ring from (length buffer) file) × CountsRecord (Ok (length buffer)) ring from left file
Fetches (Err fault) ring from left buffer file = HasNoRecord fault ring from left file

-- The record was read into a buffer, and its product told. The sum may be any.
abbrev pub TakesRecord : Result Entry JournalFault → ℕ → ℕ → ℕ → List ℕ → List ℕ → Type 0
TakesRecord (Ok entry) ring from left buffer file =
    (length buffer ≤ left) × ((k : Kept) (rest : List ℕ) → IsLawful k → around ring from left file ≡ record_bytes k ++ rest
    → (length buffer ≡ length (record_bytes k)) × (k ≡ kept_of entry buffer))
TakesRecord (Err fault) ring from left buffer file = HasNoRecord fault ring from left file

-- The record was read into a buffer, and its sum holds.
abbrev pub ReadsRecord : Result Entry JournalFault → ℕ → ℕ → ℕ → List ℕ → List ℕ → Type 0
ReadsRecord (Ok entry) ring from left buffer file =
    (length buffer ≤ left) × (around ring from (length buffer) file ≡ buffer) × (buffer ≡ record_bytes (kept_of entry buffer)) × IsLawful (kept_of entry buffer)
ReadsRecord (Err fault) ring from left buffer file = HasNoRecord fault ring from left file

-- the disk failed only where its count of faults rose
abbrev pub FaultRose : JournalFault → DiskRecord → DiskRecord → Type 0
FaultRose DiskFault old new = Rose old.faults new.faults
FaultRose fault old new = Unit {0}

-- a reader stands in front of a product: so many are before it
pub record IsBefore (i : ℕ) (kept : List Kept) (marks : Marks) (reader : Reader) : Type 0 where
  pub within : i ≤ length kept
  pub ring : reader.ring ≡ marks.ring
  pub at : reader.at ≡ marks.front + size_of (take i kept)
  pub left : reader.left ≡ size_of (drop i kept)

-- What a reader gave, which stood in front of a product.
abbrev pub ReadsNext : Result (Option Entry) JournalFault → ℕ → List Kept → Marks → Reader → List ℕ → Type 0
ReadsNext (Ok None) i kept marks reader buffer = i ≡ length kept
ReadsNext (Ok (Some entry)) i kept marks reader buffer =
    (slice_get kept i ≡ Some (kept_of entry buffer)) × IsBefore (i + 1) kept marks reader
ReadsNext (Err DiskFault) i kept marks reader buffer = Unit {0}
ReadsNext (Err OutOfMemory) i kept marks reader buffer = Unit {0}
ReadsNext (Err fault) i kept marks reader buffer = ⊥

-- So it is for whatever an open journal stands for.
abbrev pub Reads : Result (Option Entry) JournalFault → Reader → Reader → List ℕ → FileRecord → Type 0
Reads result before after buffer file =
    (marks : Marks) (kept appended : List Kept) (i : ℕ) → Stands marks kept appended file → IsBefore i kept marks before →
    ReadsNext result i kept marks after buffer

-- the body of the product that was given lies within the buffer
abbrev pub HasBody : Result (Option Entry) JournalFault → List ℕ → Type 0
HasBody (Ok (Some entry)) buffer = entry.body_at + entry.info.size ≤ length buffer
HasBody other buffer = Unit {0}

-- less is left for a reader that gave a product
abbrev pub IsShorter : Result (Option Entry) JournalFault → Reader → Reader → Type 0
IsShorter (Ok (Some entry)) before after = after.left < before.left
IsShorter other before after = Unit {0}
