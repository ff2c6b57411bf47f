-- Reading what an open journal keeps, a product at a time.
use Rattle.std.proofs.Common.{◌≡◌, ℕ, zero, suc, ◌+◌, ◌-◌, ◌<◌, ◌≤◌, List, [], ◌∷◌, ◌++◌, length, take, drop, refl, sym, ◌∙◌, ap, arith}
use Rattle.std.specs.Prelude.{Option, Some, None, IfSome, Ok, Err, slice_get}
use Rattle.std.specs.List.{AllByRecursion}
use Rattle.std.proofs.lemmas.List.{append-nil, length-append, length-drop, drop_at, take-append-drop}
use Rattle.ldm_disk.specs.Told.{FileRecord, IsConsistent}
use Rattle.ldm_journal.specs.declared.places.TheConstants.{RING}
use Rattle.ldm_journal.specs.declared.marks.Marks.{Marks}
use Rattle.ldm_journal.specs.declared.entry.Entry.{Entry}
use Rattle.ldm_journal.specs.declared.reader.Reader.{Reader}
use Rattle.ldm_journal.specs.declared.fault.JournalFault.{JournalFault}
use Rattle.ldm_journal.specs.declared.fault.JournalFault.TheVariants.{NotAJournal, OtherRing, OtherLength, BadHead, BadRecord, DiskFault, OutOfMemory}
use Rattle.ldm_journal.specs.Records.{Kept, record_bytes, records_of, size_of, IsLawful}
use Rattle.ldm_journal.specs.Format.{around, front_at, place_of}
use Rattle.ldm_journal.specs.Standing.{Stands}
use Rattle.ldm_journal.specs.Reading.{HasNoRecord, IsBefore, Reads, TakesRecord, kept_of}
use Rattle.ldm_journal.proofs.Around.{drop-around, length-around}
use Rattle.ldm_journal.proofs.KeepLemmas.{KeepsBy, by_marks}
use Rattle.ldm_journal.proofs.RecordLemmas.{records-append, size-append}
use Rattle.ldm_journal.proofs.ReadLemmas.{least_record}

lawful_drop : (i : ℕ) (kept : List Kept) → AllByRecursion IsLawful kept → AllByRecursion IsLawful (drop i kept)
lawful_drop zero kept lawful = lawful
lawful_drop (suc i) [] lawful = tt
lawful_drop (suc i) (k ∷ kept) lawful = lawful_drop i kept lawful.1

-- the first of what is left is the element there
pub first_left : (i : ℕ) (kept rest : List Kept) (k : Kept) → drop i kept ≡ k ∷ rest
    → (slice_get kept i ≡ Some k) × (take (suc i) kept ≡ take i kept ++ k ∷ []) × (drop (suc i) kept ≡ rest) × (suc i ≤ length kept)
first_left zero [] rest k is = cc is
first_left zero (x ∷ kept) rest k is = let one : x ≡ k = cc is in let more : kept ≡ rest = cc is in (cc one, cc one, more, omega arith)
first_left (suc i) [] rest k is = cc is
first_left (suc i) (x ∷ kept) rest k is =
    let next = first_left i kept rest k is in
    (next.0, ap (λ (l : List Kept). x ∷ l) next.1, next.2, omega (arith, next.3))

none_left : (i : ℕ) (kept : List Kept) → i ≤ length kept → drop i kept ≡ [] → i ≡ length kept
none_left i kept within is = (let none : length kept - i ≡ 0 = sym (length-drop i kept) ∙ ap length is in omega (arith, none, within))

module _ (marks : Marks) (kept appended : List Kept) (i : ℕ) (file : FileRecord) (consistent : IsConsistent file) (stands : Stands marks kept appended file)
    (before : Reader) (is_before : IsBefore i kept marks before) where
  keeps : KeepsBy marks kept file.bytes
  keeps = by_marks marks kept file.bytes (stands.crash file.bytes consistent.reads)

  pub file_long : length file.bytes ≡ RING + marks.ring
  file_long = keeps.holds.long

  window : around marks.ring marks.front marks.used file.bytes ≡ records_of kept
  window =
      ap (λ (n : ℕ). around marks.ring n marks.used file.bytes) (sym keeps.front)
      ∙ ap (λ (n : ℕ). around marks.ring (front_at (place_of marks.odd) file.bytes) n file.bytes) (sym keeps.used)
      ∙ keeps.holds.records

  total : size_of (take i kept) + size_of (drop i kept) ≡ marks.used
  total =
      sym (size-append (take i kept) (drop i kept)) ∙ ap (λ (l : List Kept). size_of l) (take-append-drop i kept) ∙ ap length (sym window)
      ∙ length-around marks.ring marks.front marks.used file.bytes

  pub left_window : around before.ring before.at before.left file.bytes ≡ records_of (drop i kept)
  left_window =
      let n = size_of (take i kept) in
      let rest : marks.used - n ≡ before.left = omega (arith, total, is_before.left) in
      let split : records_of kept ≡ records_of (take i kept) ++ records_of (drop i kept) =
      ap (λ (l : List Kept). records_of l) (sym (take-append-drop i kept)) ∙ records-append (take i kept) (drop i kept) in
      ap (λ (r : ℕ). around r before.at before.left file.bytes) is_before.ring
      ∙ ap (λ (a : ℕ). around marks.ring a before.left file.bytes) is_before.at
      ∙ ap (λ (c : ℕ). around marks.ring (marks.front + n) c file.bytes) (sym rest)
      ∙ sym (drop-around marks.ring marks.front marks.used n file.bytes (omega (arith, total)))
      ∙ ap (λ (l : List ℕ). drop n l) (window ∙ split)
      ∙ drop_at (records_of (take i kept)) (records_of (drop i kept)) n refl

  lawful_left : AllByRecursion IsLawful (drop i kept)
  lawful_left = lawful_drop i kept keeps.holds.lawful

  nothing : (rest : List Kept) → drop i kept ≡ rest → AllByRecursion IsLawful rest → before.left ≡ 0 → i ≡ length kept
  nothing [] is lawful none = none_left i kept is_before.within is
  nothing (k ∷ rest) is lawful none =
      let size : size_of (k ∷ rest) ≡ 0 = ap (λ (l : List Kept). size_of l) (sym is) ∙ sym is_before.left ∙ none in
      absurd (omega (arith, size, length-append (record_bytes k) (records_of rest), least_record k lawful.0))

  pub at_end : before.left ≡ 0 → i ≡ length kept
  at_end none = nothing (drop i kept) refl lawful_left none

  -- a record was read
  given : (left : List Kept) → left ≡ drop i kept → AllByRecursion IsLawful left → (entry : Entry) (buffer : List ℕ) (after : Reader) → 0 < before.left
      → after.ring ≡ before.ring → after.at ≡ before.at + length buffer → after.left ≡ before.left - length buffer
      → TakesRecord (Ok entry) before.ring before.at before.left buffer file.bytes → (slice_get kept i ≡ Some (kept_of entry buffer)) × IsBefore (i + 1) kept marks after
  given [] is lawful entry buffer after some ring at left takes =
      let size : 0 ≡ before.left = ap (λ (l : List Kept). size_of l) is ∙ sym is_before.left in
      absurd (omega (arith, size, some))
  given (m ∷ more) is lawful entry buffer after some ring at left takes =
      let n = length buffer in
      let one = takes.1 m (records_of more) lawful.0 (left_window ∙ ap (λ (l : List Kept). records_of l) (sym is)) in
      let count : length (record_bytes m) ≡ n = sym one.0 in
      let len_m : length (records_of (m ∷ more)) ≡ before.left = ap (λ (l : List Kept). size_of l) is ∙ sym is_before.left in
      let first = first_left i kept more m (sym is) in
      let next : i + 1 ≡ suc i = omega arith in
      let taken : size_of (take (i + 1) kept) ≡ size_of (take i kept) + n =
      ap (λ (j : ℕ). size_of (take j kept)) next ∙ ap (λ (l : List Kept). size_of l) first.1 ∙ size-append (take i kept) (m ∷ [])
      ∙ omega (arith, ap length (append-nil (record_bytes m)), count) in
      let dropped : size_of (drop (i + 1) kept) ≡ before.left - n =
      ap (λ (j : ℕ). size_of (drop j kept)) next ∙ ap (λ (l : List Kept). size_of l) first.2
      ∙ omega (arith, len_m, length-append (record_bytes m) (records_of more), count) in (
        first.0 ∙ ap (λ (j : Kept). Some j) one.1,
        record {
          within = omega (arith, first.3);
          ring = ring ∙ is_before.ring;
          at = at ∙ omega (arith, is_before.at, taken);
          left = left ∙ sym dropped;
        },
      )

  pub goes_on : (entry : Entry) (buffer : List ℕ) (after : Reader) → 0 < before.left → after.ring ≡ before.ring → after.at ≡ before.at + length buffer
      → after.left ≡ before.left - length buffer → TakesRecord (Ok entry) before.ring before.at before.left buffer file.bytes
      → (slice_get kept i ≡ Some (kept_of entry buffer)) × IsBefore (i + 1) kept marks after
  goes_on entry buffer after some ring at left takes = given (drop i kept) refl lawful_left entry buffer after some ring at left takes

  there : (left : List Kept) → left ≡ drop i kept → AllByRecursion IsLawful left → 0 < before.left
      → ((k : Kept) (rest : List ℕ) → IsLawful k → ¬ (around before.ring before.at before.left file.bytes ≡ record_bytes k ++ rest)) → ⊥
  there [] is lawful some none = (let size : 0 ≡ before.left = ap (λ (l : List Kept). size_of l) is ∙ sym is_before.left in omega (arith, size, some))
  there (k ∷ more) is lawful some none = none k (records_of more) lawful.0 (left_window ∙ ap (λ (l : List Kept). records_of l) (sym is))

  pub never : 0 < before.left
      → (length file.bytes ≡ RING + before.ring → (k : Kept) (rest : List ℕ) → IsLawful k → ¬ (around before.ring before.at before.left file.bytes ≡ record_bytes k ++ rest)) → ⊥
  never some none = there (drop i kept) refl lawful_left some (none (file_long ∙ ap (λ (n : ℕ). RING + n) (sym is_before.ring)))

-- as clauses say it
pub ended_reading : (before : Reader) (buffer : List ℕ) (file : Option FileRecord) → IfSome file IsConsistent → before.left ≡ 0
    → IfSome file (Reads (Ok None) before before buffer)
ended_reading before buffer None consistent none = tt
ended_reading before buffer (Some file) consistent none = λ marks kept appended i stands is_before.
    at_end marks kept appended i file consistent stands before is_before none

pub gave : (entry : Entry) (before after : Reader) (buffer : List ℕ) (file : Option FileRecord) → IfSome file IsConsistent → 0 < before.left
    → after.ring ≡ before.ring → after.at ≡ before.at + length buffer → after.left ≡ before.left - length buffer
    → IfSome file (λ f. TakesRecord (Ok entry) before.ring before.at before.left buffer f.bytes) → IfSome file (Reads (Ok (Some entry)) before after buffer)
gave entry before after buffer None consistent some ring at left reads = tt
gave entry before after buffer (Some file) consistent some ring at left reads = λ marks kept appended i stands is_before.
    goes_on marks kept appended i file consistent stands before is_before entry buffer after some ring at left reads

fault_here : (fault : JournalFault) (before after : Reader) (buffer : List ℕ) (file : FileRecord) → IsConsistent file → 0 < before.left
    → HasNoRecord fault before.ring before.at before.left file.bytes → Reads (Err fault) before after buffer file
fault_here NotAJournal before after buffer file consistent some reads = λ marks kept appended i stands is_before. never marks kept appended i file consistent stands before is_before some reads
fault_here OtherRing before after buffer file consistent some reads = λ marks kept appended i stands is_before. never marks kept appended i file consistent stands before is_before some reads
fault_here OtherLength before after buffer file consistent some reads = λ marks kept appended i stands is_before. never marks kept appended i file consistent stands before is_before some reads
fault_here BadHead before after buffer file consistent some reads = λ marks kept appended i stands is_before. never marks kept appended i file consistent stands before is_before some reads
fault_here BadRecord before after buffer file consistent some reads = λ marks kept appended i stands is_before. never marks kept appended i file consistent stands before is_before some reads
fault_here OutOfMemory before after buffer file consistent some reads = λ marks kept appended i stands is_before. tt
fault_here DiskFault before after buffer file consistent some reads = λ marks kept appended i stands is_before. tt

pub failed_reading : (fault : JournalFault) (before after : Reader) (buffer : List ℕ) (file : Option FileRecord) → IfSome file IsConsistent → 0 < before.left
    → IfSome file (λ f. HasNoRecord fault before.ring before.at before.left f.bytes) → IfSome file (Reads (Err fault) before after buffer)
failed_reading fault before after buffer None consistent some reads = tt
failed_reading fault before after buffer (Some file) consistent some reads = fault_here fault before after buffer file consistent some reads
