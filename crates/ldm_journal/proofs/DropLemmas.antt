-- How many records go from the front.
use Rattle.std.proofs.Common.{◌≡◌, inl, inr, ℕ, ◌+◌, ◌-◌, ◌<◌, ◌≤◌, Bool, false, cond, List, [], ◌∷◌, ◌++◌, length, drop, refl, sym, ◌∙◌, ap, subst, arith}
use Rattle.std.specs.Prelude.{Option, Some, None, IfSome, Ok, Err, nat_le}
use Rattle.std.specs.List.{AllByRecursion}
use Rattle.std.proofs.lemmas.Bool.{le-leb}
use Rattle.std.proofs.lemmas.Bool.Decides.{leb_tells}
use Rattle.std.proofs.lemmas.List.{drop_at, drop-drop}
use Rattle.ldm_disk.specs.Told.{FileRecord, IsConsistent}
use Rattle.ldm_disk.specs.Calls.{FileChanges, KeepsFile}
use Rattle.ldm_journal.specs.declared.places.TheConstants.{RING}
use Rattle.ldm_journal.specs.declared.marks.Marks.{Marks}
use Rattle.ldm_journal.specs.declared.fault.JournalFault.{JournalFault}
use Rattle.ldm_journal.specs.declared.fault.JournalFault.TheVariants.{NotAJournal, OtherRing, OtherLength, BadHead, BadRecord, DiskFault, OutOfMemory}
use Rattle.ldm_journal.specs.Records.{Kept, record_bytes, records_of, size_of, fitting, IsLawful}
use Rattle.ldm_journal.specs.Format.{around, front_at, place_of}
use Rattle.ldm_journal.specs.Standing.{Stands}
use Rattle.ldm_journal.specs.Reading.{CountsRecord}
use Rattle.ldm_journal.specs.Committing.{DropsFor}
use Rattle.ldm_journal.proofs.Around.{around-add, drop-around, length-around}
use Rattle.ldm_journal.proofs.KeepLemmas.{by_marks}
use Rattle.ldm_journal.proofs.RecordLemmas.{records-append, lawful_both}

-- all records of an open journal, as its file reads
pub all_records : (marks : Marks) (kept appended : List Kept) (file : FileRecord) → IsConsistent file → Stands marks kept appended file
    → around marks.ring marks.front (marks.used + marks.appended) file.bytes ≡ records_of (kept ++ appended)
all_records marks kept appended file consistent stands =
    let k = by_marks marks kept file.bytes (stands.crash file.bytes consistent.reads) in
    let first : around marks.ring marks.front marks.used file.bytes ≡ records_of kept =
    ap (λ (n : ℕ). around marks.ring n marks.used file.bytes) (sym k.front)
    ∙ ap (λ (n : ℕ). around marks.ring (front_at (place_of marks.odd) file.bytes) n file.bytes) (sym k.used)
    ∙ k.holds.records in
    around-add marks.ring marks.front marks.used marks.appended file.bytes
    ∙ ap (λ (l : List ℕ). l ++ around marks.ring (marks.front + marks.used) marks.appended file.bytes) first
    ∙ ap (λ (l : List ℕ). records_of kept ++ l) stands.behind
    ∙ sym (records-append kept appended)

pub all_lawful : (marks : Marks) (kept appended : List Kept) (file : FileRecord) → IsConsistent file → Stands marks kept appended file → AllByRecursion IsLawful (kept ++ appended)
all_lawful marks kept appended file consistent stands =
    lawful_both kept appended (stands.crash file.bytes consistent.reads).holds.lawful stands.lawful

-- tests of numbers
too_long : (a b : ℕ) → b < a → nat_le a b ≡ false
too_long a b less = elim (leb_tells a b) [ inl within ↦ absurd (omega (arith, within.1, less)) | inr over ↦ over.0 ]

-- the records that are left so far fit as all do
pub record SomeRest (most dropped : ℕ) (all : List Kept) : Type 0 where
  pub rest : List Kept
  pub records : records_of rest ≡ drop dropped (records_of all)
  pub lawful : AllByRecursion IsLawful rest
  pub fits : fitting most rest ≡ fitting most all

pub none_dropped : (most : ℕ) (all : List Kept) → AllByRecursion IsLawful all → SomeRest most 0 all
none_dropped most all lawful = record { rest = all; records = refl; lawful = lawful; fits = refl }

one_more : (rest : List Kept) (most dropped total len ring from : ℕ) (all : List Kept) (file : List ℕ) → records_of rest ≡ drop dropped (records_of all)
    → AllByRecursion IsLawful rest → fitting most rest ≡ fitting most all → around ring from total file ≡ records_of all → dropped ≤ total → most < total - dropped
    → CountsRecord (Ok len) ring (from + dropped) (total - dropped) file → SomeRest most (dropped + len) all
one_more [] most dropped total len ring from all file records lawful fits is le more counts =
    let window : around ring (from + dropped) (total - dropped) file ≡ [] =
    sym (drop-around ring from total dropped file le) ∙ ap (λ (l : List ℕ). drop dropped l) is ∙ sym records in
    let none : total - dropped ≡ 0 = sym (length-around ring (from + dropped) (total - dropped) file) ∙ ap length window in
    absurd (omega (arith, none, more))
one_more (k ∷ rest) most dropped total len ring from all file records lawful fits is le more counts =
    let window : around ring (from + dropped) (total - dropped) file ≡ record_bytes k ++ records_of rest =
    sym (drop-around ring from total dropped file le) ∙ ap (λ (l : List ℕ). drop dropped l) is ∙ sym records in
    let count : len ≡ length (record_bytes k) = counts k (records_of rest) lawful.0 window in
    let size : size_of (k ∷ rest) ≡ total - dropped = ap length (sym window) ∙ length-around ring (from + dropped) (total - dropped) file in
    let over : nat_le (size_of (k ∷ rest)) most ≡ false = too_long (size_of (k ∷ rest)) most (omega (arith, size, more)) in
    record {
      rest = rest;
      records = sym (drop_at (record_bytes k) (records_of rest) len (sym count)) ∙ ap (λ (l : List ℕ). drop len l) records ∙ drop-drop len dropped (records_of all);
      lawful = lawful.1;
      fits = sym (ap (λ (b : Bool). cond b (k ∷ rest) (fitting most rest)) over) ∙ fits;
    }

pub one_dropped : (most dropped total len ring from : ℕ) (all : List Kept) (file : List ℕ) → SomeRest most dropped all → around ring from total file ≡ records_of all
    → dropped ≤ total → most < total - dropped → CountsRecord (Ok len) ring (from + dropped) (total - dropped) file → SomeRest most (dropped + len) all
one_dropped most dropped total len ring from all file so_far is le more counts =
    one_more so_far.rest most dropped total len ring from all file so_far.records so_far.lawful so_far.fits is le more counts

all_fit : (rest : List Kept) (most : ℕ) → size_of rest ≤ most → fitting most rest ≡ rest
all_fit [] most le = refl
all_fit (k ∷ rest) most le = ap (λ (b : Bool). cond b (k ∷ rest) (fitting most rest)) (le-leb (size_of (k ∷ rest)) most le)

pub enough_dropped : (most dropped total ring from : ℕ) (all : List Kept) (file : List ℕ) → SomeRest most dropped all → around ring from total file ≡ records_of all
    → dropped ≤ total → total - dropped ≤ most → records_of (fitting most all) ≡ drop dropped (records_of all)
enough_dropped most dropped total ring from all file so_far is le fits =
    let window : around ring (from + dropped) (total - dropped) file ≡ records_of so_far.rest =
    sym (drop-around ring from total dropped file le) ∙ ap (λ (l : List ℕ). drop dropped l) is ∙ sym so_far.records in
    let size : size_of so_far.rest ≡ total - dropped = ap length (sym window) ∙ length-around ring (from + dropped) (total - dropped) file in
    ap (λ (l : List Kept). records_of l) (sym so_far.fits ∙ all_fit so_far.rest most (omega (arith, size, fits))) ∙ so_far.records

-- a record stands where some are left
stands_there : (rest : List Kept) (dropped total ring from : ℕ) (all : List Kept) (file : List ℕ) → records_of rest ≡ drop dropped (records_of all)
    → AllByRecursion IsLawful rest → around ring from total file ≡ records_of all → dropped ≤ total → 0 < total - dropped
    → ((k : Kept) (more : List ℕ) → IsLawful k → ¬ (around ring (from + dropped) (total - dropped) file ≡ record_bytes k ++ more)) → ⊥
stands_there [] dropped total ring from all file records lawful is le some none =
    let window : around ring (from + dropped) (total - dropped) file ≡ [] =
    sym (drop-around ring from total dropped file le) ∙ ap (λ (l : List ℕ). drop dropped l) is ∙ sym records in
    let nothing : total - dropped ≡ 0 = sym (length-around ring (from + dropped) (total - dropped) file) ∙ ap length window in
    omega (arith, nothing, some)
stands_there (k ∷ rest) dropped total ring from all file records lawful is le some none =
    none k (records_of rest) lawful.0 (sym (drop-around ring from total dropped file le) ∙ ap (λ (l : List ℕ). drop dropped l) is ∙ sym records)

-- so it is for whatever an open journal stands for
pub record SoFar (marks : Marks) (most dropped : ℕ) (file : FileRecord) : Type 0 where
  pub rest : (kept appended : List Kept) → Stands marks kept appended file → SomeRest most dropped (kept ++ appended)

pub begins : (marks : Marks) (most : ℕ) (file : Option FileRecord) → IfSome file IsConsistent → IfSome file (SoFar marks most 0)
begins marks most None consistent = tt
begins marks most (Some file) consistent = record { rest = λ kept appended stands. none_dropped most (kept ++ appended) (all_lawful marks kept appended file consistent stands) }

pub goes_on : (marks : Marks) (most dropped len : ℕ) (old now : Option FileRecord) → IfSome old IsConsistent → FileChanges KeepsFile old now → dropped ≤ marks.used + marks.appended
    → most < marks.used + marks.appended - dropped → IfSome old (SoFar marks most dropped)
    → IfSome now (λ f. CountsRecord (Ok len) marks.ring (marks.front + dropped) (marks.used + marks.appended - dropped) f.bytes)
    → IfSome old (SoFar marks most (dropped + len))
goes_on marks most dropped len None now consistent keeps le more so_far counts = tt
goes_on marks most dropped len (Some old) None consistent keeps le more so_far counts = absurd keeps
goes_on marks most dropped len (Some old) (Some now) consistent keeps le more so_far counts =
    record {
      rest = λ kept appended stands.
          one_dropped most dropped (marks.used + marks.appended) len marks.ring marks.front (kept ++ appended) old.bytes (so_far.rest kept appended stands)
          (all_records marks kept appended old consistent stands) le more
          (subst (λ (bytes : List ℕ). CountsRecord (Ok len) marks.ring (marks.front + dropped) (marks.used + marks.appended - dropped) bytes) keeps.bytes counts);
    }

pub ends : (marks : Marks) (gap dropped : ℕ) (old : Option FileRecord) → IfSome old IsConsistent → dropped ≤ marks.used + marks.appended
    → marks.used + marks.appended - dropped ≤ marks.ring - gap → IfSome old (SoFar marks (marks.ring - gap) dropped) → IfSome old (DropsFor (Ok dropped) gap marks)
ends marks gap dropped None consistent le fits so_far = tt
ends marks gap dropped (Some old) consistent le fits so_far = λ kept appended stands.
    enough_dropped (marks.ring - gap) dropped (marks.used + marks.appended) marks.ring marks.front (kept ++ appended) old.bytes (so_far.rest kept appended stands)
    (all_records marks kept appended old consistent stands) le fits

-- a record that cannot be read
none_stands : (marks : Marks) (most dropped : ℕ) (old : FileRecord) (bytes : List ℕ) → IsConsistent old → bytes ≡ old.bytes → dropped ≤ marks.used + marks.appended
    → 0 < marks.used + marks.appended - dropped → SoFar marks most dropped old
    → (length bytes ≡ RING + marks.ring → (k : Kept) (rest : List ℕ) → IsLawful k
    → ¬ (around marks.ring (marks.front + dropped) (marks.used + marks.appended - dropped) bytes ≡ record_bytes k ++ rest))
    → (kept appended : List Kept) → ¬ (Stands marks kept appended old)
none_stands marks most dropped old bytes consistent same le some so_far none kept appended stands =
    let rest = so_far.rest kept appended stands in
    let whole = (stands.crash old.bytes consistent.reads).holds.long in
    stands_there rest.rest dropped (marks.used + marks.appended) marks.ring marks.front (kept ++ appended) bytes rest.records rest.lawful
    (ap (λ (l : List ℕ). around marks.ring marks.front (marks.used + marks.appended) l) same ∙ all_records marks kept appended old consistent stands) le some
    (none (ap length same ∙ whole))

fault_drops : (fault : JournalFault) (marks : Marks) (gap most dropped : ℕ) (old : FileRecord) (bytes : List ℕ) → IsConsistent old → bytes ≡ old.bytes
    → dropped ≤ marks.used + marks.appended → 0 < marks.used + marks.appended - dropped → SoFar marks most dropped old
    → CountsRecord (Err fault) marks.ring (marks.front + dropped) (marks.used + marks.appended - dropped) bytes → DropsFor (Err fault) gap marks old
fault_drops NotAJournal marks gap most dropped old bytes consistent same le some so_far none = none_stands marks most dropped old bytes consistent same le some so_far none
fault_drops OtherRing marks gap most dropped old bytes consistent same le some so_far none = none_stands marks most dropped old bytes consistent same le some so_far none
fault_drops OtherLength marks gap most dropped old bytes consistent same le some so_far none = none_stands marks most dropped old bytes consistent same le some so_far none
fault_drops BadHead marks gap most dropped old bytes consistent same le some so_far none = none_stands marks most dropped old bytes consistent same le some so_far none
fault_drops BadRecord marks gap most dropped old bytes consistent same le some so_far none = none_stands marks most dropped old bytes consistent same le some so_far none
fault_drops OutOfMemory marks gap most dropped old bytes consistent same le some so_far none = none_stands marks most dropped old bytes consistent same le some so_far none
fault_drops DiskFault marks gap most dropped old bytes consistent same le some so_far none = tt

pub fails : (fault : JournalFault) (marks : Marks) (gap most dropped : ℕ) (old now : Option FileRecord) → IfSome old IsConsistent → FileChanges KeepsFile old now
    → dropped ≤ marks.used + marks.appended → 0 < marks.used + marks.appended - dropped → IfSome old (SoFar marks most dropped)
    → IfSome now (λ f. CountsRecord (Err fault) marks.ring (marks.front + dropped) (marks.used + marks.appended - dropped) f.bytes)
    → IfSome old (DropsFor (Err fault) gap marks)
fails fault marks gap most dropped None now consistent keeps le some so_far none = tt
fails fault marks gap most dropped (Some old) None consistent keeps le some so_far none = absurd keeps
fails fault marks gap most dropped (Some old) (Some now) consistent keeps le some so_far none =
    fault_drops fault marks gap most dropped old now.bytes consistent keeps.bytes le some so_far none
