-- Opening a journal: what stands in front of the ring, and the records, one after another.
use Rattle.std.proofs.Common.{◌≡◌, ◌≢◌, ◌⊎◌, ⊎_elim, ℕ, ◌+◌, ◌-◌, ◌%◌, ◌^◌, ◌==◌, ◌<◌, ◌≤◌, Bool, List, [], ◌∷◌, ◌++◌, length, take, drop, refl, sym, ◌∙◌, ap, subst, arith}
use Rattle.std.specs.Prelude.{IfSome, Option, Some, None, Ok, Err}
use Rattle.std.specs.Int.{w64, from_be_bytes}
use Rattle.std.specs.List.{AllByRecursion, between}
use Rattle.std.proofs.lemmas.List.{append-nil, append_assoc, length-append, take-take, get_or-take}
use Rattle.std.proofs.lemmas.Slice.{between_is, between_from_start}
use Rattle.ldm_journal.specs.declared.places.TheConstants.{SELECT, RING, LARGEST_RING, NOTE}
use Rattle.ldm_journal.specs.declared.marks.Marks.{Marks}
use Rattle.ldm_journal.specs.declared.entry.Entry.{Entry}
use Rattle.ldm_journal.specs.declared.fault.JournalFault.{JournalFault}
use Rattle.ldm_journal.specs.declared.fault.JournalFault.TheVariants.{NotAJournal, OtherRing, OtherLength, BadHead, BadRecord, DiskFault, OutOfMemory}
use Rattle.ldm_journal.specs.Records.{Kept, record_bytes, records_of, IsLawful, AreRising}
use Rattle.ldm_journal.specs.Format.{Holds, opening, number_at, selected, place_of, front_at, used_at, note_at, around}
use Rattle.ldm_journal.specs.Reading.{FaultRose, Fills, ReadsRecord, kept_of}
use Rattle.ldm_journal.specs.Opening.{AreRecords, HasMarks, HasNumbers, IsOfFile, JudgesFile, JudgesFront, JudgesRecords}
use Rattle.ldm_journal.specs.Sound.{IsSound}
use Rattle.ldm_disk.specs.Told.{DiskRecord, FileRecord}
use Rattle.ldm_disk.specs.Calls.{FileChanges, KeepsFile}
use Rattle.ldm_journal.proofs.Around.{around-add, length-around}
use Rattle.ldm_journal.proofs.KeepLemmas.{head_within}
use Rattle.ldm_journal.proofs.RecordLemmas.{records-push, lawful_both}
use Rattle.ldm_journal.proofs.ReadLemmas.{least_record}
use Rattle.ldm_journal.proofs.OneList.{one_record, small}

-- bytes in front of the ring
pub between_in_front : (from to : ℕ) (file : List ℕ) → to ≤ RING → between from to (take RING file) ≡ between from to file
between_in_front from to file within =
    between_is (take RING file) from to ∙ ap (λ (l : List ℕ). drop from l) (take-take to RING file within) ∙ sym (between_is file from to)

pub number_in_front : (place : ℕ) (file : List ℕ) → place + 8 ≤ RING → number_at place (take RING file) ≡ number_at place file
unfolding number_at
number_in_front place file within = ap (λ (l : List ℕ). from_be_bytes w64 l) (between_in_front place (place + 8) file within)

pub selected_in_front : (file : List ℕ) → selected (take RING file) ≡ selected file
unfolding selected
selected_in_front file = ap (λ (byte : ℕ). byte % 2 == 1) (get_or-take RING file SELECT 0 (omega arith))

-- what the marks say of the whole file
pub front_judged : (marks : Marks) (ring : ℕ) (front file : List ℕ) → front ≡ take RING file → take 24 front ≡ opening ring → length file ≡ RING + ring
    → HasNumbers marks ring (selected front) front → HasMarks marks ring file
front_judged marks ring front file is opened long numbers =
    let odd : selected front ≡ selected file = ap selected is ∙ selected_in_front file in
    let head = head_within (selected file) in
    let number : (offset : ℕ) → offset + 8 ≤ 24 → number_at (place_of (selected front) + offset) front ≡ number_at (place_of (selected file) + offset) file =
    λ offset fits.
    ap (λ (o : Bool). number_at (place_of o + offset) front) odd ∙ ap (λ (l : List ℕ). number_at (place_of (selected file) + offset) l) is
    ∙ number_in_front (place_of (selected file) + offset) file (omega (arith, head.1, fits)) in
    let none : (n : ℕ) → n + 0 ≡ n = λ n. omega arith in
    record {
      opened = sym (take-take 24 RING file (omega arith)) ∙ ap (λ (l : List ℕ). take 24 l) (sym is) ∙ opened;
      long = long;
      ring = numbers.ring;
      odd = sym odd ∙ sym numbers.odd;
      front = ap (λ (n : ℕ). number_at n file) (sym (none (place_of (selected file)))) ∙ sym (number 0 (omega arith))
          ∙ ap (λ (n : ℕ). number_at n front) (none (place_of (selected front))) ∙ sym numbers.front;
      used = sym (number 8 (omega arith)) ∙ sym numbers.used;
      next = sym (number 16 (omega arith)) ∙ sym numbers.next;
      appended = numbers.appended;
      note = sym (between_in_front (place_of (selected file) + 24) (place_of (selected file) + 24 + NOTE) file (omega (arith, head.1)))
          ∙ ap (λ (l : List ℕ). note_at (place_of (selected file)) l) (sym is)
          ∙ ap (λ (o : Bool). note_at (place_of o) front) (sym odd)
          ∙ sym numbers.note;
    }

-- files that are none
pub not_opened : (ring : ℕ) (front file : List ℕ) → front ≡ take RING file → (take 24 front ≢ opening ring) → (kept : List Kept) (note : List ℕ) → ¬ (Holds ring kept note file)
not_opened ring front file is not kept note holds =
    not (ap (λ (l : List ℕ). take 24 l) is ∙ take-take 24 RING file (omega arith) ∙ holds.opened)

pub bad_head : (marks : Marks) (ring : ℕ) (file : List ℕ) → HasMarks marks ring file → (ring ≤ marks.front) ⊎ (ring < marks.used) → (kept : List Kept) (note : List ℕ) → ¬ (Holds ring kept note file)
bad_head marks ring file has bad kept note holds =
    ⊎_elim (λ front. omega (arith, front, holds.front, has.front)) (λ used. omega (arith, used, holds.used, has.used)) bad

-- the number behind the last of a list, or the one given
abbrev pub end_of : ℕ → List Kept → ℕ
end_of from [] = from
end_of from (k ∷ kept) = end_of (k.number + 1) kept

end_push : (from : ℕ) (kept : List Kept) (k : Kept) → end_of from (kept ++ k ∷ []) ≡ k.number + 1
end_push from [] k = refl
end_push from (x ∷ kept) k = end_push (x.number + 1) kept k

rising_push : (from : ℕ) (kept : List Kept) (k : Kept) → AreRising from kept (end_of from kept) → end_of from kept ≤ k.number → AreRising from (kept ++ k ∷ []) (k.number + 1)
rising_push from [] k rising le = (le, omega arith)
rising_push from (x ∷ kept) k rising le = (rising.0, rising_push (x.number + 1) kept k rising.1 le)

-- numbers that rise over two lists rise from the first to the second
rising_over : (from : ℕ) (kept more : List Kept) (below : ℕ) → AreRising from (kept ++ more) below → AreRising (end_of from kept) more below
rising_over from [] more below rising = rising
rising_over from (x ∷ kept) more below rising = rising_over (x.number + 1) kept more below rising.1

rising_below : (from : ℕ) (kept : List Kept) (below most : ℕ) → below ≤ most → AreRising from kept below → AreRising from kept most
rising_below from [] below most le rising = omega (arith, le, rising)
rising_below from (k ∷ kept) below most le rising = (rising.0, rising_below (k.number + 1) kept below most le rising.1)

-- what was read so far
pub record ReadSoFar (marks : Marks) (left next : ℕ) (file : List ℕ) : Type 0 where
  pub kept : List Kept
  pub records : around marks.ring marks.front (marks.used - left) file ≡ records_of kept
  pub lawful : AllByRecursion IsLawful kept
  pub rising : AreRising 0 kept (end_of 0 kept)
  pub end : next ≡ end_of 0 kept

pub nothing_read : (marks : Marks) (left : ℕ) (file : List ℕ) → left ≡ marks.used → ReadSoFar marks left 0 file
unfolding around
nothing_read marks left file is =
    let none : marks.used - left ≡ 0 = omega arith in
    record {
      kept = [];
      records = ap (λ (n : ℕ). around marks.ring marks.front n file) none;
      lawful = tt;
      rising = omega arith;
      end = refl;
    }

pub one_read : (marks : Marks) (entry : Entry) (left next at : ℕ) (buffer file : List ℕ) → left ≤ marks.used → at ≡ marks.front + (marks.used - left) → next ≤ entry.number
    → ReadSoFar marks left next file → ReadsRecord (Ok entry) marks.ring at left buffer file → ReadSoFar marks (left - length buffer) (entry.number + 1) file
one_read marks entry left next at buffer file le place rises so_far reads =
    let k = kept_of entry buffer in
    let sum : marks.used - (left - length buffer) ≡ (marks.used - left) + length buffer = omega (arith, le, reads.0) in
    record {
      kept = so_far.kept ++ k ∷ [];
      records = ap (λ (n : ℕ). around marks.ring marks.front n file) sum
          ∙ around-add marks.ring marks.front (marks.used - left) (length buffer) file
          ∙ ap (λ (l : List ℕ). l ++ around marks.ring (marks.front + (marks.used - left)) (length buffer) file) so_far.records
          ∙ ap (λ (n : ℕ). records_of so_far.kept ++ around marks.ring n (length buffer) file) (sym place)
          ∙ ap (λ (l : List ℕ). records_of so_far.kept ++ l) (reads.1 ∙ reads.2)
          ∙ sym (records-push so_far.kept k);
      lawful = lawful_both so_far.kept (k ∷ []) so_far.lawful (reads.3, tt);
      rising = subst (λ (n : ℕ). AreRising 0 (so_far.kept ++ k ∷ []) n) (sym (end_push 0 so_far.kept k))
          (rising_push 0 so_far.kept k so_far.rising (omega (arith, so_far.end, rises)));
      end = sym (end_push 0 so_far.kept k);
    }

-- a list that begins with the records of another
pub record Begins (kept whole : List Kept) (rest : List ℕ) : Type 0 where
  pub more : List Kept
  pub is : whole ≡ kept ++ more
  pub records : rest ≡ records_of more
  pub lawful : AllByRecursion IsLawful more

pub begins_so : (kept whole : List Kept) (rest : List ℕ) → AllByRecursion IsLawful kept → AllByRecursion IsLawful whole → length (records_of whole) < 2 ^ 62
    → records_of whole ≡ records_of kept ++ rest → Begins kept whole rest
begins_so [] whole rest lk lw short is = record { more = whole; is = refl; records = sym is; lawful = lw }
begins_so (k ∷ kept) [] rest lk lw short is =
    let len : 0 ≡ length (record_bytes k ++ records_of kept) + length rest = ap length is ∙ length-append (record_bytes k ++ records_of kept) rest in
    absurd (omega (arith, len, length-append (record_bytes k) (records_of kept), least_record k lk.0))
begins_so (k ∷ kept) (w ∷ whole) rest lk lw short is =
    let all : record_bytes w ++ records_of whole ≡ record_bytes k ++ (records_of kept ++ rest) = is ∙ append_assoc (record_bytes k) (records_of kept) rest in
    let len : length (record_bytes w) + length (records_of whole) ≡ length (record_bytes k) + length (records_of kept ++ rest) =
    sym (length-append (record_bytes w) (records_of whole)) ∙ ap length all ∙ length-append (record_bytes k) (records_of kept ++ rest) in
    let short_k : length (records_of (k ∷ [])) < 2 ^ 62 = omega (arith, short, len, length-append (record_bytes w) (records_of whole), ap length (append-nil (record_bytes k))) in
    let one = one_record w k (records_of whole) (records_of kept ++ rest) lw.0 lk.0 (small w whole lw.0 short) (small k [] lk.0 short_k) all in
    let next = begins_so kept whole rest lk.1 lw.1 (omega (arith, short, length-append (record_bytes w) (records_of whole))) one.1 in
    record { more = next.more; is = cc (one.0, next.is); records = next.records; lawful = next.lawful }

-- what any list that the window keeps has behind what was read
module _ (marks : Marks) (left next at : ℕ) (file : List ℕ) (le : left ≤ marks.used) (place : at ≡ marks.front + (marks.used - left)) (sized : marks.used ≤ LARGEST_RING)
    (so_far : ReadSoFar marks left next file) (whole : List Kept) (are : AreRecords whole marks.next (around marks.ring marks.front marks.used file)) where
  pub behind : Begins so_far.kept whole (around marks.ring at left file)
  behind =
      let sum : marks.used ≡ (marks.used - left) + left = omega (arith, le) in
      let split : around marks.ring marks.front marks.used file ≡ records_of so_far.kept ++ around marks.ring at left file =
      ap (λ (n : ℕ). around marks.ring marks.front n file) sum ∙ around-add marks.ring marks.front (marks.used - left) left file
      ∙ ap (λ (l : List ℕ). l ++ around marks.ring (marks.front + (marks.used - left)) left file) so_far.records
      ∙ ap (λ (n : ℕ). records_of so_far.kept ++ around marks.ring n left file) (sym place) in
      let len : length (records_of whole) ≡ marks.used = ap length (sym are.records) ∙ length-around marks.ring marks.front marks.used file in
      begins_so so_far.kept whole (around marks.ring at left file) so_far.lawful are.lawful (omega (arith, len, sized)) (sym are.records ∙ split)

  rising_there : (more : List Kept) → whole ≡ so_far.kept ++ more → AreRising next more marks.next
  rising_there more is =
      subst (λ (n : ℕ). AreRising n more marks.next) (sym so_far.end)
      (rising_over 0 so_far.kept more marks.next (subst (λ (l : List Kept). AreRising 0 l marks.next) is are.rising))

  -- a record that cannot be read
  no_record : (more : List Kept) → around marks.ring at left file ≡ records_of more → AllByRecursion IsLawful more → 0 < left
      → ((k : Kept) (rest : List ℕ) → IsLawful k → ¬ (around marks.ring at left file ≡ record_bytes k ++ rest)) → ⊥
  no_record [] is lawful some none = (let len : left ≡ 0 = sym (length-around marks.ring at left file) ∙ ap length is in omega (arith, len, some))
  no_record (k ∷ more) is lawful some none = none k (records_of more) lawful.0 is

  pub not_there : 0 < left → ((k : Kept) (rest : List ℕ) → IsLawful k → ¬ (around marks.ring at left file ≡ record_bytes k ++ rest)) → ⊥
  not_there some none = no_record behind.more behind.records behind.lawful some none

  -- a number that does not rise
  no_rise : (entry : Entry) (buffer : List ℕ) (more : List Kept) → around marks.ring at left file ≡ records_of more → AllByRecursion IsLawful more → whole ≡ so_far.kept ++ more → 0 < left
      → left ≤ LARGEST_RING → entry.number < next → ReadsRecord (Ok entry) marks.ring at left buffer file → ⊥
  no_rise entry buffer [] is lawful all some small_left low reads = (let len : left ≡ 0 = sym (length-around marks.ring at left file) ∙ ap length is in omega (arith, len, some))
  no_rise entry buffer (m ∷ more) is lawful all some small_left low reads =
      let k = kept_of entry buffer in
      let n = length buffer in
      let rest = around marks.ring (at + n) (left - n) file in
      let sum : left ≡ n + (left - n) = omega (arith, reads.0) in
      let split : around marks.ring at left file ≡ record_bytes k ++ rest =
      ap (λ (c : ℕ). around marks.ring at c file) sum ∙ around-add marks.ring at n (left - n) file ∙ ap (λ (l : List ℕ). l ++ rest) (reads.1 ∙ reads.2) in
      let len_m : length (records_of (m ∷ more)) ≡ left = ap length (sym is) ∙ length-around marks.ring at left file in
      let len_k : length (records_of (k ∷ [])) ≡ n = ap length (append-nil (record_bytes k) ∙ sym reads.2) in
      let one = one_record m k (records_of more) rest lawful.0 reads.3 (small m more lawful.0 (omega (arith, len_m, small_left)))
      (small k [] reads.3 (omega (arith, len_k, reads.0, small_left))) (sym is ∙ split) in
      let same : m.number ≡ entry.number = ap (λ (j : Kept). j.number) one.0 in
      omega (arith, (rising_there (m ∷ more) all).0, same, low)

  pub not_rising : (entry : Entry) (buffer : List ℕ) → 0 < left → left ≤ LARGEST_RING → entry.number < next → ReadsRecord (Ok entry) marks.ring at left buffer file → ⊥
  not_rising entry buffer some small_left low reads = no_rise entry buffer behind.more behind.records behind.lawful behind.is some small_left low reads

  -- the next number of the head is too low
  no_next : (more : List Kept) → around marks.ring at left file ≡ records_of more → AllByRecursion IsLawful more → whole ≡ so_far.kept ++ more → left ≡ 0 → marks.next < next → ⊥
  no_next [] is lawful all none low = omega (arith, rising_there [] all, low)
  no_next (m ∷ more) is lawful all none low =
      let len : length (record_bytes m) + length (records_of more) ≡ left =
      sym (length-append (record_bytes m) (records_of more)) ∙ ap length (sym is) ∙ length-around marks.ring at left file in
      omega (arith, len, none, least_record m lawful.0)

  pub not_next : left ≡ 0 → marks.next < next → ⊥
  not_next none low = no_next behind.more behind.records behind.lawful behind.is none low

-- the records end well
pub all_read : (marks : Marks) (left next : ℕ) (file : List ℕ) → left ≡ 0 → next ≤ marks.next → ReadSoFar marks left next file → JudgesRecords (Ok tt) marks file
all_read marks left next file none le so_far =
    let sum : marks.used ≡ marks.used - left = omega (arith, none) in (
      so_far.kept,
      record {
        records = ap (λ (n : ℕ). around marks.ring marks.front n file) sum ∙ so_far.records;
        lawful = so_far.lawful;
        rising = rising_below 0 so_far.kept (end_of 0 so_far.kept) marks.next (omega (arith, le, so_far.end)) so_far.rising;
      },
    )

-- faults, as clauses say them
pub record_fault : (fault : JournalFault) (marks : Marks) (left next at : ℕ) (buffer file : List ℕ) → left ≤ marks.used → at ≡ marks.front + (marks.used - left) → marks.used ≤ LARGEST_RING
    → 0 < left → ReadSoFar marks left next file → ReadsRecord (Err fault) marks.ring at left buffer file → JudgesRecords (Err fault) marks file
record_fault NotAJournal marks left next at buffer file le place sized some so_far reads = λ long whole are. not_there marks left next at file le place sized so_far whole are some (reads long)
record_fault OtherRing marks left next at buffer file le place sized some so_far reads = λ long whole are. not_there marks left next at file le place sized so_far whole are some (reads long)
record_fault OtherLength marks left next at buffer file le place sized some so_far reads = λ long whole are. not_there marks left next at file le place sized so_far whole are some (reads long)
record_fault BadHead marks left next at buffer file le place sized some so_far reads = λ long whole are. not_there marks left next at file le place sized so_far whole are some (reads long)
record_fault BadRecord marks left next at buffer file le place sized some so_far reads = λ long whole are. not_there marks left next at file le place sized so_far whole are some (reads long)
record_fault OutOfMemory marks left next at buffer file le place sized some so_far reads = tt
record_fault DiskFault marks left next at buffer file le place sized some so_far reads = tt

-- so it is where a disk tells its file
pub one_more_read : (marks : Marks) (entry : Entry) (left next at len : ℕ) (buffer : List ℕ) (old now : Option FileRecord) → FileChanges KeepsFile old now → left ≤ marks.used
    → at ≡ marks.front + (marks.used - left) → next ≤ entry.number → len ≡ length buffer → IfSome old (λ f. ReadSoFar marks left next f.bytes)
    → IfSome now (λ f. ReadsRecord (Ok entry) marks.ring at left buffer f.bytes) → IfSome old (λ f. ReadSoFar marks (left - len) (entry.number + 1) f.bytes)
one_more_read marks entry left next at len buffer None now keeps le place rises is so_far reads = tt
one_more_read marks entry left next at len buffer (Some old) None keeps le place rises is so_far reads = absurd keeps
one_more_read marks entry left next at len buffer (Some old) (Some now) keeps le place rises is so_far reads =
    subst (λ (n : ℕ). ReadSoFar marks (left - n) (entry.number + 1) old.bytes) (sym is)
    (one_read marks entry left next at buffer old.bytes le place rises so_far
    (subst (λ (bytes : List ℕ). ReadsRecord (Ok entry) marks.ring at left buffer bytes) keeps.bytes reads))

pub no_more_read : (fault : JournalFault) (marks : Marks) (left next at : ℕ) (buffer : List ℕ) (old now : Option FileRecord) → FileChanges KeepsFile old now → left ≤ marks.used
    → at ≡ marks.front + (marks.used - left) → marks.used ≤ LARGEST_RING → 0 < left → IfSome old (λ f. ReadSoFar marks left next f.bytes)
    → IfSome now (λ f. ReadsRecord (Err fault) marks.ring at left buffer f.bytes) → IfSome old (λ f. JudgesRecords (Err fault) marks f.bytes)
no_more_read fault marks left next at buffer None now keeps le place sized some so_far reads = tt
no_more_read fault marks left next at buffer (Some old) None keeps le place sized some so_far reads = absurd keeps
no_more_read fault marks left next at buffer (Some old) (Some now) keeps le place sized some so_far reads =
    record_fault fault marks left next at buffer old.bytes le place sized some so_far
    (subst (λ (bytes : List ℕ). ReadsRecord (Err fault) marks.ring at left buffer bytes) keeps.bytes reads)

pub number_fault : (marks : Marks) (entry : Entry) (left next at : ℕ) (buffer : List ℕ) (old now : Option FileRecord) → FileChanges KeepsFile old now → left ≤ marks.used
    → at ≡ marks.front + (marks.used - left) → marks.used ≤ LARGEST_RING → 0 < left → entry.number < next → IfSome old (λ f. ReadSoFar marks left next f.bytes)
    → IfSome now (λ f. ReadsRecord (Ok entry) marks.ring at left buffer f.bytes) → IfSome old (λ f. JudgesRecords (Err BadRecord) marks f.bytes)
number_fault marks entry left next at buffer None now keeps le place sized some low so_far reads = tt
number_fault marks entry left next at buffer (Some old) None keeps le place sized some low so_far reads = absurd keeps
number_fault marks entry left next at buffer (Some old) (Some now) keeps le place sized some low so_far reads = λ long whole are.
    not_rising marks left next at old.bytes le place sized so_far whole are entry buffer some (omega (arith, le, sized)) low
    (subst (λ (bytes : List ℕ). ReadsRecord (Ok entry) marks.ring at left buffer bytes) keeps.bytes reads)

pub next_fault : (marks : Marks) (left next at : ℕ) (old : Option FileRecord) → left ≤ marks.used → at ≡ marks.front + (marks.used - left) → marks.used ≤ LARGEST_RING → left ≡ 0
    → marks.next < next → IfSome old (λ f. ReadSoFar marks left next f.bytes) → IfSome old (λ f. JudgesRecords (Err BadHead) marks f.bytes)
next_fault marks left next at None le place sized none low so_far = tt
next_fault marks left next at (Some old) le place sized none low so_far = λ long whole are. not_next marks left next at old.bytes le place sized so_far whole are none low

pub whole_read : (marks : Marks) (left next : ℕ) (old : Option FileRecord) → left ≡ 0 → next ≤ marks.next → IfSome old (λ f. ReadSoFar marks left next f.bytes)
    → IfSome old (λ f. JudgesRecords (Ok tt) marks f.bytes)
whole_read marks left next None none le so_far = tt
whole_read marks left next (Some old) none le so_far = all_read marks left next old.bytes none le so_far

pub none_read : (marks : Marks) (left : ℕ) (old : Option FileRecord) → left ≡ marks.used → IfSome old (λ f. ReadSoFar marks left 0 f.bytes)
none_read marks left None is = tt
none_read marks left (Some old) is = nothing_read marks left old.bytes is

-- the marks and the records make the journal
pub file_judged : (marks : Marks) (ring : ℕ) (file : List ℕ) → IsSound marks → HasMarks marks ring file → JudgesRecords (Ok tt) marks file → JudgesFile (Ok marks) ring file
file_judged marks ring file sound has records =
    let kept = records.0 in
    let are = records.1 in
    let place = place_of (selected file) in (
      has.ring,
      has.appended,
      (
        kept,
        record {
          holds = record {
            opened = has.opened ∙ ap opening (sym has.ring);
            long = has.long ∙ ap (λ (n : ℕ). RING + n) (sym has.ring);
            front = omega (arith, has.front, sound.1);
            used = omega (arith, has.used, sound.2);
            records = ap (λ (n : ℕ). around marks.ring n (used_at place file) file) has.front ∙ ap (λ (n : ℕ). around marks.ring marks.front n file) has.used ∙ are.records;
            lawful = are.lawful;
            rising = subst (λ (n : ℕ). AreRising 0 kept n) (sym has.next) are.rising;
            noted = has.note;
          };
          odd = has.odd;
          front = has.front;
          used = has.used;
        },
        are.rising,
      ),
    )

-- faults of a file that was read
no_list : (marks : Marks) (ring : ℕ) (file : List ℕ) → HasMarks marks ring file
    → (length file ≡ RING + marks.ring → (kept : List Kept) → ¬ (AreRecords kept marks.next (around marks.ring marks.front marks.used file)))
    → (kept : List Kept) (note : List ℕ) → ¬ (Holds ring kept note file)
no_list marks ring file has none kept note holds =
    let place = place_of (selected file) in
    none (has.long ∙ ap (λ (n : ℕ). RING + n) (sym has.ring)) kept
    (record {
      records = ap (λ (n : ℕ). around n marks.front marks.used file) has.ring
          ∙ ap (λ (n : ℕ). around ring n marks.used file) (sym has.front)
          ∙ ap (λ (n : ℕ). around ring (front_at place file) n file) (sym has.used)
          ∙ holds.records;
      lawful = holds.lawful;
      rising = subst (λ (n : ℕ). AreRising 0 kept n) has.next holds.rising;
    })

pub records_fault : (fault : JournalFault) (marks : Marks) (ring : ℕ) (file : List ℕ) → HasMarks marks ring file → JudgesRecords (Err fault) marks file → JudgesFile (Err fault) ring file
records_fault NotAJournal marks ring file has none = no_list marks ring file has none
records_fault OtherRing marks ring file has none = no_list marks ring file has none
records_fault OtherLength marks ring file has none = no_list marks ring file has none
records_fault BadHead marks ring file has none = no_list marks ring file has none
records_fault BadRecord marks ring file has none = no_list marks ring file has none
records_fault OutOfMemory marks ring file has none = tt
records_fault DiskFault marks ring file has none = tt

pub of_file_rose : (fault : JournalFault) (old new : DiskRecord) → IsOfFile fault → FaultRose fault old new
of_file_rose NotAJournal old new is = tt
of_file_rose OtherRing old new is = tt
of_file_rose OtherLength old new is = tt
of_file_rose BadHead old new is = tt
of_file_rose BadRecord old new is = tt
of_file_rose OutOfMemory old new is = tt
of_file_rose DiskFault old new is = absurd is

pub front_fault : (fault : JournalFault) (ring : ℕ) (file : List ℕ) → IsOfFile fault → JudgesFront (Err fault) ring file → JudgesFile (Err fault) ring file
front_fault NotAJournal ring file is none = none
front_fault OtherRing ring file is none = none
front_fault OtherLength ring file is none = none
front_fault BadHead ring file is none = none
front_fault BadRecord ring file is none = none
front_fault OutOfMemory ring file is none = tt
front_fault DiskFault ring file is none = tt

too_short : (ring : ℕ) (file : List ℕ) → length file < RING → (kept : List Kept) (note : List ℕ) → ¬ (Holds ring kept note file)
too_short ring file short kept note holds = omega (arith, short, holds.long)

pub short_judged : (fault : JournalFault) (ring : ℕ) (file : List ℕ) → length file < RING → JudgesFile (Err fault) ring file
short_judged NotAJournal ring file short = too_short ring file short
short_judged OtherRing ring file short = too_short ring file short
short_judged OtherLength ring file short = too_short ring file short
short_judged BadHead ring file short = too_short ring file short
short_judged BadRecord ring file short = too_short ring file short
short_judged OutOfMemory ring file short = tt
short_judged DiskFault ring file short = tt

pub fill_fault : (fault : JournalFault) (ring : ℕ) (into file : List ℕ) → length into ≡ RING → Fills (Err fault) 0 into file → JudgesFile (Err fault) ring file
fill_fault NotAJournal ring into file is short = short_judged NotAJournal ring file (omega (arith, is, short))
fill_fault OtherRing ring into file is none = absurd none
fill_fault OtherLength ring into file is none = absurd none
fill_fault BadHead ring into file is none = absurd none
fill_fault BadRecord ring into file is none = absurd none
fill_fault OutOfMemory ring into file is none = absurd none
fill_fault DiskFault ring into file is none = tt

-- the first bytes of a file were read
pub front_read : (done : Unit {0}) (into file : List ℕ) → length into ≡ RING → Fills (Ok done) 0 into file → into ≡ take RING file
front_read done into file is fills =
    let end : 0 + length into ≡ RING = omega (arith, is) in
    fills ∙ ap (λ (n : ℕ). between 0 n file) end ∙ between_from_start file RING
