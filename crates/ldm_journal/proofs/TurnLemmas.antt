-- A commit as a whole: what is left of the records stands by the other head, which then counts.
use Rattle.std.proofs.Common.{◌≡◌, ◌⊎◌, inl, inr, ⊎_elim, ℕ, ◌+◌, ◌-◌, ◌%◌, ◌==◌, ◌^◌, ◌<◌, ◌≤◌, Bool, true, false, not, List, [], ◌∷◌, ◌++◌, length, take, drop, get_or, refl, sym, ◌∙◌, ap, subst, arith}
use Rattle.std.specs.Prelude.{Result, Ok, Err}
use Rattle.std.specs.Int.{w64, from_be_bytes}
use Rattle.std.specs.List.{between}
use Rattle.std.proofs.lemmas.Bool.{cases_lt, cases_eq}
use Rattle.std.proofs.lemmas.List.{append-nil, drop_at, ext_get_or, length-append, take_all}
use Rattle.std.proofs.lemmas.List.Edits.{get_or-between}
use Rattle.std.proofs.lemmas.Slice.{between_is}
use Rattle.std.proofs.lemmas.Nat.{from_be_bytes-to_be_bytes_8}
use Rattle.std.proofs.Math.Nat.{mod-lt}
use Rattle.ldm_outside.specs.declared.fault.Failed.{Failed}
use Rattle.ldm_disk.specs.Told.{FileRecord, IsConsistent, IsSettled}
use Rattle.ldm_disk.specs.Model.{written_at}
use Rattle.ldm_disk.specs.Moments.{LeavesOnly}
use Rattle.ldm_disk.proofs.CrashLemmas.{joined, weaker, settled_leaves, reads}
use Rattle.ldm_journal.specs.declared.places.TheConstants.{SELECT, RING, NOTE}
use Rattle.ldm_journal.specs.declared.marks.Marks.{Marks}
use Rattle.ldm_journal.specs.Records.{Kept, eight, records_of, AreRising}
use Rattle.ldm_journal.specs.Format.{number_at, selected, place_of, front_at, used_at, next_at, note_at, around}
use Rattle.ldm_journal.specs.Standing.{Keeps, Stands}
use Rattle.ldm_journal.specs.Sound.{IsSound}
use Rattle.ldm_journal.specs.Committing.{HoldsEither, IsLeft, IsSelecting, Selects, Turns, WritesHead, head_bytes_of, select_byte, turned}
use Rattle.ldm_journal.proofs.Around.{around_same, around-add, around-mod, drop-around, length-between', get_or-written, get_or-written_other, length-written, take_same}
use Rattle.ldm_journal.proofs.CommitLemmas.{length-head_bytes}
use Rattle.ldm_journal.proofs.KeepLemmas.{Agrees, KeepsBy, by_marks, from_marks, keeps_by, head_within}
use Rattle.ldm_journal.proofs.RecordLemmas.{records-append}

-- some bytes of a piece that was written
between_written : (at i n : ℕ) (piece bytes : List ℕ) → at + length piece ≤ length bytes → i + n ≤ length piece
    → between (at + i) (at + i + n) (written_at at piece bytes) ≡ between i (i + n) piece
between_written at i n piece bytes within fits =
    let now = written_at at piece bytes in
    let long = length-written at piece bytes within in
    let la = length-between' (at + i) (at + i + n) now in
    let lb = length-between' i (i + n) piece in
    ext_get_or 0 (between (at + i) (at + i + n) now) (between i (i + n) piece) (omega (arith, la, lb, long, within, fits))
    (λ k less.
    let lt : k < n = omega (arith, less, la) in
    let sum : at + i + k ≡ at + (i + k) = omega arith in
    get_or-between now (at + i) (at + i + n) k 0 (omega (arith, lt))
    ∙ ap (λ (m : ℕ). get_or now m 0) sum
    ∙ get_or-written at piece bytes (i + k) within (omega (arith, lt, fits))
    ∙ sym (get_or-between piece i (i + n) k 0 (omega (arith, lt))))

number_written : (at i : ℕ) (piece bytes : List ℕ) → at + length piece ≤ length bytes → i + 8 ≤ length piece
    → number_at (at + i) (written_at at piece bytes) ≡ number_at i piece
unfolding number_at
number_written at i piece bytes within fits = ap (λ (l : List ℕ). from_be_bytes w64 l) (between_written at i 8 piece bytes within fits)

-- the three numbers of a head
first_number : (a b c : ℕ) (note : List ℕ) → a < 2 ^ 64 → number_at 0 (eight a ++ eight b ++ eight c ++ note) ≡ a
unfolding number_at
first_number a b c note fits = from_be_bytes-to_be_bytes_8 a fits

second_number : (a b c : ℕ) (note : List ℕ) → b < 2 ^ 64 → number_at 8 (eight a ++ eight b ++ eight c ++ note) ≡ b
unfolding number_at
second_number a b c note fits = from_be_bytes-to_be_bytes_8 b fits

third_number : (a b c : ℕ) (note : List ℕ) → c < 2 ^ 64 → number_at 16 (eight a ++ eight b ++ eight c ++ note) ≡ c
unfolding number_at
third_number a b c note fits = from_be_bytes-to_be_bytes_8 c fits

-- and its note
note_behind : (numbers note : List ℕ) (n : ℕ) → length numbers ≡ 24 → length note ≡ n → between 24 (24 + n) (numbers ++ note) ≡ note
note_behind numbers note n count long =
    let whole : length (numbers ++ note) ≤ 24 + n = omega (arith, length-append numbers note, count, long) in
    between_is (numbers ++ note) 24 (24 + n) ∙ ap (λ (l : List ℕ). drop 24 l) (take_all (24 + n) (numbers ++ note) whole) ∙ drop_at numbers note 24 count

around_none : (ring from : ℕ) (file : List ℕ) → around ring from 0 file ≡ []
unfolding around
around_none ring from file = refl

-- two truth values
same_or_other : (a b : Bool) → (a ≡ b) ⊎ (a ≡ not b)
same_or_other false false = inl refl
same_or_other false true = inr refl
same_or_other true false = inr refl
same_or_other true true = inl refl

selects : (odd : Bool) → (select_byte odd % 2 == 1) ≡ odd
selects false = refl
selects true = refl

selected_is : (file : List ℕ) (byte : ℕ) (odd : Bool) → get_or file SELECT 0 ≡ byte → (byte % 2 == 1) ≡ odd → selected file ≡ odd
unfolding selected
selected_is file byte odd is parity = ap (λ (b : ℕ). b % 2 == 1) is ∙ parity

module _ (before : Marks) (kept appended left : List Kept) (dropped : ℕ) (note : List ℕ) (noted : length note ≡ NOTE) (sound : IsSound before) (le : dropped ≤ before.used + before.appended)
    (is_left : IsLeft dropped before kept appended left) (old : FileRecord) (consistent : IsConsistent old) (stands : Stands before kept appended old) where
  abbrev next : Marks
  next = turned dropped note before

  read : Keeps before kept old.bytes
  read = stands.crash old.bytes consistent.reads

  read_by : KeepsBy before kept old.bytes
  read_by = by_marks before kept old.bytes read

  long : length old.bytes ≡ RING + before.ring
  long = read.holds.long

  -- all records, as the file reads
  all : around before.ring before.front (before.used + before.appended) old.bytes ≡ records_of (kept ++ appended)
  all =
      let k = read_by in
      let first : around before.ring before.front before.used old.bytes ≡ records_of kept =
      ap (λ (n : ℕ). around before.ring n before.used old.bytes) (sym k.front)
      ∙ ap (λ (n : ℕ). around before.ring (front_at (place_of before.odd) old.bytes) n old.bytes) (sym k.used)
      ∙ k.holds.records in
      around-add before.ring before.front before.used before.appended old.bytes
      ∙ ap (λ (l : List ℕ). l ++ around before.ring (before.front + before.used) before.appended old.bytes) first
      ∙ ap (λ (l : List ℕ). records_of kept ++ l) stands.behind
      ∙ sym (records-append kept appended)

  head_fits : place_of (not before.odd) + length (head_bytes_of (turned dropped note before)) ≤ length old.bytes
  head_fits = let other = head_within (not before.odd) in omega (arith, other.1, long, length-head_bytes next noted)

  -- the file with the other head written
  abbrev base : List ℕ
  base = written_at (place_of (not before.odd)) (head_bytes_of (turned dropped note before)) old.bytes

  base_long : length base ≡ RING + before.ring
  base_long = length-written (place_of (not before.odd)) (head_bytes_of next) old.bytes head_fits ∙ long

  front_written : front_at (place_of (not before.odd)) base ≡ (before.front + dropped) % before.ring
  front_written =
      let at = place_of (not before.odd) in
      let none : at ≡ at + 0 = omega arith in
      let small : (before.front + dropped) % before.ring < before.ring = mod-lt (before.front + dropped) {m = before.ring} (omega (arith, sound.1)) in
      ap (λ (n : ℕ). number_at n base) none ∙ number_written at 0 (head_bytes_of next) old.bytes head_fits (omega (arith, length-head_bytes next noted))
      ∙ first_number next.front next.used next.next note (omega (arith, small, sound.0))

  used_written : used_at (place_of (not before.odd)) base ≡ before.used + before.appended - dropped
  used_written =
      number_written (place_of (not before.odd)) 8 (head_bytes_of next) old.bytes head_fits (omega (arith, length-head_bytes next noted))
      ∙ second_number next.front next.used next.next note (omega (arith, sound.0, sound.2))

  next_written : next_at (place_of (not before.odd)) base ≡ before.next
  next_written =
      number_written (place_of (not before.odd)) 16 (head_bytes_of next) old.bytes head_fits (omega (arith, length-head_bytes next noted))
      ∙ third_number next.front next.used next.next note sound.3

  note_written : note_at (place_of (not before.odd)) base ≡ note
  note_written =
      between_written (place_of (not before.odd)) 24 NOTE (head_bytes_of next) old.bytes head_fits (omega (arith, length-head_bytes next noted))
      ∙ note_behind (eight next.front ++ eight next.used ++ eight next.next) note NOTE refl noted

  ring_stays : (from count : ℕ) → around before.ring from count base ≡ around before.ring from count old.bytes
  ring_stays from count =
      let other = head_within (not before.odd) in
      around_same before.ring from count old.bytes base
      (λ i less. get_or-written_other (place_of (not before.odd)) (head_bytes_of next) old.bytes (RING + (from + i) % before.ring) head_fits (inr (omega (arith, other.1, length-head_bytes next noted))))

  opening_stays : take 24 base ≡ take 24 old.bytes
  opening_stays =
      let other = head_within (not before.odd) in
      take_same 24 old.bytes base (base_long ∙ sym long)
      (λ q less. get_or-written_other (place_of (not before.odd)) (head_bytes_of next) old.bytes q head_fits (inl (omega (arith, less, other.0))))

  pub left_by : KeepsBy next left base
  left_by =
      let small : (before.front + dropped) % before.ring < before.ring = mod-lt (before.front + dropped) {m = before.ring} (omega (arith, sound.1)) in
      record {
        holds = record {
          opened = opening_stays ∙ read.holds.opened;
          long = base_long;
          front = omega (arith, front_written, small);
          used = omega (arith, used_written, sound.2);
          records = ap (λ (n : ℕ). around before.ring n (used_at (place_of (not before.odd)) base) base) front_written
              ∙ ap (λ (n : ℕ). around before.ring ((before.front + dropped) % before.ring) n base) used_written
              ∙ around-mod before.ring (before.front + dropped) (before.used + before.appended - dropped) base
              ∙ ring_stays (before.front + dropped) (before.used + before.appended - dropped)
              ∙ sym (drop-around before.ring before.front (before.used + before.appended) dropped old.bytes le)
              ∙ ap (λ (l : List ℕ). drop dropped l) all
              ∙ sym is_left.records;
          lawful = is_left.lawful;
          rising = subst (λ (n : ℕ). AreRising 0 left n) (sym next_written) is_left.rising;
          noted = note_written;
        };
        front = front_written;
        used = used_written;
      }

  -- bytes that only the selecting byte may differ in
  agrees : (odd : Bool) (bytes after : List ℕ) (front used : ℕ) → length bytes ≡ RING + before.ring → IsSelecting bytes after → Agrees (place_of odd) before.ring bytes after
  agrees odd bytes after front used whole selecting =
      let head = head_within odd in
      record {
        long = selecting.long;
        opening = λ q less. selecting.same q (omega (arith, less, whole)) (λ is. omega (arith, is, less));
        head = λ q from less. selecting.same q (omega (arith, less, whole, head.1)) (λ is. omega (arith, is, from, head.0));
        records = λ i less.
            (let p = (front_at (place_of odd) bytes + i) % before.ring in
            let inside : p < before.ring = mod-lt (front_at (place_of odd) bytes + i) {m = before.ring} (omega (arith, sound.1)) in
            selecting.same (RING + p) (omega (arith, whole, inside)) (λ is. omega (arith, is)));
      }

  -- whatever byte selects, one of the two lists is kept
  either : (bytes after : List ℕ) → KeepsBy before kept bytes → KeepsBy next left bytes → IsSelecting bytes after → HoldsEither before.ring kept before.note left note after
  either bytes after first other selecting =
      let a = keeps_by before kept bytes after (agrees before.odd bytes after 0 0 first.holds.long selecting) first in
      let b = keeps_by next left bytes after (agrees (not before.odd) bytes after 0 0 first.holds.long selecting) other in
      ⊎_elim (λ same. inl (from_marks before kept after same a).holds) (λ turned. inr (from_marks next left after turned b).holds) (same_or_other (selected after) before.odd)

  pub turned_whole : (done : Unit {0}) (result : Result (Unit {0}) Failed) (mid new : FileRecord) → IsConsistent mid
      → WritesHead (Ok done) (turned dropped note before) old mid → Selects result (not before.odd) mid new
      → LeavesOnly (HoldsEither before.ring kept before.note left note) old mid × KeepsBy before kept mid.bytes × KeepsBy (turned dropped note before) left mid.bytes × IsSettled mid × (SELECT < length mid.bytes)
  turned_whole done result mid new mid_consistent wrote selects_it =
      let w = wrote before kept sound refl stands.crash in
      let first : Keeps before kept mid.bytes = reads (Keeps before kept) old mid mid_consistent w.0 in (
        weaker (Keeps before kept) (HoldsEither before.ring kept before.note left note) (λ l keeps. inl keeps.holds) old mid w.0,
        by_marks before kept mid.bytes first,
        subst (λ (bytes : List ℕ). KeepsBy (turned dropped note before) left bytes) (sym w.2) left_by,
        w.1,
        omega (arith, first.holds.long),
      )

  pub turn_selected : (done so : Unit {0}) (mid new : FileRecord) → IsConsistent mid → WritesHead (Ok done) (turned dropped note before) old mid
      → Selects (Ok so) (not before.odd) mid new
      → Stands (turned dropped note before) left [] new × IsSettled new × LeavesOnly (HoldsEither before.ring kept before.note left note) old new
  turn_selected done so mid new mid_consistent wrote selects_it =
      let t = turned_whole done (Ok so) mid new mid_consistent wrote selects_it in
      let s = selects_it t.3 t.4 in
      let byte = select_byte (not before.odd) in
      let within : SELECT + length (byte ∷ []) ≤ length mid.bytes = omega (arith, t.4) in
      let now = written_at SELECT (byte ∷ []) mid.bytes in
      let only : IsSelecting mid.bytes now = record {
        long = length-written SELECT (byte ∷ []) mid.bytes within;
        same = λ place inside other.
            get_or-written_other SELECT (byte ∷ []) mid.bytes place within
            (elim (cases_lt place SELECT) [
              | inl below ↦ inl below
              | inr above ↦ elim (cases_eq place SELECT) [ inl at ↦ absurd (other at) | inr not_at ↦ inr (omega (arith, above, not_at)) ]
            ]);
      } in
      let there : get_or now SELECT 0 ≡ byte =
      (let none : SELECT ≡ SELECT + 0 = omega arith in ap (λ (n : ℕ). get_or now n 0) none ∙ get_or-written SELECT (byte ∷ []) mid.bytes 0 within (omega arith)) in
      let keeps : Keeps (turned dropped note before) left now =
      from_marks (turned dropped note before) left now (selected_is now byte (not before.odd) there (selects (not before.odd)))
      (keeps_by (turned dropped note before) left mid.bytes now (agrees (not before.odd) mid.bytes now 0 0 t.1.holds.long only) t.2) in
      let keeps_new : Keeps (turned dropped note before) left new.bytes = subst (λ (bytes : List ℕ). Keeps (turned dropped note before) left bytes) (sym s.2) keeps in (
        record {
          crash = settled_leaves (Keeps (turned dropped note before) left) new s.1 keeps_new;
          behind = around_none before.ring (next.front + next.used) new.bytes;
          lawful = tt;
          rising = subst (λ (l : List Kept). AreRising 0 l before.next) (sym (append-nil left)) is_left.rising;
        },
        s.1,
        joined (HoldsEither before.ring kept before.note left note) old mid new t.0
            (weaker (IsSelecting mid.bytes) (HoldsEither before.ring kept before.note left note) (λ l selecting. either mid.bytes l t.1 t.2 selecting) mid new s.0),
      )

  pub turn_not_selected : (done : Unit {0}) (failed : Failed) (mid new : FileRecord) → IsConsistent mid → WritesHead (Ok done) (turned dropped note before) old mid
      → Selects (Err failed) (not before.odd) mid new → LeavesOnly (HoldsEither before.ring kept before.note left note) old new
  turn_not_selected done failed mid new mid_consistent wrote selects_it =
      let t = turned_whole done (Err failed) mid new mid_consistent wrote selects_it in
      joined (HoldsEither before.ring kept before.note left note) old mid new t.0
      (weaker (IsSelecting mid.bytes) (HoldsEither before.ring kept before.note left note) (λ l selecting. either mid.bytes l t.1 t.2 selecting) mid new (selects_it t.3 t.4))

  pub turn_not_written : (failed : Failed) (new : FileRecord) → WritesHead (Err failed) (turned dropped note before) old new → LeavesOnly (HoldsEither before.ring kept before.note left note) old new
  turn_not_written failed new wrote =
      weaker (Keeps before kept) (HoldsEither before.ring kept before.note left note) (λ l keeps. inl keeps.holds) old new (wrote before kept sound refl stands.crash)

-- as clauses say it
pub turns : (dropped : ℕ) (note : List ℕ) → length note ≡ NOTE → (before : Marks) (done so : Unit {0}) (old mid new : FileRecord) → IsSound before → dropped ≤ before.used + before.appended
    → IsConsistent old → IsConsistent mid → WritesHead (Ok done) (turned dropped note before) old mid → Selects (Ok so) (not before.odd) mid new
    → Turns (Ok so) dropped note before (turned dropped note before) old new
turns dropped note noted before done so old mid new sound le consistent mid_consistent wrote selects_it kept appended left stands is_left =
    turn_selected before kept appended left dropped note noted sound le is_left old consistent stands done so mid new mid_consistent wrote selects_it

pub turns_not_selected : (dropped : ℕ) (note : List ℕ) → length note ≡ NOTE → (before after : Marks) (done : Unit {0}) (failed : Failed) (old mid new : FileRecord) → IsSound before → dropped ≤ before.used + before.appended
    → IsConsistent old → IsConsistent mid → WritesHead (Ok done) (turned dropped note before) old mid → Selects (Err failed) (not before.odd) mid new
    → Turns (Err failed) dropped note before after old new
turns_not_selected dropped note noted before after done failed old mid new sound le consistent mid_consistent wrote selects_it kept appended left stands is_left =
    turn_not_selected before kept appended left dropped note noted sound le is_left old consistent stands done failed mid new mid_consistent wrote selects_it

pub turns_not_written : (dropped : ℕ) (note : List ℕ) → length note ≡ NOTE → (before after : Marks) (failed : Failed) (old new : FileRecord) → IsSound before → dropped ≤ before.used + before.appended
    → IsConsistent old → WritesHead (Err failed) (turned dropped note before) old new → Turns (Err failed) dropped note before after old new
turns_not_written dropped note noted before after failed old new sound le consistent wrote kept appended left stands is_left =
    turn_not_written before kept appended left dropped note noted sound le is_left old consistent stands failed new wrote
