-- Making a journal in an empty file.
use Rattle.std.proofs.Common.{◌≡◌, inl, inr, ⊎_elim, ℕ, ◌+◌, ◌-◌, ◌%◌, ◌==◌, ◌<◌, ◌≤◌, min, max, true, false, List, [], ◌∷◌, ◌++◌, length, take, replicate, get_or, refl, sym, ◌∙◌, ap, subst, arith}
use Rattle.std.specs.Prelude.{Result, Ok, Err}
use Rattle.std.specs.Int.{w64, from_be_bytes}
use Rattle.std.specs.List.{between}
use Rattle.std.proofs.lemmas.List.Edits.{get_or-between}
use Rattle.std.proofs.lemmas.List.{append-nil, length-append, length-take, length-replicate, take-take, take_at, get_or-append_right, get_or-replicate, get_or-take, ext_get_or, drop_all}
use Rattle.ldm_outside.specs.declared.fault.Failed.{Failed}
use Rattle.ldm_disk.specs.Told.{FileRecord, IsConsistent, IsSettled}
use Rattle.ldm_disk.specs.Model.{Step, IsStep, Torn, Written, PartlyWritten, Cut, written_at, cut_to, end_of_piece}
use Rattle.ldm_disk.specs.Moments.{Goes, LeavesOnly}
use Rattle.ldm_disk.specs.Calls.{WritesFile, CutsFile, SyncsFile}
use Rattle.ldm_disk.proofs.CrashLemmas.{started, goes_on, joined, weaker, follows_settled, stays_keeps, settled_leaves}
use Rattle.ldm_journal.specs.declared.places.TheConstants.{SELECT, HEAD_A, RING, NOTE}
use Rattle.ldm_journal.specs.Format.{opening, number_at, selected, front_at, used_at, note_at, no_note, zeros, around}
use Rattle.ldm_journal.specs.Standing.{Keeps}
use Rattle.ldm_journal.specs.Making.{first_marks, first_front, LeftOfMaking, Lays, Widens, Makes}
use Rattle.ldm_journal.proofs.Around.{length-between'}
use Rattle.ldm_journal.proofs.KeepLemmas.{from_marks}
use Rattle.ldm_journal.proofs.OpenLemmas.{between_in_front, number_in_front, selected_in_front}

pub length-zeros : (n : ℕ) → length (zeros n) ≡ n
unfolding zeros
length-zeros n = length-replicate {A = ℕ} n 0

get_or-zeros : (n i : ℕ) → i < n → get_or (zeros n) i 0 ≡ 0
unfolding zeros
get_or-zeros n i less = get_or-replicate n i 0 0 less

number_of_zeros : from_be_bytes w64 (zeros 8) ≡ 0
unfolding zeros
number_of_zeros = refl

length-front : (ring : ℕ) → length (first_front ring) ≡ RING
length-front ring = let count : length (opening ring) ≡ 24 = refl in omega (arith, length-append (opening ring) (zeros 12264), length-zeros 12264, count)

front_begins : (ring : ℕ) → take 24 (first_front ring) ≡ opening ring
front_begins ring = take_at (opening ring) (zeros 12264) 24 refl

-- bytes behind the opening
zero_behind : (ring q : ℕ) → 24 ≤ q → q < RING → get_or (first_front ring) q 0 ≡ 0
zero_behind ring q from to = get_or-append_right (opening ring) (zeros 12264) 24 q 0 refl from ∙ get_or-zeros 12264 (q - 24) (omega (arith, from, to))

zeros_behind : (ring from n : ℕ) → 24 ≤ from → from + n ≤ RING → between from (from + n) (first_front ring) ≡ zeros n
zeros_behind ring from n low high =
    let la = length-between' from (from + n) (first_front ring) in
    let lb = length-zeros n in
    ext_get_or 0 (between from (from + n) (first_front ring)) (zeros n) (omega (arith, la, lb, length-front ring, high))
    (λ k less.
    let lt : k < n = omega (arith, less, la) in
    get_or-between (first_front ring) from (from + n) k 0 (omega (arith, lt))
    ∙ zero_behind ring (from + k) (omega (arith, low)) (omega (arith, lt, high))
    ∙ sym (get_or-zeros n k lt))

front_even : (ring : ℕ) → selected (first_front ring) ≡ false
unfolding selected
front_even ring = ap (λ (byte : ℕ). byte % 2 == 1) (zero_behind ring SELECT (omega arith) (omega arith))

front_number : (ring place : ℕ) → 24 ≤ place → place + 8 ≤ RING → number_at place (first_front ring) ≡ 0
unfolding number_at
front_number ring place low high = ap (λ (l : List ℕ). from_be_bytes w64 l) (zeros_behind ring place 8 low high) ∙ number_of_zeros

around_none : (ring from : ℕ) (file : List ℕ) → around ring from 0 file ≡ []
unfolding around
around_none ring from file = refl

-- a file that begins as a new journal does, and has its length
pub keeps_nothing : (ring : ℕ) (file : List ℕ) → 0 < ring → length file ≡ RING + ring → ((q : ℕ) → q < RING → get_or file q 0 ≡ get_or (first_front ring) q 0)
    → Keeps (first_marks ring) [] file
keeps_nothing ring file some long same =
    let count : length (take RING file) ≡ RING = omega (arith, length-take RING file, long) in
    let front : take RING file ≡ first_front ring =
    ext_get_or 0 (take RING file) (first_front ring) (count ∙ sym (length-front ring))
    (λ i within. let lt : i < RING = omega (arith, within, count) in get_or-take RING file i 0 lt ∙ same i lt) in
    let head = HEAD_A in
    let number : (place : ℕ) → 24 ≤ place → place + 8 ≤ RING → number_at place file ≡ 0 =
    λ place low high. sym (number_in_front place file high) ∙ ap (λ (l : List ℕ). number_at place l) front ∙ front_number ring place low high in
    let f : front_at head file ≡ 0 = number head (omega arith) (omega arith) in
    let u : used_at head file ≡ 0 = number (head + 8) (omega arith) (omega arith) in
    let n : note_at head file ≡ no_note =
    sym (between_in_front (head + 24) (head + 24 + NOTE) file (omega arith)) ∙ ap (λ (l : List ℕ). note_at head l) front
    ∙ zeros_behind ring (head + 24) NOTE (omega arith) (omega arith) in
    let even : selected file ≡ false = sym (selected_in_front file) ∙ ap selected front ∙ front_even ring in
    from_marks (first_marks ring) [] file even
    (record {
      holds = record {
        opened = sym (take-take 24 RING file (omega arith)) ∙ ap (λ (l : List ℕ). take 24 l) front ∙ front_begins ring;
        long = long;
        front = omega (arith, f, some);
        used = omega (arith, u);
        records = ap (λ (n : ℕ). around ring (front_at head file) n file) u ∙ around_none ring (front_at head file) file;
        lawful = tt;
        rising = omega arith;
        noted = n;
      };
      front = f;
      used = u;
    })

end_le : (at : ℕ) (piece : List ℕ) → end_of_piece at piece ≤ at + length piece
end_le at [] = omega arith
end_le at (byte ∷ rest) = omega arith

written_on_nothing : (piece : List ℕ) → written_at 0 piece [] ≡ piece
written_on_nothing [] = refl
written_on_nothing (byte ∷ rest) =
    ap (λ (l : List ℕ). (byte ∷ rest) ++ l) (drop_all (0 + length (byte ∷ rest)) [] (omega arith)) ∙ append-nil (byte ∷ rest)

abbrev Short : List ℕ → Type 0
Short left = length left ≤ RING

lay_torn : (ring start end : ℕ) (before after : List ℕ) → before ≡ [] → end ≤ RING → Torn start end (max (length before) end) before after → Short after
lay_torn ring start end before after none le torn =
    let zero : length before ≡ 0 = ap length none in
    ⊎_elim (λ same. omega (arith, same, zero)) (λ new. omega (arith, new, zero, le)) torn.long

lay_goes : (step : Step) (old mid : FileRecord) → IsConsistent old → IsSettled old → old.bytes ≡ [] → ((after : List ℕ) → IsStep step old.bytes after → Short after)
    → Goes step old mid → LeavesOnly Short old mid × ((left : List ℕ) → mid.may_leave left ≡ true → Short left)
lay_goes step old mid consistent settled none torn goes =
    let now = follows_settled Short step old mid settled goes.crash torn in
    let zero : length old.bytes ≡ 0 = ap length none in
    (goes_on Short old old mid (started Short old consistent (settled_leaves Short old settled (omega (arith, zero)))) goes.time now, now)

pub laid : (result : Result (Unit {0}) Failed) (done : Unit {0}) (ring : ℕ) (old mid new : FileRecord) → IsConsistent old
    → WritesFile (Ok done) 0 (first_front ring) old mid → SyncsFile result mid new → Lays result ring old new
laid (Ok so) done ring old mid new consistent wrote sync = λ none settled.
    let first = lay_goes (Written (min 0 (length old.bytes)) (end_of_piece 0 (first_front ring))) old mid consistent settled none
    (λ after step. lay_torn ring (min 0 (length old.bytes)) (end_of_piece 0 (first_front ring)) old.bytes after none (omega (arith, end_le 0 (first_front ring), length-front ring)) step) wrote.1 in (
      goes_on Short old mid new first.0 sync.1.goes.time (stays_keeps Short mid new first.1 sync.1.goes.crash),
      sync.1.settled,
      sync.0 ∙ wrote.0 ∙ ap (λ (bytes : List ℕ). written_at 0 (first_front ring) bytes) none ∙ written_on_nothing (first_front ring),
    )
laid (Err failed) done ring old mid new consistent wrote goes = λ none settled.
    let first = lay_goes (Written (min 0 (length old.bytes)) (end_of_piece 0 (first_front ring))) old mid consistent settled none
    (λ after step. lay_torn ring (min 0 (length old.bytes)) (end_of_piece 0 (first_front ring)) old.bytes after none (omega (arith, end_le 0 (first_front ring), length-front ring)) step) wrote.1 in
    goes_on Short old mid new first.0 goes.time (stays_keeps Short mid new first.1 goes.crash)

pub not_laid : (failed : Failed) (ring : ℕ) (old new : FileRecord) → IsConsistent old → WritesFile (Err failed) 0 (first_front ring) old new → Lays (Err failed) ring old new
not_laid failed ring old new consistent goes = λ none settled.
    (lay_goes (PartlyWritten (min 0 (length old.bytes)) (end_of_piece 0 (first_front ring))) old new consistent settled none
    (λ after step. lay_torn ring (min 0 (length old.bytes)) step.0 old.bytes after none (omega (arith, step.1, end_le 0 (first_front ring), length-front ring)) step.2) goes).0

-- the ring was put behind, or not yet
widen_torn : (ring : ℕ) (before after : List ℕ) → 0 < ring → before ≡ first_front ring → Torn (length before) (RING + ring) (RING + ring) before after → LeftOfMaking ring after
widen_torn ring before after some is torn =
    let long : length before ≡ RING = ap length is ∙ length-front ring in
    ⊎_elim (λ same. inl (λ whole. omega (arith, same, long, whole, some)))
    (λ whole.
    inr
    (keeps_nothing ring after some whole
    (λ q less. torn.stays q (omega (arith, less, long)) (omega (arith, less, whole)) (inl (omega (arith, less, long))) ∙ ap (λ (l : List ℕ). get_or l q 0) is)))
    torn.long

widen_goes : (ring : ℕ) (old mid : FileRecord) → 0 < ring → IsConsistent old → IsSettled old → old.bytes ≡ first_front ring → Goes (Cut (length old.bytes) (RING + ring)) old mid
    → LeavesOnly (LeftOfMaking ring) old mid × ((left : List ℕ) → mid.may_leave left ≡ true → LeftOfMaking ring left)
widen_goes ring old mid some consistent settled is goes =
    let P = LeftOfMaking ring in
    let now = follows_settled P (Cut (length old.bytes) (RING + ring)) old mid settled goes.crash (λ after step. widen_torn ring old.bytes after some is step) in
    let long : length old.bytes ≡ RING = ap length is ∙ length-front ring in
    let here : P old.bytes = inl (λ whole. omega (arith, long, whole, some)) in
    (goes_on P old old mid (started P old consistent (settled_leaves P old settled here)) goes.time now, now)

whole_after : (ring : ℕ) (bytes : List ℕ) → bytes ≡ first_front ring → length (cut_to (RING + ring) bytes) ≡ RING + ring
whole_after ring bytes is =
    let long : length bytes ≡ RING = ap length is ∙ length-front ring in
    omega (
      arith,
      length-append (take (RING + ring) bytes) (replicate (RING + ring - length bytes) 0),
      length-take (RING + ring) bytes,
      length-replicate {A = ℕ} (RING + ring - length bytes) 0,
      long,
    )

pub widened : (result : Result (Unit {0}) Failed) (done : Unit {0}) (ring : ℕ) (old mid new : FileRecord) → 0 < ring → IsConsistent old → IsConsistent mid
    → CutsFile (Ok done) (RING + ring) old mid → SyncsFile result mid new → Widens result ring old new
widened (Ok so) done ring old mid new some consistent mid_consistent cut sync = λ is settled.
    let P = LeftOfMaking ring in
    let first = widen_goes ring old mid some consistent settled is cut.1 in
    let whole : length mid.bytes ≡ RING + ring = ap length cut.0 ∙ whole_after ring old.bytes is in
    let keeps : Keeps (first_marks ring) [] mid.bytes = ⊎_elim (λ other. absurd (other whole)) (λ keeps. keeps) (first.1 mid.bytes mid_consistent.reads) in (
      goes_on P old mid new first.0 sync.1.goes.time (stays_keeps P mid new first.1 sync.1.goes.crash),
      sync.1.settled,
      subst (λ (bytes : List ℕ). Keeps (first_marks ring) [] bytes) (sym sync.0) keeps,
    )
widened (Err failed) done ring old mid new some consistent mid_consistent cut goes = λ is settled.
    let P = LeftOfMaking ring in
    let first = widen_goes ring old mid some consistent settled is cut.1 in
    goes_on P old mid new first.0 goes.time (stays_keeps P mid new first.1 goes.crash)

pub not_widened : (failed : Failed) (ring : ℕ) (old new : FileRecord) → 0 < ring → IsConsistent old → CutsFile (Err failed) (RING + ring) old new → Widens (Err failed) ring old new
not_widened failed ring old new some consistent goes = λ is settled. (widen_goes ring old new some consistent settled is goes).0

short_of_making : (ring : ℕ) (left : List ℕ) → 0 < ring → Short left → LeftOfMaking ring left
short_of_making ring left some short = inl (λ whole. omega (arith, short, whole, some))

pub makes : (result : Result (Unit {0}) Failed) (done : Unit {0}) (ring : ℕ) (old mid new : FileRecord) → 0 < ring → Lays (Ok done) ring old mid → Widens result ring mid new
    → Makes result ring old new
makes (Ok so) done ring old mid new some lays widens = λ none settled.
    let a = lays none settled in
    let b = widens a.2 a.1 in
    (joined (LeftOfMaking ring) old mid new (weaker Short (LeftOfMaking ring) (λ left short. short_of_making ring left some short) old mid a.0) b.0, b.1, b.2)
makes (Err failed) done ring old mid new some lays widens = λ none settled.
    let a = lays none settled in
    joined (LeftOfMaking ring) old mid new (weaker Short (LeftOfMaking ring) (λ left short. short_of_making ring left some short) old mid a.0) (widens a.2 a.1)

pub not_made : (failed : Failed) (ring : ℕ) (old new : FileRecord) → 0 < ring → Lays (Err failed) ring old new → Makes (Err failed) ring old new
not_made failed ring old new some lays = λ none settled.
    weaker Short (LeftOfMaking ring) (λ left short. short_of_making ring left some short) old new (lays none settled)
