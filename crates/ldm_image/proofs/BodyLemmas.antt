-- What a crash leaves while all bytes of an image but its gate are written, and what then stands in the file.
use Rattle.std.proofs.Common.{◌≡◌, ◌⊎◌, inl, inr, ⊎_elim, ℕ, zero, suc, ◌+◌, ◌-◌, ◌<◌, ◌≤◌, min, max, true, List, [], ◌∷◌, ◌++◌, length, take, drop, replicate, refl, sym, ◌∙◌, ap, subst, arith}
use Rattle.std.specs.Prelude.{slice_get, flat_map, map, get_or, Result, Ok, Err, Some, None}
use Rattle.std.specs.List.{between}
use Rattle.std.specs.Result.{IsErr}
use Rattle.std.specs.Global.{Vec}
use Rattle.std.proofs.lemmas.List.Concat.{flat_map-append}
use Rattle.std.proofs.lemmas.List.Edits.{between_more}
use Rattle.std.proofs.lemmas.List.{append-nil, append_assoc, length-append, length-take-le, take_all, take_at, take-take, take-append-drop, drop-take}
use Rattle.ldm_outside.specs.declared.fault.Failed.{Failed}
use Rattle.ldm_disk.specs.Told.{FileRecord, IsConsistent}
use Rattle.ldm_disk.specs.Model.{Step, IsStep, Stays, Torn, Written, PartlyWritten, Cut, written_at, cut_to, end_of_piece}
use Rattle.ldm_disk.specs.Moments.{Goes}
use Rattle.ldm_disk.specs.Calls.{WritesFile, CutsFile, SyncsFile}
use Rattle.ldm_disk.proofs.CrashLemmas.{started, goes_on, joined, weaker, follows_keeps, settled_leaves, reads, leaves_now}
use Rattle.ldm_book.specs.declared.restoring.RowNote.{RowNote}
use Rattle.ldm_book.specs.View.{BookView, Kept}
use Rattle.ldm_book.specs.Restoring.{note_of}
use Rattle.ldm_image.specs.Image.{head_bytes, row_bytes, eight}
use Rattle.ldm_image.specs.Gates.{HasGate}
use Rattle.ldm_image.specs.Bodies.{Appends, gate_of, front, sizes_of, head_up_to, between_rows, IsBeing, IsShut, KeepsGate, WritesMore, Begins, WritesHead, Finishes, Ends, WritesBody, IsWriting}

-- two pieces were appended, one after another
pub appended : (old mid new : Vec ℕ) (first next : List ℕ) → Appends old mid first → Appends mid new next → Appends old new (first ++ next)
appended old mid new first next a b = record {
  items = b.items ∙ ap (λ (l : List ℕ). l ++ next) a.items ∙ append_assoc old.items first next;
  len = omega (arith, a.len, b.len, length-append first next);
  capacity = omega (arith, a.capacity, b.capacity);
}

-- what tears a range beside the gate keeps it
torn_beside : (gate start end len : ℕ) (before after : List ℕ) → (5 < start) ⊎ (end ≤ 5) → 5 < len → HasGate (Some gate) before → Torn start end len before after
    → HasGate (Some gate) after
torn_beside gate start end len before after beside long has torn =
    let longer : 5 < length after = ⊎_elim (λ same. omega (arith, same, has.0)) (λ new. omega (arith, new, long)) torn.long in
    (longer, torn.stays 5 has.0 longer beside ∙ has.1)

-- the steps of the calls that write beside the gate
abbrev IsBeside : Step → Type 0
IsBeside Stays = Unit {0}
IsBeside (Written start end) = (5 < start) ⊎ (end ≤ 5)
IsBeside (PartlyWritten start end) = (5 < start) ⊎ (end ≤ 5)
IsBeside (Cut start len) = (5 < start) × (5 < len)

step_keeps : (gate : ℕ) (step : Step) → IsBeside step → (before after : List ℕ) → HasGate (Some gate) before → IsStep step before after → HasGate (Some gate) after
step_keeps gate Stays beside before after has is = subst (HasGate (Some gate)) (sym is) has
step_keeps gate (Written start end) beside before after has is =
    torn_beside gate start end (max (length before) end) before after beside (omega (arith, has.0)) has is
step_keeps gate (PartlyWritten start end) beside before after has is =
    torn_beside gate start is.0 (max (length before) is.0) before after (⊎_elim (λ b. inl b) (λ e. inr (omega (arith, e, is.1))) beside)
    (omega (arith, has.0)) has is.2
step_keeps gate (Cut start len) beside before after has is = torn_beside gate start len len before after (inl beside.0) beside.1 has is

-- one call more beside the gate
abbrev Gated : FileRecord → List ℕ → Type 0
Gated old left = HasGate (Some (gate_of old.bytes)) left

next_goes : (start old new : FileRecord) (step : Step) → IsConsistent old → IsBeside step → KeepsGate start old → Goes step old new → KeepsGate start new
next_goes start old new step consistent beside so_far goes =
    let P = Gated start in
    goes_on P start old new so_far goes.time
    (follows_keeps P step old new (step_keeps (gate_of start.bytes) step beside) (leaves_now P start old consistent so_far) goes.crash)

first_goes : (at : ℕ) (old : FileRecord) → IsConsistent old → IsBeing at old → KeepsGate old old
first_goes at old consistent being = started (Gated old) old consistent being.gates

-- what is settled and has a gate leaves it
being_shut : (old : FileRecord) → IsShut old → (left : List ℕ) → old.may_leave left ≡ true → Gated old left
being_shut old shut = settled_leaves (Gated old) old shut.settled (shut.long, refl)

-- a piece behind what stands
written_behind : (at : ℕ) (piece bytes : List ℕ) → at ≤ length bytes
    → (at + length piece ≤ length (written_at at piece bytes)) × (take (at + length piece) (written_at at piece bytes) ≡ take at bytes ++ piece)
written_behind at [] bytes within =
    let zero : at + 0 ≡ at = omega arith in
    (omega arith, ap (λ (n : ℕ). take n bytes) zero ∙ sym (append-nil (take at bytes)))
written_behind at (byte ∷ rest) bytes within =
    let none : at - length bytes ≡ 0 = omega arith in
    let filled : take at bytes ++ replicate (at - length bytes) 0 ≡ take at bytes = rw none (append-nil (take at bytes)) in
    let long : length (take at bytes) ≡ at = length-take-le at bytes within in
    let whole : length (take at bytes ++ byte ∷ rest) ≡ at + length (byte ∷ rest) = omega (arith, length-append (take at bytes) (byte ∷ rest), long) in
    let behind = drop (at + length (byte ∷ rest)) bytes in
    rw filled (
      omega (arith, length-append (take at bytes ++ byte ∷ rest) behind, whole),
      take_at (take at bytes ++ byte ∷ rest) behind (at + length (byte ∷ rest)) whole,
    )

beside_piece : (at : ℕ) (piece bytes : List ℕ) → 5 < at → at ≤ length bytes → 5 < min at (length bytes)
beside_piece at piece bytes behind within = omega arith

-- a write behind what stands
pub more : (done : Unit {0}) (at : ℕ) (piece : List ℕ) (old new : FileRecord) → IsConsistent old × IsBeing at old → WritesFile (Ok done) at piece old new
    → WritesMore (Ok (at + length piece)) at piece old new
more done at piece old new is wrote =
    let stands = written_behind at piece old.bytes is.1.within in
    let first = first_goes at old is.0 is.1 in (
      next_goes old old new (Written (min at (length old.bytes)) (end_of_piece at piece)) is.0 (inl (beside_piece at piece old.bytes is.1.behind is.1.within)) first wrote.1,
      subst (λ (bytes : List ℕ). at + length piece ≤ length bytes) (sym wrote.0) stands.0,
      ap (λ (bytes : List ℕ). take (at + length piece) bytes) wrote.0 ∙ stands.1,
    )

pub more_fails : (failed : Failed) (at : ℕ) (piece : List ℕ) (old new : FileRecord) → IsConsistent old × IsBeing at old → WritesFile (Err failed) at piece old new
    → KeepsGate old new
more_fails failed at piece old new is goes =
    next_goes old old new (PartlyWritten (min at (length old.bytes)) (end_of_piece at piece)) is.0
    (inl (beside_piece at piece old.bytes is.1.behind is.1.within)) (first_goes at old is.0 is.1) goes

-- the opening up to the gate
take_six : (bytes : List ℕ) → 5 < length bytes → take 6 (written_at 0 (76 ∷ 68 ∷ 77 ∷ 81 ∷ 1 ∷ []) bytes) ≡ front (gate_of bytes)
take_six [] long = absurd (omega arith)
take_six (a ∷ []) long = absurd (omega arith)
take_six (a ∷ b ∷ []) long = absurd (omega arith)
take_six (a ∷ b ∷ c ∷ []) long = absurd (omega arith)
take_six (a ∷ b ∷ c ∷ d ∷ []) long = absurd (omega arith)
take_six (a ∷ b ∷ c ∷ d ∷ e ∷ []) long = absurd (omega arith)
take_six (a ∷ b ∷ c ∷ d ∷ e ∷ f ∷ bytes) long =
    let none : 0 - length (a ∷ b ∷ c ∷ d ∷ e ∷ f ∷ bytes) ≡ 0 = omega arith in
    rw none refl

length_six : (bytes : List ℕ) → 5 < length bytes → 6 ≤ length (written_at 0 (76 ∷ 68 ∷ 77 ∷ 81 ∷ 1 ∷ []) bytes)
length_six [] long = absurd (omega arith)
length_six (a ∷ []) long = absurd (omega arith)
length_six (a ∷ b ∷ []) long = absurd (omega arith)
length_six (a ∷ b ∷ c ∷ []) long = absurd (omega arith)
length_six (a ∷ b ∷ c ∷ d ∷ []) long = absurd (omega arith)
length_six (a ∷ b ∷ c ∷ d ∷ e ∷ []) long = absurd (omega arith)
length_six (a ∷ b ∷ c ∷ d ∷ e ∷ f ∷ bytes) long =
    let none : 0 - length (a ∷ b ∷ c ∷ d ∷ e ∷ f ∷ bytes) ≡ 0 = omega arith in
    rw none (omega arith)

pub begun : (result : Result (Unit {0}) Failed) (old new : FileRecord) → IsConsistent old × IsShut old
    → WritesFile result 0 (76 ∷ 68 ∷ 77 ∷ 81 ∷ 1 ∷ []) old new → Begins result old new
begun (Ok done) old new is wrote =
    let first = started (Gated old) old is.0 (being_shut old is.1) in (
      next_goes old old new (Written (min 0 (length old.bytes)) 5) is.0 (inr (omega arith)) first wrote.1,
      subst (λ (bytes : List ℕ). 6 ≤ length bytes) (sym wrote.0) (length_six old.bytes is.1.long),
      ap (λ (bytes : List ℕ). take 6 bytes) wrote.0 ∙ take_six old.bytes is.1.long,
    )
begun (Err failed) old new is goes =
    next_goes old old new (PartlyWritten (min 0 (length old.bytes)) 5) is.0 (inr (omega arith)) (started (Gated old) old is.0 (being_shut old is.1)) goes

-- two parts, one after another
pub keeps_joined : (old mid new : FileRecord) → IsConsistent mid → KeepsGate old mid → KeepsGate mid new → KeepsGate old new
keeps_joined old mid new consistent first next =
    let has : HasGate (Some (gate_of old.bytes)) mid.bytes = reads (Gated old) old mid consistent first in
    joined (Gated old) old mid new first
    (weaker (Gated mid) (Gated old) (λ left is. (is.0, is.1 ∙ has.1)) mid new next)

-- the gate of the file as it reads is that of the old one
pub same_gate : (old new : FileRecord) → IsConsistent new → KeepsGate old new → gate_of new.bytes ≡ gate_of old.bytes
same_gate old new consistent keeps = (reads (Gated old) old new consistent keeps).1

-- what is being written goes on being
pub still_being : (at : ℕ) (old new : FileRecord) → IsConsistent new → KeepsGate old new → 5 < at → at ≤ length new.bytes → IsBeing at new
still_being at old new consistent keeps behind within =
    let same = same_gate old new consistent keeps in
    record {
      gates = λ left leaves.
          let is = leaves_now (Gated old) old new consistent keeps left leaves in
          (is.0, is.1 ∙ sym same);
      behind = behind;
      within = within;
    }

cut_within : (len : ℕ) (bytes : List ℕ) → len ≤ length bytes → cut_to len bytes ≡ take len bytes
cut_within len bytes within =
    let none : len - length bytes ≡ 0 = omega arith in
    rw none (append-nil (take len bytes))

-- a cut behind what was written, and a sync
pub finish_fails : (failed : Failed) (len : ℕ) (old new : FileRecord) → IsConsistent old × IsBeing len old → CutsFile (Err failed) len old new → KeepsGate old new
finish_fails failed len old new is goes =
    next_goes old old new (Cut (length old.bytes) len) is.0 (omega (arith, is.1.within, is.1.behind), is.1.behind) (first_goes len old is.0 is.1) goes

pub finished : (done : Unit {0}) (result : Result (Unit {0}) Failed) (len : ℕ) (old mid new : FileRecord) → IsConsistent old × IsBeing len old → IsConsistent mid
    → CutsFile (Ok done) len old mid → SyncsFile result mid new → Finishes result len old new
finished done (Ok synced) len old mid new is consistent cut sync =
    let first = next_goes old old mid (Cut (length old.bytes) len) is.0 (omega (arith, is.1.within, is.1.behind), is.1.behind) (first_goes len old is.0 is.1) cut.1 in
    (next_goes old mid new Stays consistent tt first sync.1.goes, sync.1.settled, sync.0 ∙ cut.0 ∙ cut_within len old.bytes is.1.within)
finished done (Err failed) len old mid new is consistent cut goes =
    let first = next_goes old old mid (Cut (length old.bytes) len) is.0 (omega (arith, is.1.within, is.1.behind), is.1.behind) (first_goes len old is.0 is.1) cut.1 in
    next_goes old mid new Stays consistent tt first goes

-- the arena, and the end
pub ended : (done : Unit {0}) (result : Result (Unit {0}) Failed) (at : ℕ) (arena : List ℕ) (old mid new : FileRecord) → IsConsistent old × IsBeing at old
    → IsConsistent mid → WritesFile (Ok done) at arena old mid → Finishes result (at + length arena) mid new → Ends result at arena old new
ended done (Ok synced) at arena old mid new is consistent wrote finish =
    let first = more done at arena old mid is wrote in
    (keeps_joined old mid new consistent first.0 finish.0, finish.1, finish.2 ∙ first.2)
ended done (Err failed) at arena old mid new is consistent wrote finish =
    let first = more done at arena old mid is wrote in
    keeps_joined old mid new consistent first.0 finish

-- the head, and the arena behind it
pub whole : (result : Result (Unit {0}) Failed) (at : ℕ) (book : BookView) (old mid new : FileRecord) → IsConsistent mid → WritesHead (Ok at) book old mid
    → Ends result at book.bytes mid new → WritesBody result book old new
whole (Ok done) at book old mid new consistent head ends =
    (keeps_joined old mid new consistent head.0 ends.0, ends.1, ends.2 ∙ ap (λ (l : List ℕ). l ++ book.bytes) head.2)
whole (Err failed) at book old mid new consistent head ends = keeps_joined old mid new consistent head.0 ends

-- rows as they are noted
pub noted : (rows : List Kept) (i : ℕ) (note : RowNote) (d : Kept) → slice_get (map note_of rows) i ≡ Some note
    → (i < length rows) × (note_of (get_or rows i d) ≡ note)
noted [] i note d is = cc is
noted (k ∷ rows) zero note d is = (omega arith, cc is)
noted (k ∷ rows) (suc i) note d is = let rest = noted rows i note d is in (omega (arith, rest.0), rest.1)

pub none_noted : (rows : List Kept) (i : ℕ) → slice_get (map note_of rows) i ≡ None → length rows ≤ i
none_noted [] i is = omega arith
none_noted (k ∷ rows) zero is = cc is
none_noted (k ∷ rows) (suc i) is = let rest = none_noted rows i is in omega (arith, rest)

-- one row more is gathered
pub row_gathered : (rows : List Kept) (first i : ℕ) (note : RowNote) → first ≤ i → slice_get (map note_of rows) i ≡ Some note
    → flat_map row_bytes (between first (i + 1) rows) ≡ flat_map row_bytes (between first i rows) ++ (eight note.n ++ eight note.time ++ eight note.place)
row_gathered rows first i note le is =
    let d : Kept = record { number = 0; time = 0; place = 0; signature = []; feed = 0; head = 0; size = 0 } in
    let at = noted rows i note d is in
    let same : row_bytes (get_or rows i d) ≡ eight note.n ++ eight note.time ++ eight note.place =
    ap (λ (n : RowNote). eight n.n ++ eight n.time ++ eight n.place) at.1 in
    ap (λ (l : List Kept). flat_map row_bytes l) (between_more rows first i d le at.0)
    ∙ flat_map-append row_bytes (between first i rows) (get_or rows i d ∷ [])
    ∙ ap (λ (l : List ℕ). flat_map row_bytes (between first i rows) ++ l) (append-nil (row_bytes (get_or rows i d)) ∙ same)

-- rows up to one, and those up to another
rows_up_to : (rows : List Kept) (first next : ℕ) → first ≤ next → take next rows ≡ take first rows ++ between first next rows
rows_up_to rows first next le =
    let sum : next ≡ first + (next - first) = omega arith in
    sym (take-append-drop first (take next rows))
    ∙ ap (λ (l : List Kept). l ++ drop first (take next rows)) (take-take first next rows le)
    ∙ ap (λ (l : List Kept). take first rows ++ l) (ap (λ (n : ℕ). drop first (take n rows)) sum ∙ drop-take first (next - first) rows)

pub head_gathered : (gate : ℕ) (book : BookView) (first next : ℕ) → first ≤ next → head_up_to gate book first ++ between_rows first next book ≡ head_up_to gate book next
head_gathered gate book first next le =
    append_assoc (front gate ++ sizes_of book) (flat_map row_bytes (take first book.rows)) (between_rows first next book)
    ∙ ap (λ (l : List ℕ). front gate ++ sizes_of book ++ l)
    (sym (flat_map-append row_bytes (take first book.rows) (between first next book.rows))
    ∙ ap (λ (l : List Kept). flat_map row_bytes l) (sym (rows_up_to book.rows first next le)))

-- the whole head
pub head_whole : (gate : ℕ) (book : BookView) (count : ℕ) → count ≡ length book.rows → head_up_to gate book count ≡ head_bytes gate book
head_whole gate book count all =
    let rows : take count book.rows ≡ book.rows = take_all count book.rows (omega arith) in
    ap (λ (l : List Kept). front gate ++ sizes_of book ++ flat_map row_bytes l) rows

-- the opening was written, and the numbers are gathered
pub writing_begins : (done : Unit {0}) (book : BookView) (old new : FileRecord) → Begins (Ok done) old new → IsWriting book 0 6 (sizes_of book) old new
writing_begins done book old new begins = record {
  gates = begins.0;
  within = begins.1;
  stands = ap (λ (l : List ℕ). l ++ sizes_of book) begins.2 ∙ sym (append-nil (front (gate_of old.bytes) ++ sizes_of book));
}

-- rows were gathered
pub writing_gathers : (book : BookView) (first next at : ℕ) (piece more : List ℕ) (old now : FileRecord) → first ≤ next → more ≡ piece ++ between_rows first next book
    → IsWriting book first at piece old now → IsWriting book next at more old now
writing_gathers book first next at piece more old now le is writing = record {
  gates = writing.gates;
  within = writing.within;
  stands = ap (λ (l : List ℕ). take at now.bytes ++ l) is ∙ sym (append_assoc (take at now.bytes) piece (between_rows first next book))
      ∙ ap (λ (l : List ℕ). l ++ between_rows first next book) writing.stands ∙ head_gathered (gate_of old.bytes) book first next le;
}

-- the piece was written
pub writing_goes_on : (behind : ℕ) (book : BookView) (next at : ℕ) (piece : List ℕ) (old now new : FileRecord) → IsConsistent now → IsWriting book next at piece old now
    → WritesMore (Ok behind) at piece now new → IsWriting book next behind [] old new
writing_goes_on behind book next at piece old now new consistent writing more = record {
  gates = keeps_joined old now new consistent writing.gates more.0;
  within = more.1;
  stands = append-nil (take behind new.bytes) ∙ more.2 ∙ writing.stands;
}

pub writing_fails : (failed : Failed) (book : BookView) (next at : ℕ) (piece : List ℕ) (old now new : FileRecord) → IsConsistent now → IsWriting book next at piece old now
    → WritesMore (Err failed) at piece now new → KeepsGate old new
writing_fails failed book next at piece old now new consistent writing keeps = keeps_joined old now new consistent writing.gates keeps

-- a piece was not written, so the head was not
pub head_fails : (result : Result ℕ Failed) (failed : Failed) (book : BookView) (next at : ℕ) (piece : List ℕ) (old now new : FileRecord) → IsErr result → IsConsistent now
    → IsWriting book next at piece old now → WritesMore (Err failed) at piece now new → WritesHead result book old new
head_fails (Ok behind) failed book next at piece old now new err consistent writing keeps = cc err
head_fails (Err why) failed book next at piece old now new err consistent writing keeps = writing_fails failed book next at piece old now new consistent writing keeps

-- all rows were written
pub writing_ends : (book : BookView) (count at : ℕ) (old now : FileRecord) → count ≡ length book.rows → IsWriting book count at [] old now → WritesHead (Ok at) book old now
writing_ends book count at old now all writing =
    (writing.gates, writing.within, sym (append-nil (take at now.bytes)) ∙ writing.stands ∙ head_whole (gate_of old.bytes) book count all)

-- the last piece was written
pub last_piece : (result : Result ℕ Failed) (book : BookView) (count at : ℕ) (piece : List ℕ) (old now new : FileRecord) → count ≡ length book.rows → IsConsistent now
    → IsWriting book count at piece old now → WritesMore result at piece now new → WritesHead result book old new
last_piece (Ok behind) book count at piece old now new all consistent writing more =
    writing_ends book count behind old new all (writing_goes_on behind book count at piece old now new consistent writing more)
last_piece (Err failed) book count at piece old now new all consistent writing more = writing_fails failed book count at piece old now new consistent writing more

-- what is being written can go on
pub writing_is_being : (book : BookView) (next at : ℕ) (piece : List ℕ) (old now : FileRecord) → IsConsistent now → 5 < at → IsWriting book next at piece old now → IsBeing at now
writing_is_being book next at piece old now consistent behind writing = still_being at old now consistent writing.gates behind writing.within

-- the arena can be written behind the head
pub head_is_being : (book : BookView) (at : ℕ) (old new : FileRecord) → IsConsistent new → 5 < at → WritesHead (Ok at) book old new → IsBeing at new
head_is_being book at old new consistent behind head = still_being at old new consistent head.0 behind head.1

-- the file can be ended behind what was written
pub written_is_being : (done : Unit {0}) (at : ℕ) (piece : List ℕ) (old new : FileRecord) → IsConsistent old × IsBeing at old → IsConsistent new
    → WritesFile (Ok done) at piece old new → IsBeing (at + length piece) new
written_is_being done at piece old new is consistent wrote =
    let more = more done at piece old new is wrote in
    still_being (at + length piece) old new consistent more.0 (omega (arith, is.1.behind)) more.1
