-- Committing: a head is written beside the one that counts, and then it counts.
use Rattle.std.proofs.Common.{◌≡◌, ◌⊎◌, inl, inr, ⊎_elim, ℕ, ◌+◌, ◌%◌, ◌<◌, ◌≤◌, min, max, Bool, true, false, not, List, [], ◌∷◌, ◌++◌, length, get_or, refl, ◌∙◌, ap, arith}
use Rattle.std.specs.Prelude.{Result, Ok, Err}
use Rattle.std.proofs.lemmas.Bool.{cases_lt, cases_eq}
use Rattle.std.proofs.lemmas.List.{length-append}
use Rattle.std.proofs.Math.Nat.{mod-lt}
use Rattle.ldm_outside.specs.declared.fault.Failed.{Failed}
use Rattle.ldm_disk.specs.Told.{FileRecord, IsConsistent, IsSettled}
use Rattle.ldm_disk.specs.Model.{Step, IsStep, Torn, Written, PartlyWritten, end_of_piece}
use Rattle.ldm_disk.specs.Moments.{Goes, LeavesOnly}
use Rattle.ldm_disk.specs.Calls.{WritesFile, SyncsFile}
use Rattle.ldm_disk.proofs.CrashLemmas.{started, goes_on, follows_keeps, follows_settled, stays_keeps, settled_leaves}
use Rattle.ldm_journal.specs.declared.places.TheConstants.{SELECT, RING, NOTE}
use Rattle.ldm_journal.specs.declared.marks.Marks.{Marks}
use Rattle.ldm_journal.specs.Records.{Kept, eight}
use Rattle.ldm_journal.specs.Format.{place_of, front_at}
use Rattle.ldm_journal.specs.Standing.{Keeps}
use Rattle.ldm_journal.specs.Sound.{IsSound}
use Rattle.ldm_journal.specs.Pushing.{CrashKeeps}
use Rattle.ldm_journal.specs.Committing.{IsSelecting, Selects, WritesHead, head_bytes_of, select_byte}
use Rattle.ldm_journal.proofs.KeepLemmas.{Agrees, by_marks, from_marks, keeps_by, selected_same, head_within, torn_beside}

-- the two heads stand beside one another
heads_apart : (odd : Bool) → (place_of odd + 24 + NOTE ≤ place_of (not odd)) ⊎ (place_of (not odd) + 24 + NOTE ≤ place_of odd)
heads_apart false = inl (omega arith)
heads_apart true = inr (omega arith)

pub length-head_bytes : (marks : Marks) → length marks.note ≡ NOTE → length (head_bytes_of marks) ≡ 24 + NOTE
length-head_bytes marks is =
    let numbers = eight marks.front ++ eight marks.used ++ eight marks.next in
    let count : length numbers ≡ 24 = refl in
    omega (arith, length-append numbers marks.note, count, is)

end_le : (at : ℕ) (piece : List ℕ) → end_of_piece at piece ≤ at + length piece
end_le at [] = omega arith
end_le at (byte ∷ rest) = omega arith

-- The head that does not count was torn.
head_torn : (marks : Marks) (kept : List Kept) (start end : ℕ) (before after : List ℕ) → IsSound marks → start ≡ place_of (not marks.odd) → end ≤ start + 24 + NOTE
    → Torn start end (max (length before) end) before after → Keeps marks kept before → Keeps marks kept after
head_torn marks kept start end before after sound at to torn keeps =
    let k = by_marks marks kept before keeps in
    let whole : length before ≡ RING + marks.ring = k.holds.long in
    let head = head_within marks.odd in
    let other = head_within (not marks.odd) in
    let within : end ≤ length before = omega (arith, whole, to, at, other.1) in
    let beside : (q : ℕ) → q < length before → (q < start) ⊎ (end ≤ q) → get_or after q 0 ≡ get_or before q 0 =
    λ q there outside. (torn_beside start end before after q within torn outside).1 there in
    let agrees : Agrees (place_of marks.odd) marks.ring before after = record {
      long = (torn_beside start end before after 0 within torn (inl (omega (arith, at, other.0)))).0;
      opening = λ q less. beside q (omega (arith, less, whole)) (inl (omega (arith, less, at, other.0)));
      head = λ q from less.
          beside q (omega (arith, less, whole, head.1))
          (⊎_elim (λ before_it. inl (omega (arith, before_it, less, at))) (λ behind_it. inr (omega (arith, behind_it, from, at, to))) (heads_apart marks.odd));
      records = λ i less.
          (let p = (front_at (place_of marks.odd) before + i) % marks.ring in
          let inside : p < marks.ring = mod-lt (front_at (place_of marks.odd) before + i) {m = marks.ring} (omega (arith, sound.1)) in
          beside (RING + p) (omega (arith, whole, inside)) (inr (omega (arith, to, at, other.1))));
    } in
    from_marks marks kept after (selected_same before after (beside SELECT (omega (arith, whole)) (inl (omega (arith, at, other.0)))) ∙ keeps.odd)
    (keeps_by marks kept before after agrees k)

module _ (before next : Marks) (noted : length next.note ≡ NOTE) (kept : List Kept) (sound : IsSound before) (turned_to : next.odd ≡ not before.odd) (old : FileRecord) (consistent : IsConsistent old)
    (crash : CrashKeeps before kept old) where
  private_whole : length old.bytes ≡ RING + before.ring
  private_whole = (crash old.bytes consistent.reads).holds.long

  start_is : min (place_of next.odd) (length old.bytes) ≡ place_of (not before.odd)
  start_is =
      let other = head_within (not before.odd) in
      let at : place_of next.odd ≡ place_of (not before.odd) = ap place_of turned_to in
      omega (arith, at, other.1, private_whole)

  head_end : end_of_piece (place_of next.odd) (head_bytes_of next) ≤ min (place_of next.odd) (length old.bytes) + 24 + NOTE
  head_end =
      let at : place_of next.odd ≡ place_of (not before.odd) = ap place_of turned_to in
      omega (arith, end_le (place_of next.odd) (head_bytes_of next), length-head_bytes next noted, start_is, at)

  head_keeps : (end : ℕ) (b a : List ℕ) → end ≤ min (place_of next.odd) (length old.bytes) + 24 + NOTE → Keeps before kept b
      → Torn (min (place_of next.odd) (length old.bytes)) end (max (length b) end) b a → Keeps before kept a
  head_keeps end b a le keeps torn = head_torn before kept (min (place_of next.odd) (length old.bytes)) end b a sound start_is le torn keeps

  head_goes : (step : Step) (mid : FileRecord) → ((b a : List ℕ) → Keeps before kept b → IsStep step b a → Keeps before kept a) → Goes step old mid
      → CrashKeeps before kept mid × LeavesOnly (Keeps before kept) old mid
  head_goes step mid keeps goes =
      let now = follows_keeps (Keeps before kept) step old mid keeps crash goes.crash in
      (now, goes_on (Keeps before kept) old old mid (started (Keeps before kept) old consistent crash) goes.time now)

  pub head_put : (done : Unit {0}) (mid : FileRecord) → WritesFile (Ok done) (place_of next.odd) (head_bytes_of next) old mid
      → CrashKeeps before kept mid × LeavesOnly (Keeps before kept) old mid
  head_put done mid wrote =
      head_goes (Written (min (place_of next.odd) (length old.bytes)) (end_of_piece (place_of next.odd) (head_bytes_of next))) mid
      (λ b a keeps step. head_keeps (end_of_piece (place_of next.odd) (head_bytes_of next)) b a head_end keeps step) wrote.1

  pub head_not_put : (failed : Failed) (mid : FileRecord) → WritesFile (Err failed) (place_of next.odd) (head_bytes_of next) old mid → LeavesOnly (Keeps before kept) old mid
  head_not_put failed mid goes =
      (head_goes (PartlyWritten (min (place_of next.odd) (length old.bytes)) (end_of_piece (place_of next.odd) (head_bytes_of next))) mid
      (λ b a keeps step. head_keeps step.0 b a (omega (arith, step.1, head_end)) keeps step.2) goes).1

-- the head was written and synced
pub head_written : (result : Result (Unit {0}) Failed) (done : Unit {0}) (next : Marks) → length next.note ≡ NOTE → (old mid new : FileRecord) → IsConsistent old
    → WritesFile (Ok done) (place_of next.odd) (head_bytes_of next) old mid → SyncsFile result mid new → WritesHead result next old new
head_written (Ok so) done next noted old mid new consistent wrote sync = λ before kept sound turned_to crash.
    let P = Keeps before kept in
    let put = head_put before next noted kept sound turned_to old consistent crash done mid wrote in (
      goes_on P old mid new put.1 sync.1.goes.time (stays_keeps P mid new put.0 sync.1.goes.crash),
      sync.1.settled,
      sync.0 ∙ wrote.0,
    )
head_written (Err failed) done next noted old mid new consistent wrote goes = λ before kept sound turned_to crash.
    let P = Keeps before kept in
    let put = head_put before next noted kept sound turned_to old consistent crash done mid wrote in
    goes_on P old mid new put.1 goes.time (stays_keeps P mid new put.0 goes.crash)

pub head_failed : (failed : Failed) (next : Marks) → length next.note ≡ NOTE → (old new : FileRecord) → IsConsistent old
    → WritesFile (Err failed) (place_of next.odd) (head_bytes_of next) old new → WritesHead (Err failed) next old new
head_failed failed next noted old new consistent goes = λ before kept sound turned_to crash. head_not_put before next noted kept sound turned_to old consistent crash failed new goes

-- The byte that selects was torn.
select_torn : (base after : List ℕ) (end : ℕ) → SELECT < length base → end ≤ SELECT + 1
    → Torn (min SELECT (length base)) end (max (length base) end) base after → IsSelecting base after
select_torn base after end there to torn =
    let same : length after ≡ length base = ⊎_elim (λ s. s) (λ new. omega (arith, new, there, to)) torn.long in
    record {
      long = same;
      same = λ place within other.
          torn.stays place within (omega (arith, within, same))
          (elim (cases_lt place SELECT) [
            | inl below ↦ inl (omega (arith, below, there))
            | inr above ↦ elim (cases_eq place SELECT) [ inl at ↦ absurd (other at) | inr not_at ↦ inr (omega (arith, above, not_at, to)) ]
          ]);
    }

selecting_itself : (base : List ℕ) → IsSelecting base base
selecting_itself base = record { long = refl; same = λ place within other. refl }

select_goes : (step : Step) (old mid : FileRecord) → IsConsistent old → IsSettled old → ((after : List ℕ) → IsStep step old.bytes after → IsSelecting old.bytes after)
    → Goes step old mid → LeavesOnly (IsSelecting old.bytes) old mid × ((left : List ℕ) → mid.may_leave left ≡ true → IsSelecting old.bytes left)
select_goes step old mid consistent settled torn goes =
    let P = IsSelecting old.bytes in
    let now = follows_settled P step old mid settled goes.crash torn in
    (goes_on P old old mid (started P old consistent (settled_leaves P old settled (selecting_itself old.bytes))) goes.time now, now)

pub selected_now : (result : Result (Unit {0}) Failed) (done : Unit {0}) (odd : Bool) (old mid new : FileRecord) → IsConsistent old
    → WritesFile (Ok done) SELECT (select_byte odd ∷ []) old mid → SyncsFile result mid new → Selects result odd old new
selected_now (Ok so) done odd old mid new consistent wrote sync = λ settled there.
    let P = IsSelecting old.bytes in
    let first = select_goes (Written (min SELECT (length old.bytes)) (SELECT + 1)) old mid consistent settled
    (λ after step. select_torn old.bytes after (SELECT + 1) there (omega arith) step) wrote.1 in (
      goes_on P old mid new first.0 sync.1.goes.time (stays_keeps P mid new first.1 sync.1.goes.crash),
      sync.1.settled,
      sync.0 ∙ wrote.0,
    )
selected_now (Err failed) done odd old mid new consistent wrote goes = λ settled there.
    let P = IsSelecting old.bytes in
    let first = select_goes (Written (min SELECT (length old.bytes)) (SELECT + 1)) old mid consistent settled
    (λ after step. select_torn old.bytes after (SELECT + 1) there (omega arith) step) wrote.1 in
    goes_on P old mid new first.0 goes.time (stays_keeps P mid new first.1 goes.crash)

pub select_failed : (failed : Failed) (odd : Bool) (old new : FileRecord) → IsConsistent old → WritesFile (Err failed) SELECT (select_byte odd ∷ []) old new
    → Selects (Err failed) odd old new
select_failed failed odd old new consistent goes = λ settled there.
    (select_goes (PartlyWritten (min SELECT (length old.bytes)) (SELECT + 1)) old new consistent settled
    (λ after step. select_torn old.bytes after step.0 there step.1 step.2) goes).0
