-- Bytes that are written behind what was appended.
use Rattle.std.proofs.Common.{◌≡◌, inl, inr, ⊎_elim, ℕ, ◌+◌, ◌%◌, ◌≤◌, min, max, List, [], ◌∷◌, ◌++◌, length, get_or, sym, ◌∙◌, ap, subst, arith}
use Rattle.std.specs.Prelude.{Result, Ok, Err}
use Rattle.std.proofs.lemmas.List.{append_assoc, length-append}
use Rattle.ldm_outside.specs.declared.fault.Failed.{Failed}
use Rattle.ldm_disk.specs.Told.{FileRecord, IsConsistent}
use Rattle.ldm_disk.specs.Model.{Step, IsStep, Torn, Written, PartlyWritten, written_at, end_of_piece}
use Rattle.ldm_disk.specs.Moments.{Goes, LeavesOnly}
use Rattle.ldm_disk.specs.Calls.{WritesFile}
use Rattle.ldm_disk.proofs.CrashLemmas.{started, goes_on, joined, weaker, follows_keeps}
use Rattle.ldm_journal.specs.declared.places.TheConstants.{RING}
use Rattle.ldm_journal.specs.declared.marks.Marks.{Marks}
use Rattle.ldm_journal.specs.Records.{Kept}
use Rattle.ldm_journal.specs.Format.{around}
use Rattle.ldm_journal.specs.Standing.{Keeps}
use Rattle.ldm_journal.specs.Sound.{IsSound}
use Rattle.ldm_journal.specs.Pushing.{CrashKeeps, Pushes, StandsBehind, behind_in, place_behind, grown}
use Rattle.ldm_journal.proofs.Around.{around_same, around_is, around-add, get_or-written, get_or-written_other, mod_on}
use Rattle.ldm_journal.proofs.KeepLemmas.{apart, torn_keeps}

-- what fits behind, up to the end of the ring
pub record Fits (marks : Marks) (n : ℕ) : Type 0 where
  pub sound : IsSound marks
  pub room : marks.used + marks.appended + n ≤ marks.ring
  pub within : place_behind marks + n ≤ marks.ring

end_le : (at : ℕ) (piece : List ℕ) → end_of_piece at piece ≤ at + length piece
end_le at [] = omega arith
end_le at (byte ∷ rest) = omega arith

module _ (marks : Marks) (kept : List Kept) (piece : List ℕ) (fits : Fits marks (length piece)) where
  -- a write keeps what is kept, and so does one that was done in part
  write_keeps : (bytes before after : List ℕ) (end : ℕ) → length bytes ≡ RING + marks.ring → end ≤ RING + place_behind marks + length piece → Keeps marks kept before
      → Torn (min (RING + place_behind marks) (length bytes)) end (max (length before) end) before after → Keeps marks kept after
  write_keeps bytes before after end whole le keeps torn =
      torn_keeps marks kept (length piece) (min (RING + place_behind marks) (length bytes)) end before after fits.sound fits.room fits.within
      (omega (arith, whole, fits.within)) (omega (arith, whole, fits.within, le)) torn keeps

  pub whole : (old : FileRecord) → IsConsistent old → CrashKeeps marks kept old → length old.bytes ≡ RING + marks.ring
  whole old consistent crash = (crash old.bytes consistent.reads).holds.long

  pub leaves_after : (step : Step) (old new : FileRecord) → IsConsistent old → CrashKeeps marks kept old
      → ((before after : List ℕ) → Keeps marks kept before → IsStep step before after → Keeps marks kept after)
      → Goes step old new → CrashKeeps marks kept new × LeavesOnly (Keeps marks kept) old new
  leaves_after step old new consistent crash keeps goes =
      let now = follows_keeps (Keeps marks kept) step old new keeps crash goes.crash in
      (now, goes_on (Keeps marks kept) old old new (started (Keeps marks kept) old consistent crash) goes.time now)

  pub part_fails : (failed : Failed) (old new : FileRecord) → IsConsistent old → CrashKeeps marks kept old
      → WritesFile (Err failed) (RING + place_behind marks) piece old new → LeavesOnly (Keeps marks kept) old new
  part_fails failed old new consistent crash goes =
      let long = whole old consistent crash in
      let start = min (RING + place_behind marks) (length old.bytes) in
      let end = end_of_piece (RING + place_behind marks) piece in
      let le = end_le (RING + place_behind marks) piece in
      (leaves_after (PartlyWritten start end) old new consistent crash
      (λ before after k step. write_keeps old.bytes before after step.0 long (omega (arith, step.1, le)) k step.2) goes).1

  pub part_written : (done : Unit {0}) (old new : FileRecord) → IsConsistent old → CrashKeeps marks kept old
      → WritesFile (Ok done) (RING + place_behind marks) piece old new → CrashKeeps marks kept new × LeavesOnly (Keeps marks kept) old new
  part_written done old new consistent crash wrote =
      let long = whole old consistent crash in
      let start = min (RING + place_behind marks) (length old.bytes) in
      let end = end_of_piece (RING + place_behind marks) piece in
      let le = end_le (RING + place_behind marks) piece in
      leaves_after (Written start end) old new consistent crash
      (λ before after k step. write_keeps old.bytes before after end long le k step) wrote.1

  -- the piece stands behind
  pub part_behind : (bytes : List ℕ) → length bytes ≡ RING + marks.ring → StandsBehind marks piece bytes (written_at (RING + place_behind marks) piece bytes)
  part_behind bytes long =
      let place = place_behind marks in
      let taken = marks.front + marks.used + marks.appended in
      let now = written_at (RING + place) piece bytes in
      let within : RING + place + length piece ≤ length bytes = omega (arith, long, fits.within) in
      let none : marks.appended + 0 ≡ marks.appended = omega arith in
      let first : around marks.ring (marks.front + marks.used) marks.appended now ≡ around marks.ring (marks.front + marks.used) marks.appended bytes =
      around_same marks.ring (marks.front + marks.used) marks.appended bytes now
      (λ i less.
      let sum : marks.front + marks.used + i ≡ marks.front + (marks.used + i) = omega arith in
      let whole : marks.front + marks.used + marks.appended ≡ marks.front + (marks.used + marks.appended) = omega arith in
      let ends : (marks.front + (marks.used + marks.appended)) % marks.ring + length piece ≤ marks.ring =
      subst (λ (m : ℕ). m % marks.ring + length piece ≤ marks.ring) whole fits.within in
      let beside = apart marks.ring marks.front (marks.used + marks.appended) (length piece) (marks.used + i) fits.sound.1 fits.room (omega (arith, less)) ends in
      let here = ap (λ (m : ℕ). m % marks.ring) sum in
      let there = ap (λ (m : ℕ). m % marks.ring) whole in
      get_or-written_other (RING + place) piece bytes (RING + (marks.front + marks.used + i) % marks.ring) within
      (⊎_elim (λ b. inl (omega (arith, b, here, there))) (λ a. inr (omega (arith, a, here, there))) beside)) in
      let second : around marks.ring taken (length piece) now ≡ piece =
      around_is marks.ring taken piece now
      (λ i less.
      let on = mod_on taken i marks.ring (omega (arith, less, fits.within)) in
      let sum : RING + (taken + i) % marks.ring ≡ RING + place + i = omega (arith, on) in
      ap (λ (n : ℕ). get_or now n 0) sum ∙ get_or-written (RING + place) piece bytes i within less) in
      around-add marks.ring (marks.front + marks.used) marks.appended (length piece) now
      ∙ ap (λ (l : List ℕ). l ++ around marks.ring taken (length piece) now) (first ∙ ap (λ (n : ℕ). around marks.ring (marks.front + marks.used) n bytes) (sym none))
      ∙ ap (λ (l : List ℕ). behind_in marks 0 bytes ++ l) second

-- a part that ends at the end of the ring or before it
pub part_pushed : (marks : Marks) (piece : List ℕ) (done : Unit {0}) (old new : FileRecord) → Fits marks (length piece) → IsConsistent old
    → WritesFile (Ok done) (RING + place_behind marks) piece old new → Pushes (Ok done) marks piece old new
part_pushed marks piece done old new fits consistent wrote kept crash =
    let left = part_written marks kept piece fits done old new consistent crash wrote in (
      left.0,
      left.1,
      subst (λ (bytes : List ℕ). StandsBehind marks piece old.bytes bytes) (sym wrote.0)
          (part_behind marks kept piece fits old.bytes (whole marks kept piece fits old consistent crash)),
    )

pub part_failed : (marks : Marks) (piece : List ℕ) (failed : Failed) (old new : FileRecord) → Fits marks (length piece) → IsConsistent old
    → WritesFile (Err failed) (RING + place_behind marks) piece old new → Pushes (Err failed) marks piece old new
part_failed marks piece failed old new fits consistent goes kept crash = part_fails marks kept piece fits failed old new consistent crash goes

-- what is kept does not depend on how much was appended
pub keeps_grown : (n : ℕ) (marks : Marks) (kept : List Kept) (file : List ℕ) → Keeps marks kept file → Keeps (grown n marks) kept file
keeps_grown n marks kept file k = record { holds = k.holds; odd = k.odd; front = k.front; used = k.used }

pub keeps_shrunk : (n : ℕ) (marks : Marks) (kept : List Kept) (file : List ℕ) → Keeps (grown n marks) kept file → Keeps marks kept file
keeps_shrunk n marks kept file k = record { holds = k.holds; odd = k.odd; front = k.front; used = k.used }

leaves_shrunk : (n : ℕ) (marks : Marks) (kept : List Kept) (old new : FileRecord) → LeavesOnly (Keeps (grown n marks) kept) old new → LeavesOnly (Keeps marks kept) old new
leaves_shrunk n marks kept old new only = weaker (Keeps (grown n marks) kept) (Keeps marks kept) (λ left k. keeps_shrunk n marks kept left k) old new only

-- two pieces, one after another
pub both_pushed : (result : Result (Unit {0}) Failed) (marks : Marks) (first rest : List ℕ) (done : Unit {0}) (old mid new : FileRecord) → Pushes (Ok done) marks first old mid
    → Pushes result (grown (length first) marks) rest mid new → Pushes result marks (first ++ rest) old new
both_pushed (Ok so) marks first rest done old mid new one next = λ kept crash.
    let a = one kept crash in
    let b = next kept (λ left leaves. keeps_grown (length first) marks kept left (a.0 left leaves)) in
    let fu = marks.front + marks.used in
    let sum : marks.appended + length (first ++ rest) ≡ marks.appended + length first + length rest = omega (arith, length-append first rest) in
    let none : marks.appended + length first + 0 ≡ marks.appended + length first = omega arith in (
      λ left leaves. keeps_shrunk (length first) marks kept left (b.0 left leaves),
      joined (Keeps marks kept) old mid new a.1 (leaves_shrunk (length first) marks kept mid new b.1),
      ap (λ (n : ℕ). around marks.ring fu n new.bytes) sum ∙ b.2
          ∙ ap (λ (n : ℕ). around marks.ring fu n mid.bytes ++ rest) none
          ∙ ap (λ (l : List ℕ). l ++ rest) a.2
          ∙ append_assoc (behind_in marks 0 old.bytes) first rest,
    )
both_pushed (Err failed) marks first rest done old mid new one next = λ kept crash.
    let a = one kept crash in
    let b = next kept (λ left leaves. keeps_grown (length first) marks kept left (a.0 left leaves)) in
    joined (Keeps marks kept) old mid new a.1 (leaves_shrunk (length first) marks kept mid new b)
