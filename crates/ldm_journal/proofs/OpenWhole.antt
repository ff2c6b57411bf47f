-- Opening as clauses say it.
use Rattle.std.proofs.Common.{◌≡◌, inl, inr, ⊎_elim, ℕ, ◌+◌, ◌<◌, List, [], length, refl, sym, ◌∙◌, ap, subst, arith}
use Rattle.std.specs.Prelude.{Option, Some, None, IfSome, Result, Ok, Err}
use Rattle.std.proofs.lemmas.List.{append-nil, nil_from_length}
use Rattle.ldm_outside.specs.declared.fault.Failed.{Failed}
use Rattle.ldm_disk.specs.Told.{FileRecord, IsConsistent, IsSettled}
use Rattle.ldm_disk.specs.Moments.{LeavesOnly}
use Rattle.ldm_disk.specs.Calls.{FileChanges, KeepsFile}
use Rattle.ldm_disk.proofs.CrashLemmas.{started, goes_on, joined, stays_keeps, settled_leaves, still_settled}
use Rattle.ldm_journal.specs.declared.marks.Marks.{Marks}
use Rattle.ldm_journal.specs.declared.fault.JournalFault.{JournalFault}
use Rattle.ldm_journal.specs.declared.fault.JournalFault.TheVariants.{NotAJournal, OtherRing, OtherLength, BadHead, BadRecord, DiskFault, OutOfMemory}
use Rattle.ldm_journal.specs.Records.{Kept, AreRising}
use Rattle.ldm_journal.specs.Format.{Holds, around}
use Rattle.ldm_journal.specs.Standing.{Keeps, Stands}
use Rattle.ldm_journal.specs.Making.{first_marks, LeftOfMaking, Makes}
use Rattle.ldm_journal.specs.Opening.{IsFound, IsMade, IsRefused, JudgesFile, Opens}
use Rattle.ldm_disk.proofs.Filled.{keeps_file}

around_none : (ring from : ℕ) (file : List ℕ) → around ring from 0 file ≡ []
unfolding around
around_none ring from file = refl

-- a file of which nothing is pending, and which keeps products by marks
stands_so : (marks : Marks) (kept : List Kept) (file : FileRecord) → IsSettled file → Keeps marks kept file.bytes → marks.appended ≡ 0 → AreRising 0 kept marks.next
    → Stands marks kept [] file
stands_so marks kept file settled keeps none rising = record {
  crash = settled_leaves (Keeps marks kept) file settled keeps;
  behind = ap (λ (n : ℕ). around marks.ring (marks.front + marks.used) n file.bytes) none ∙ around_none marks.ring (marks.front + marks.used) file.bytes;
  lawful = tt;
  rising = subst (λ (l : List Kept). AreRising 0 l marks.next) (sym (append-nil kept)) rising;
}

-- an empty file, before it is made a journal
empty_leaves : (ring : ℕ) (old mid : FileRecord) → IsConsistent old → IsSettled old → old.bytes ≡ [] → KeepsFile old mid → LeavesOnly (LeftOfMaking ring) old mid
empty_leaves ring old mid consistent settled none keeps =
    let P = LeftOfMaking ring in
    let zero : length old.bytes ≡ 0 = ap length none in
    let here : P old.bytes = inl (λ whole. omega (arith, zero, whole)) in
    let now = settled_leaves P old settled here in
    goes_on P old old mid (started P old consistent now) keeps.goes.time (stays_keeps P old mid now keeps.goes.crash)

pub opened_made : (done : Unit {0}) (ring : ℕ) (old new : FileRecord) → IsSettled old × (0 ≡ length old.bytes) → Makes (Ok done) ring old new
    → Opens (Ok (first_marks ring)) ring old new
opened_made done ring old new is makes =
    let none : old.bytes ≡ [] = nil_from_length old.bytes (sym is.1) in
    let m = makes none is.0 in (
      refl,
      inr
          (record {
            empty = none;
            stands = stands_so (first_marks ring) [] new m.1 m.2 refl (omega arith);
            note = refl;
            settled = m.1;
            leaves = m.0;
          }),
    )

pub opened_not_made : (failed : Failed) (ring : ℕ) (old new : FileRecord) → IsSettled old × (0 ≡ length old.bytes) → Makes (Err failed) ring old new
    → Opens (Err DiskFault) ring old new
opened_not_made failed ring old new is makes =
    let none : old.bytes ≡ [] = nil_from_length old.bytes (sym is.1) in
    record { making = λ empty. makes none is.0; reading = λ some. absurd (some none) }

-- the length could not be read
pub not_measured : (ring : ℕ) (old new : FileRecord) → IsConsistent old × IsSettled old → KeepsFile old new → Opens (Err DiskFault) ring old new
not_measured ring old new is keeps = record { making = λ empty. empty_leaves ring old new is.0 is.1 empty keeps; reading = λ some. keeps }

-- a file that is read, of which nothing is pending
pub record IsRead (old new : FileRecord) : Type 0 where
  pub at_end : IsConsistent new
  pub settled : IsSettled old
  pub some : 0 < length old.bytes
  pub stays : KeepsFile old new

refused : (ring : ℕ) (old new : FileRecord) → IsRead old new → ((kept : List Kept) (note : List ℕ) → ¬ (Holds ring kept note old.bytes)) → IsRefused ring old new
refused ring old new is none = record {
  not_empty = λ empty. let zero : length old.bytes ≡ 0 = ap length empty in omega (arith, zero, is.some);
  none = none;
  stays = is.stays;
}

pub opened_so : (result : Result Marks JournalFault) (ring : ℕ) (old new : FileRecord) → IsRead old new → JudgesFile result ring old.bytes → Opens result ring old new
opened_so (Ok marks) ring old new is judged =
    let settled = still_settled old new is.at_end is.settled is.stays.goes.crash in
    let kept = judged.2.0 in
    let here : Keeps marks kept old.bytes = judged.2.1 in (
      judged.0,
      inl
          (record {
            kept = kept;
            holds = subst (λ (n : ℕ). Holds n kept marks.note old.bytes) judged.0 here.holds;
            stands = stands_so marks kept new settled (subst (λ (bytes : List ℕ). Keeps marks kept bytes) (sym is.stays.bytes) here) judged.1 judged.2.2;
            stays = is.stays;
          }),
    )
opened_so (Err NotAJournal) ring old new is judged = refused ring old new is judged
opened_so (Err OtherRing) ring old new is judged = refused ring old new is judged
opened_so (Err OtherLength) ring old new is judged = refused ring old new is judged
opened_so (Err BadHead) ring old new is judged = refused ring old new is judged
opened_so (Err BadRecord) ring old new is judged = refused ring old new is judged
opened_so (Err OutOfMemory) ring old new is judged = is.stays
opened_so (Err DiskFault) ring old new is judged = record {
  making = λ empty. (let zero : length old.bytes ≡ 0 = ap length empty in absurd (omega (arith, zero, is.some)));
  reading = λ some. is.stays;
}

-- after a call that only read
refused_later : (ring : ℕ) (old mid new : FileRecord) → IsConsistent old → KeepsFile old mid → IsRefused ring mid new → IsRefused ring old new
refused_later ring old mid new consistent keeps is = record {
  not_empty = λ empty. is.not_empty (keeps.bytes ∙ empty);
  none = λ kept note holds. is.none kept note (subst (λ (bytes : List ℕ). Holds ring kept note bytes) (sym keeps.bytes) holds);
  stays = keeps_file old mid new consistent keeps is.stays;
}

found_later : (ring : ℕ) (marks : Marks) (old mid new : FileRecord) → IsConsistent old → KeepsFile old mid → IsFound ring marks mid new → IsFound ring marks old new
found_later ring marks old mid new consistent keeps is = record {
  kept = is.kept;
  holds = subst (λ (bytes : List ℕ). Holds ring is.kept marks.note bytes) keeps.bytes is.holds;
  stands = is.stands;
  stays = keeps_file old mid new consistent keeps is.stays;
}

made_later : (ring : ℕ) (marks : Marks) (old mid new : FileRecord) → IsConsistent old × IsSettled old → KeepsFile old mid → IsMade ring marks mid new → IsMade ring marks old new
made_later ring marks old mid new start keeps is = record {
  empty = sym keeps.bytes ∙ is.empty;
  stands = is.stands;
  note = is.note;
  settled = is.settled;
  leaves = joined (LeftOfMaking ring) old mid new (empty_leaves ring old mid start.0 start.1 (sym keeps.bytes ∙ is.empty) keeps) is.leaves;
}

pub opens_later : (result : Result Marks JournalFault) (ring : ℕ) (old mid new : FileRecord) → IsConsistent old × IsSettled old → KeepsFile old mid → Opens result ring mid new
    → Opens result ring old new
opens_later (Ok marks) ring old mid new start keeps opens =
    (opens.0, ⊎_elim (λ found. inl (found_later ring marks old mid new start.0 keeps found)) (λ made. inr (made_later ring marks old mid new start keeps made)) opens.1)
opens_later (Err NotAJournal) ring old mid new start keeps opens = refused_later ring old mid new start.0 keeps opens
opens_later (Err OtherRing) ring old mid new start keeps opens = refused_later ring old mid new start.0 keeps opens
opens_later (Err OtherLength) ring old mid new start keeps opens = refused_later ring old mid new start.0 keeps opens
opens_later (Err BadHead) ring old mid new start keeps opens = refused_later ring old mid new start.0 keeps opens
opens_later (Err BadRecord) ring old mid new start keeps opens = refused_later ring old mid new start.0 keeps opens
opens_later (Err OutOfMemory) ring old mid new start keeps opens = keeps_file old mid new start.0 keeps opens
opens_later (Err DiskFault) ring old mid new start keeps opens = record {
  making = λ empty.
      joined (LeftOfMaking ring) old mid new (empty_leaves ring old mid start.0 start.1 empty keeps) (opens.making (keeps.bytes ∙ empty));
  reading = λ some. keeps_file old mid new start.0 keeps (opens.reading (λ empty. some (sym keeps.bytes ∙ empty)));
}

-- a call that kept the file, and what was read of it
pub read_so : (P : List ℕ → Type 0) (old new : Option FileRecord) → FileChanges KeepsFile old new → IfSome old (λ f. P f.bytes) → FileChanges (λ a b. KeepsFile a b × P a.bytes) old new
read_so P None None keeps p = tt
read_so P None (Some new) keeps p = absurd keeps
read_so P (Some old) None keeps p = absurd keeps
read_so P (Some old) (Some new) keeps p = (keeps, p)

-- where it is of a file of which nothing was pending
pub opened_by_reading : (result : Result Marks JournalFault) (ring len : ℕ) (old new : Option FileRecord) → IfSome old IsSettled → IfSome old (λ f. len ≡ length f.bytes) → 0 < len
    → IfSome new IsConsistent → FileChanges KeepsFile old new → IfSome old (λ f. JudgesFile result ring f.bytes) → FileChanges (Opens result ring) old new
opened_by_reading result ring len None None settled long some consistent keeps judged = tt
opened_by_reading result ring len None (Some new) settled long some consistent keeps judged = absurd keeps
opened_by_reading result ring len (Some old) None settled long some consistent keeps judged = absurd keeps
opened_by_reading result ring len (Some old) (Some new) settled long some consistent keeps judged =
    opened_so result ring old new (record { at_end = consistent; settled = settled; some = omega (arith, long, some); stays = keeps }) judged
