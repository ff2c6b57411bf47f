-- Appending a product to a journal.
use Rattle.std.proofs.Common.{◌≡◌, ℕ, ◌+◌, ◌≤◌, List, [], ◌∷◌, ◌++◌, length, sym, ◌∙◌, ap, subst, arith}
use Rattle.std.specs.Prelude.{Ok, Err}
use Rattle.std.proofs.lemmas.List.{append_assoc, length-append}
use Rattle.md5.specs.Md5.{md5}
use Rattle.md5.proofs.StandardFacts.{length-md5}
use Rattle.ldm_outside.specs.declared.fault.Failed.{Failed}
use Rattle.ldm_disk.specs.Told.{FileRecord}
use Rattle.ldm_disk.proofs.CrashLemmas.{weaker}
use Rattle.ldm_journal.specs.declared.marks.Marks.{Marks}
use Rattle.ldm_journal.specs.declared.append.AppendEnd.TheVariants.{Appended, DiskFault}
use Rattle.ldm_journal.specs.Records.{Kept, head_bytes, record_bytes, IsLawful, AreRising}
use Rattle.ldm_journal.specs.Format.{Holds, around}
use Rattle.ldm_journal.specs.Standing.{Keeps}
use Rattle.ldm_journal.specs.Pushing.{Pushes, grown}
use Rattle.ldm_journal.specs.Appending.{Appends}
use Rattle.ldm_journal.proofs.RecordLemmas.{record_is, records-push, lawful_both, rising_more}

-- the marks after a product was appended
abbrev pub numbered : ℕ → Marks → Marks
numbered number marks = record marks { next = number + 1 }

-- its record was written
pub appended_here : (k : Kept) (n : ℕ) (marks : Marks) (done : Unit {0}) (old new : FileRecord) → IsLawful k → n ≡ length (record_bytes k) → marks.next ≤ k.number
    → Pushes (Ok done) marks (record_bytes k) old new → Appends Appended k marks (numbered k.number (grown n marks)) old new
appended_here k n marks done old new lawful count rises pushes kept appended stands =
    let p = pushes kept stands.crash in
    let fu = marks.front + marks.used in
    let none : marks.appended + 0 ≡ marks.appended = omega arith in (
      record {
        crash = λ left leaves. let keeps = p.0 left leaves in record { holds = keeps.holds; odd = keeps.odd; front = keeps.front; used = keeps.used };
        behind = ap (λ (c : ℕ). around marks.ring fu (marks.appended + c) new.bytes) count ∙ p.2
            ∙ ap (λ (c : ℕ). around marks.ring fu c old.bytes ++ record_bytes k) none
            ∙ ap (λ (l : List ℕ). l ++ record_bytes k) stands.behind
            ∙ sym (records-push appended k);
        lawful = lawful_both appended (k ∷ []) stands.lawful (lawful, tt);
        rising = subst (λ (l : List Kept). AreRising 0 l (k.number + 1)) (append_assoc kept appended (k ∷ []))
            (rising_more 0 (kept ++ appended) k marks.next stands.rising rises);
      },
      weaker (Keeps marks kept) (Holds marks.ring kept marks.note) (λ left keeps. keeps.holds) old new p.1,
    )

pub appended : (k : Kept) (n : ℕ) (before mid : Marks) (done : Unit {0}) (old new : FileRecord) → IsLawful k → n ≡ length (record_bytes k) → before.next ≤ k.number
    → mid ≡ grown n before → Pushes (Ok done) before (record_bytes k) old new → Appends Appended k before (numbered k.number mid) old new
appended k n before mid done old new lawful count rises is pushes =
    subst (λ (m : Marks). Appends Appended k before (numbered k.number m) old new) (sym is) (appended_here k n before done old new lawful count rises pushes)

pub append_failed : (k : Kept) (before after : Marks) (failed : Failed) (bytes : List ℕ) (old new : FileRecord) → Pushes (Err failed) before bytes old new
    → Appends DiskFault k before after old new
append_failed k before after failed bytes old new pushes kept appended stands =
    weaker (Keeps before kept) (Holds before.ring kept before.note) (λ left keeps. keeps.holds) old new (pushes kept stands.crash)

-- as it was written: what stands in front of the body, the body, and the sum of both
pub appended_parts : (k : Kept) (head : List ℕ) (before mid : Marks) (done : Unit {0}) (old new : FileRecord) → head ≡ head_bytes k.number k.time k.info → IsLawful k
    → before.next ≤ k.number → mid ≡ grown (length head + length k.body + 16) before → Pushes (Ok done) before ((head ++ k.body) ++ md5 (head ++ k.body)) old new
    → Appends Appended k before (numbered k.number mid) old new
appended_parts k head before mid done old new is lawful rises grew pushes =
    let bytes : (head ++ k.body) ++ md5 (head ++ k.body) ≡ record_bytes k = ap (λ (l : List ℕ). (l ++ k.body) ++ md5 (l ++ k.body)) is ∙ sym (record_is k) in
    let count : length head + length k.body + 16 ≡ length (record_bytes k) =
    omega (arith, ap length bytes, length-append (head ++ k.body) (md5 (head ++ k.body)), length-append head k.body, length-md5 (head ++ k.body)) in
    appended k (length head + length k.body + 16) before mid done old new lawful count rises grew (subst (λ (l : List ℕ). Pushes (Ok done) before l old new) bytes pushes)
