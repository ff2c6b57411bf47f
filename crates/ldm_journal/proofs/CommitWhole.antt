-- A commit as clauses say it: what goes from the front, and then the turn of the heads.
use Rattle.std.proofs.Common.{◌≡◌, inl, ℕ, ◌+◌, ◌-◌, ◌≤◌, true, false, cond, List, [], ◌∷◌, ◌++◌, sym, ◌∙◌, ap, subst, arith}
use Rattle.std.specs.Prelude.{Option, Some, None, IfSome, Ok, Err, nat_le}
use Rattle.std.specs.List.{AllByRecursion}
use Rattle.ldm_outside.specs.declared.fault.Failed.{Failed}
use Rattle.ldm_disk.specs.Told.{FileRecord, DiskRecord, IsConsistent, IsSettled}
use Rattle.ldm_disk.specs.Moments.{LeavesOnly}
use Rattle.ldm_disk.specs.Calls.{FileChanges, KeepsFile}
use Rattle.ldm_disk.proofs.CrashLemmas.{started, goes_on, joined, stays_keeps}
use Rattle.ldm_journal.specs.declared.marks.Marks.{Marks}
use Rattle.ldm_journal.specs.declared.fault.JournalFault.{JournalFault}
use Rattle.ldm_journal.specs.declared.fault.JournalFault.TheVariants as fault
use Rattle.ldm_journal.specs.Reading.{FaultRose}
use Rattle.ldm_journal.specs.declared.commit.CommitEnd.TheVariants.{Committed, DiskFault}
use Rattle.ldm_journal.specs.Records.{Kept, size_of, fitting, IsLawful, AreRising}
use Rattle.ldm_journal.specs.Format.{around}
use Rattle.ldm_journal.specs.Standing.{Keeps, Stands}
use Rattle.ldm_journal.specs.Committing.{Commits, DropsFor, EndsCommitting, end_of, HoldsEither, IsLeft, Turns, kept_after}
use Rattle.ldm_journal.proofs.DropLemmas.{all_lawful}

lawful_fitting : (most : ℕ) (all : List Kept) → AllByRecursion IsLawful all → AllByRecursion IsLawful (fitting most all)
lawful_fitting most [] lawful = tt
lawful_fitting most (k ∷ all) lawful =
    elim (nat_le (size_of (k ∷ all)) most) as (λ b. AllByRecursion IsLawful (cond b (k ∷ all) (fitting most all))) [
      | true ↦ lawful
      | false ↦ lawful_fitting most all lawful.1
    ]

rising_from : (from lower : ℕ) (all : List Kept) (below : ℕ) → lower ≤ from → AreRising from all below → AreRising lower all below
rising_from from lower [] below le rising = omega (arith, le, rising)
rising_from from lower (k ∷ all) below le rising = (omega (arith, le, rising.0), rising.1)

rising_fitting : (most from : ℕ) (all : List Kept) (below : ℕ) → AreRising from all below → AreRising from (fitting most all) below
rising_fitting most from [] below rising = rising
rising_fitting most from (k ∷ all) below rising =
    elim (nat_le (size_of (k ∷ all)) most) as (λ b. AreRising from (cond b (k ∷ all) (fitting most all)) below) [
      | true ↦ rising
      | false ↦ rising_from (k.number + 1) from (fitting most all) below (omega (arith, rising.0)) (rising_fitting most (k.number + 1) all below rising.1)
    ]

-- an open journal goes on to stand for its products where its file was read
pub stands_on : (marks : Marks) (kept appended : List Kept) (old mid : FileRecord) → KeepsFile old mid → Stands marks kept appended old → Stands marks kept appended mid
stands_on marks kept appended old mid keeps stands = record {
  crash = λ left leaves.
      (let from = keeps.goes.crash left leaves in
      subst (λ (f : List ℕ). Keeps marks kept f) (sym from.2) (stands.crash from.0 from.1));
  behind = ap (λ (bytes : List ℕ). around marks.ring (marks.front + marks.used) marks.appended bytes) keeps.bytes ∙ stands.behind;
  lawful = stands.lawful;
  rising = stands.rising;
}

module _ (gap dropped : ℕ) (note : List ℕ) (marks : Marks) (old mid : FileRecord) (consistent : IsConsistent old) (keeps : KeepsFile old mid)
    (drops : DropsFor (Ok dropped) gap marks old) (kept appended : List Kept) (stands : Stands marks kept appended old) where
  abbrev left : List Kept
  left = kept_after gap marks kept appended

  is_left : IsLeft dropped marks kept appended left
  is_left = record {
    records = drops kept appended stands;
    lawful = lawful_fitting (marks.ring - gap) (kept ++ appended) (all_lawful marks kept appended old consistent stands);
    rising = rising_fitting (marks.ring - gap) 0 (kept ++ appended) marks.next stands.rising;
  }

  pub read_leaves : LeavesOnly (HoldsEither marks.ring kept marks.note left note) old mid
  read_leaves =
      let P = HoldsEither marks.ring kept marks.note left note in
      let now : (l : List ℕ) → old.may_leave l ≡ true → P l = λ l leaves. inl (stands.crash l leaves).holds in
      goes_on P old old mid (started P old consistent now) keeps.goes.time (stays_keeps P old mid now keeps.goes.crash)

  pub committed_here : (done : Unit {0}) (after : Marks) (new : FileRecord) → Turns (Ok done) dropped note marks after mid new
      → Stands after left [] new × IsSettled new × LeavesOnly (HoldsEither marks.ring kept marks.note left note) old new
  committed_here done after new turns =
      let t = turns kept appended left (stands_on marks kept appended old mid keeps stands) is_left in
      (t.0, t.1, joined (HoldsEither marks.ring kept marks.note left note) old mid new read_leaves t.2)

  pub broken_off : (failed : Failed) (after : Marks) (new : FileRecord) → Turns (Err failed) dropped note marks after mid new → LeavesOnly (HoldsEither marks.ring kept marks.note left note) old new
  broken_off failed after new turns =
      joined (HoldsEither marks.ring kept marks.note left note) old mid new read_leaves (turns kept appended left (stands_on marks kept appended old mid keeps stands) is_left)

pub commits : (gap dropped : ℕ) (note : List ℕ) (marks after : Marks) (done : Unit {0}) (old mid new : FileRecord) → IsConsistent old → KeepsFile old mid × DropsFor (Ok dropped) gap marks old
    → Turns (Ok done) dropped note marks after mid new → Commits Committed gap note marks after old new
commits gap dropped note marks after done old mid new consistent first turns kept appended stands =
    committed_here gap dropped note marks old mid consistent first.0 first.1 kept appended stands done after new turns

pub commit_fails : (gap dropped : ℕ) (note : List ℕ) (marks after : Marks) (failed : Failed) (old mid new : FileRecord) → IsConsistent old → KeepsFile old mid × DropsFor (Ok dropped) gap marks old
    → Turns (Err failed) dropped note marks after mid new → Commits DiskFault gap note marks after old new
commit_fails gap dropped note marks after failed old mid new consistent first turns kept appended stands =
    broken_off gap dropped note marks old mid consistent first.0 first.1 kept appended stands failed after new turns

-- the disk failed while the lengths of records were read
pub commit_not_read : (gap : ℕ) (note : List ℕ) (marks after : Marks) (old new : FileRecord) → IsConsistent old → KeepsFile old new → Commits DiskFault gap note marks after old new
commit_not_read gap note marks after old new consistent keeps kept appended stands =
    let P = HoldsEither marks.ring kept marks.note (kept_after gap marks kept appended) note in
    let now : (l : List ℕ) → old.may_leave l ≡ true → P l = λ l leaves. inl (stands.crash l leaves).holds in
    goes_on P old old new (started P old consistent now) keeps.goes.time (stays_keeps P old new now keeps.goes.crash)

-- the length of a record could not be read
pub not_dropped : (why : JournalFault) (gap : ℕ) (note : List ℕ) (marks after : Marks) (old new : FileRecord) → IsConsistent old → KeepsFile old new × DropsFor (Err why) gap marks old
    → Commits (end_of why) gap note marks after old new
not_dropped fault.DiskFault gap note marks after old new consistent first = commit_not_read gap note marks after old new consistent first.0
not_dropped fault.NotAJournal gap note marks after old new consistent first = first.1
not_dropped fault.OtherRing gap note marks after old new consistent first = first.1
not_dropped fault.OtherLength gap note marks after old new consistent first = first.1
not_dropped fault.BadHead gap note marks after old new consistent first = first.1
not_dropped fault.BadRecord gap note marks after old new consistent first = first.1
not_dropped fault.OutOfMemory gap note marks after old new consistent first = first.1

pub ends_so : (why : JournalFault) (old new : DiskRecord) → old.faults ≤ new.faults → FaultRose why old new → EndsCommitting (end_of why) old new
ends_so fault.DiskFault old new le rose = rose
ends_so fault.NotAJournal old new le rose = le
ends_so fault.OtherRing old new le rose = le
ends_so fault.OtherLength old new le rose = le
ends_so fault.BadHead old new le rose = le
ends_so fault.BadRecord old new le rose = le
ends_so fault.OutOfMemory old new le rose = le

-- what a disk tells of its file, and what was read of it
pub with_drops : (P : FileRecord → Type 0) (old new : Option FileRecord) → FileChanges KeepsFile old new → IfSome old P → FileChanges (λ a b. KeepsFile a b × P a) old new
with_drops P None None keeps p = tt
with_drops P None (Some new) keeps p = absurd keeps
with_drops P (Some old) None keeps p = absurd keeps
with_drops P (Some old) (Some new) keeps p = (keeps, p)
