-- What a file becomes over the calls of a command: for `OnlyReads`, `IsOpenedAs` and `SavesOver`.
use Rattle.std.proofs.Common.{◌≡◌, inl, inr, ℕ, true, List, Option, Some, None, IfSome, refl, sym, subst}
use Rattle.std.proofs.lemmas.Option.{none-some, same_Some}
use Rattle.ldm_disk.specs.Calls.{FileChanges, KeepsFile, SettlesFile}
use Rattle.ldm_disk.specs.Model.{Stays}
use Rattle.ldm_disk.specs.Moments.{LeavesOnly, Passes, Goes}
use Rattle.ldm_disk.specs.Told.{FileRecord, IsConsistent, IsSettled}
use Rattle.ldm_disk.proofs.CrashLemmas.{started, goes_on, joined, stays_keeps, still_settled, reads, leaves_now, weaker}
use Rattle.ldm_book.specs.View.{BookView}
use Rattle.ldm_image.specs.Image.{image}
use Rattle.ldm_image.specs.Saving.{MayBeLeft, SavesFile as SavesImage}
use Rattle.ldm_image.specs.declared.save.SaveEnd.{SaveEnd}
use Rattle.ldm_image.specs.declared.save.SaveEnd.TheVariants as save
use Rattle.ldm_play.specs.Files.{OnlyReads, IsImageOf, IsOpenedAs, LeftMeanwhile, SavesOver, IsSavedClosed, IsKept, Becomes}

-- what changed so changed so too, where the disk tells a file
pub changes : (P Q : FileRecord → FileRecord → Type 0) (a b : Option FileRecord) → IfSome a IsConsistent → IfSome b IsConsistent
    → ((old new : FileRecord) → IsConsistent old → IsConsistent new → P old new → Q old new) → FileChanges P a b → FileChanges Q a b
changes P Q None None at_a at_b step did = tt
changes P Q None (Some new) at_a at_b step did = absurd did
changes P Q (Some old) None at_a at_b step did = absurd did
changes P Q (Some old) (Some new) at_a at_b step did = step old new at_a at_b did

-- two changes, one after the other
pub changes_twice : (P Q R : FileRecord → FileRecord → Type 0) (a b c : Option FileRecord) → IfSome a IsConsistent → IfSome b IsConsistent → IfSome c IsConsistent
    → ((old mid new : FileRecord) → IsConsistent old → IsConsistent mid → IsConsistent new → P old mid → Q mid new → R old new) → FileChanges P a b → FileChanges Q b c → FileChanges R a c
changes_twice P Q R None None None at_a at_b at_c step first next = tt
changes_twice P Q R None None (Some new) at_a at_b at_c step first next = absurd next
changes_twice P Q R None (Some mid) c at_a at_b at_c step first next = absurd first
changes_twice P Q R (Some old) None c at_a at_b at_c step first next = absurd first
changes_twice P Q R (Some old) (Some mid) None at_a at_b at_c step first next = absurd next
changes_twice P Q R (Some old) (Some mid) (Some new) at_a at_b at_c step first next = step old mid new at_a at_b at_c first next

-- the file that is told then
pub told : (P : FileRecord → FileRecord → Type 0) (a b : Option FileRecord) (file : FileRecord) → a ≡ Some file → FileChanges P a b → (new : FileRecord) × (b ≡ Some new) × P file new
told P None b file is did = absurd (none-some file is)
told P (Some old) None file is did = absurd did
told P (Some old) (Some new) file is did = (new, refl, subst (λ (f : FileRecord). P f new) (same_Some old file is) did)

-- of what is told now
pub settled_now : (P : FileRecord → FileRecord → Type 0) (a b : Option FileRecord) → ((old new : FileRecord) → P old new → IsSettled new) → FileChanges P a b → IfSome b IsSettled
settled_now P None None step did = tt
settled_now P None (Some new) step did = absurd did
settled_now P (Some old) None step did = absurd did
settled_now P (Some old) (Some new) step did = step old new did

-- attaching a file only reads it
pub attach_reads : (old new : FileRecord) → IsConsistent old → Goes Stays old new → OnlyReads old new
attach_reads old new consistent goes =
    let P = Passes old.may_leave in
    goes_on P old old new (started P old consistent (λ left leaves. leaves)) goes.time (stays_keeps P old new (λ left leaves. leaves) goes.crash)

-- so does a call behind it that keeps it
pub reads_on : (old mid new : FileRecord) → IsConsistent mid → OnlyReads old mid → KeepsFile mid new → OnlyReads old new
reads_on old mid new consistent so_far keeps =
    let P = Passes old.may_leave in
    goes_on P old mid new so_far keeps.goes.time (stays_keeps P mid new (leaves_now P old mid consistent so_far) keeps.goes.crash)

-- the file as it was attached is one that a crash might have left
pub was_left : (old mid : FileRecord) → IsConsistent mid → OnlyReads old mid → old.may_leave mid.bytes ≡ true
was_left old mid consistent only = reads (Passes old.may_leave) old mid consistent only

-- of a settled file it is the file
pub as_it_was : (old mid : FileRecord) → IsConsistent mid → IsSettled old → OnlyReads old mid → mid.bytes ≡ old.bytes
as_it_was old mid consistent settled only = settled mid.bytes (was_left old mid consistent only)

-- a file that was attached and opened
pub opened_as : (opened : BookView) (old mid new : FileRecord) → IsConsistent old → IsConsistent mid → IsConsistent new → SettlesFile old mid → IsImageOf mid.bytes opened → KeepsFile mid new → IsOpenedAs opened old new
opened_as opened old mid new at_old at_mid at_new attached image keeps = record {
  reads = reads_on old mid new at_mid (attach_reads old mid at_old attached.goes) keeps;
  settled = still_settled mid new at_new attached.settled keeps.goes.crash;
  image = subst (λ (bytes : List ℕ). IsImageOf bytes opened) (sym keeps.bytes) image;
}

module _ (book : BookView) (old mid new : FileRecord) (consistent : IsConsistent mid) (only : OnlyReads old mid) where
  -- what a crash leaves over the whole command, by what it leaves while the queue is saved
  leaves_over : LeavesOnly (MayBeLeft book mid.bytes) mid new → SavesOver book mid.bytes old new
  leaves_over saving =
      let P = LeftMeanwhile book mid.bytes old in
      record {
        was = was_left old mid consistent only;
        leaves = joined P old mid new (weaker (Passes old.may_leave) P (λ left leaves. inl leaves) old mid only) (weaker (MayBeLeft book mid.bytes) P (λ left leaves. inr leaves) mid new saving);
      }

  pub saves_over : IsSavedClosed book (image book) → (end : SaveEnd) → SavesImage end book mid new → SavesOver book mid.bytes old new × Becomes end book new
  saves_over closed save.Saved saved =
      (leaves_over saved.0, record { bytes = saved.2; closed = subst (λ (bytes : List ℕ). IsSavedClosed book bytes) (sym saved.2) closed; settled = saved.1 })
  saves_over closed save.DiskFault saved = (leaves_over saved, tt)
  saves_over closed save.OutOfMemory same =
      let P = LeftMeanwhile book mid.bytes old in
      let so_far : LeavesOnly P old mid = weaker (Passes old.may_leave) P (λ left leaves. inl leaves) old mid only in
      (record { was = was_left old mid consistent only; leaves = subst (λ (f : FileRecord). LeavesOnly P old f) (sym same) so_far }, tt)

-- a file that could not be attached
pub unattached : (book : BookView) (old new : FileRecord) → IsConsistent old → Goes Stays old new → SavesOver book old.bytes old new
unattached book old new consistent goes = record {
  was = consistent.reads;
  leaves = weaker (Passes old.may_leave) (LeftMeanwhile book old.bytes old) (λ left leaves. inl leaves) old new (attach_reads old new consistent goes);
}
