-- Attaching a file, and opening or saving a queue in it: for `open_file` and `save_file`.
use Rattle.std.proofs.Common.{◌≡◌, ◌∙◌, ◌≤◌, ℕ, List, Bool, true, false, Option, Some, None, IfSome, IfOk, IfErr, OnOk, Result, Ok, Err, refl, sym, ap, subst}
use Rattle.ldm_outside.specs.Count.{Rose}
use Rattle.ldm_outside.specs.declared.fault.Failed.{Failed}
use Rattle.ldm_outside.proofs.CallerLemmas.{Rose-later}
use Rattle.ldm_disk.specs.Calls.{Attaches, AttachesFile, FileChanges, KeepsDisk, KeepsFile, SettlesFile}
use Rattle.ldm_disk.specs.Told.{DiskRecord, FileRecord, IsConsistent, IsSettled}
use Rattle.ldm_disk.proofs.CrashLemmas.{still_settled}
use Rattle.ldm_book.specs.View.{BookView}
use Rattle.ldm_image.specs.Image.{image, IsImage}
use Rattle.ldm_image.specs.Saving.{EndsSaving, IsReady, SavesFile as SavesImage}
use Rattle.ldm_image.specs.Opening.{OpenCause, OpensImage, OpensFile}
use Rattle.ldm_image.specs.declared.save.SaveEnd.{SaveEnd}
use Rattle.ldm_image.specs.declared.save.SaveEnd.TheVariants as save
use Rattle.ldm_image.specs.declared.open.ImageFault.{ImageFault}
use Rattle.ldm_image.specs.declared.open.ImageFault.TheVariants as fault
use Rattle.ldm_play.specs.SavingComplete.{IsReadable}
use Rattle.ldm_play.specs.Files.{HasOpenCause, HasSaveCause, IsSavedClosed, IsOpenedAs, IsClosedBy, IsNotOpened, LeavesClosed, SavesFile, Saves, SavesAgainFile, SavesAgain, OnlyReads}
use Rattle.ldm_play.specs.Steps.{IsOpenedFrom, OpensAs}
use Rattle.ldm_play.proofs.FileLemmas.{changes, changes_twice, told, settled_now, attach_reads, reads_on, as_it_was, opened_as, saves_over, unattached}

-- a file that was attached
pub attached_ready : (old new : DiskRecord) → Attaches (Ok tt) old new → IsReady new
attached_ready old new attaches = record {
  attached = attaches.0;
  settled = settled_now SettlesFile old.file new.file (λ was is settles. settles.settled) attaches.1;
}

-- a file that was not
module _ (old new : DiskRecord) (at_old : IfSome old.file IsConsistent) (at_new : IfSome new.file IsConsistent) (why : Failed) (attaches : Attaches (Err why) old new) (rose : Rose old.faults new.faults) where
  pub unattached_saves : (book : BookView) → Saves save.DiskFault book old new
  unattached_saves book =
      (rose, changes (AttachesFile (Err why)) (SavesFile save.DiskFault book) old.file new.file at_old at_new (λ was is cw ci goes. (was.bytes, unattached book was is cw goes, tt)) attaches.1)

  pub unattached_closed : LeavesClosed fault.DiskFault old new
  unattached_closed =
      (rose, changes (AttachesFile (Err why)) (IsNotOpened fault.DiskFault) old.file new.file at_old at_new (λ was is cw ci goes. record { reads = attach_reads was is cw goes; closed = tt }) attaches.1)

  -- a disk that fails does not read an image
  pub unattached_comes : OpensAs (Err fault.DiskFault) old new
  unattached_comes = λ book readable. absurd (readable.works rose)

-- a fault of the disk while a queue is saved or opened
save_cause : (end : SaveEnd) (old mid new : DiskRecord) → old.faults ≤ mid.faults → EndsSaving end mid new → HasSaveCause end old new
save_cause save.Saved old mid new kept cause = tt
save_cause save.DiskFault old mid new kept cause = Rose-later old.faults mid.faults new.faults kept cause
save_cause save.OutOfMemory old mid new kept cause = tt

open_cause : (why : ImageFault) (old mid new : DiskRecord) → old.faults ≤ mid.faults → OpenCause (Err why) mid new → HasOpenCause why old new
open_cause (fault.Unclean gate) old mid new kept cause = tt
open_cause (fault.BadImage at) old mid new kept cause = tt
open_cause fault.DiskFault old mid new kept cause = Rose-later old.faults mid.faults new.faults kept cause
open_cause fault.OutOfMemory old mid new kept cause = tt

-- why a file was not opened, which is read alone
closed_by : (why : ImageFault) (before after : FileRecord) → OpensFile (Err why) before.bytes → KeepsFile before after → IsClosedBy why after.bytes
closed_by (fault.Unclean gate) before after closed keeps = subst (λ (bytes : List ℕ). IsClosedBy (fault.Unclean gate) bytes) (sym keeps.bytes) (closed.0, closed.1)
closed_by (fault.BadImage at) before after closed keeps = subst (λ (bytes : List ℕ). IsClosedBy (fault.BadImage at) bytes) (sym keeps.bytes) (closed.0, closed.1, closed.2)
closed_by fault.DiskFault before after closed keeps = tt
closed_by fault.OutOfMemory before after closed keeps = tt

-- what one call of `open_image` did to the file
abbrev Opening : Result BookView ImageFault → FileRecord → FileRecord → Type 0
Opening result before after = OpensFile result before.bytes × KeepsFile before after

-- a queue was saved over a file that was opened and only read so far
pub saves_again : (end : SaveEnd) (opened book : BookView) (old mid new : DiskRecord) → IsSavedClosed book (image book) → IfSome old.file IsConsistent → IfSome mid.file IsConsistent → IfSome new.file IsConsistent → old.faults ≤ mid.faults
    → FileChanges (IsOpenedAs opened) old.file mid.file → FileChanges (SavesImage end book) mid.file new.file → EndsSaving end mid new → SavesAgain end opened book old new
saves_again end opened book old mid new closed at_old at_mid at_new kept is_opened saves ends = (
  save_cause end old mid new kept ends,
  changes_twice (IsOpenedAs opened) (SavesImage end book) (SavesAgainFile end opened book) old.file mid.file new.file at_old at_mid at_new
      (λ o m n co cm cn opens saved. let over = saves_over book o m n cm opens.reads closed end saved in (m.bytes, opens.image, over.0, over.1)) is_opened saves,
)

module _ (old mid new : DiskRecord) (at_old : IfSome old.file IsConsistent) (at_mid : IfSome mid.file IsConsistent) (at_new : IfSome new.file IsConsistent) (attaches : Attaches (Ok tt) old mid) (kept : old.faults ≤ mid.faults) where
  -- a queue was saved over a file that was attached
  pub attached_saves : (end : SaveEnd) (book : BookView) → IsSavedClosed book (image book) → FileChanges (SavesImage end book) mid.file new.file → EndsSaving end mid new → Saves end book old new
  attached_saves end book closed saves ends = (
    save_cause end old mid new kept ends,
    changes_twice SettlesFile (SavesImage end book) (SavesFile end book) old.file mid.file new.file at_old at_mid at_new
        (λ o m n co cm cn settling saved. let over = saves_over book o m n cm (attach_reads o m co settling.goes) closed end saved in (m.bytes, over.0, over.1)) attaches.1 saves,
  )

  -- one was opened, or not
  pub attached_opens : (result : Result BookView ImageFault) → OpensImage result mid new → IfOk result (λ opened. FileChanges (IsOpenedAs opened) old.file new.file)
  attached_opens (Ok opened) opens =
      changes_twice SettlesFile (Opening (Ok opened)) (IsOpenedAs opened) old.file mid.file new.file at_old at_mid at_new
      (λ o m n co cm cn settling did. opened_as opened o m n co cm cn settling (record { is_image = did.0.0; only = did.0.1 }) did.1) attaches.1 opens.1
  attached_opens (Err why) opens = tt

  pub attached_closed : (result : Result BookView ImageFault) → OpensImage result mid new → IfErr result (λ why. LeavesClosed why old new)
  attached_closed (Ok opened) opens = tt
  attached_closed (Err why) opens = (
    open_cause why old mid new kept opens.0,
    changes_twice SettlesFile (Opening (Err why)) (IsNotOpened why) old.file mid.file new.file at_old at_mid at_new
        (λ o m n co cm cn settling did. record { reads = reads_on o m n cm (attach_reads o m co settling.goes) did.1; closed = closed_by why m n did.0 did.1 }) attaches.1 opens.1,
  )

  -- the disk is ready for a queue to be saved
  pub opened_ready : (result : Result BookView ImageFault) → OpensImage result mid new → KeepsDisk mid new → OnOk result (IsReady new)
  opened_ready (Ok opened) opens keeps = record {
    attached = keeps.attached ∙ attaches.0;
    settled = settled_now (IsOpenedAs opened) old.file new.file (λ was is opening. opening.settled) (attached_opens (Ok opened) opens);
  }
  opened_ready (Err why) opens keeps = tt

  -- an image opens as its queue, where there is memory
  pub attached_comes : (result : Result BookView ImageFault) → OpensImage result mid new → OpensAs result old new
  attached_comes result opens = λ book readable.
      let first = told SettlesFile old.file mid.file readable.file readable.told attaches.1 in
      let next = told (Opening result) mid.file new.file first.0 first.1 opens.1 in
      let consistent : IsConsistent first.0 = subst (λ (f : Option FileRecord). IfSome f IsConsistent) first.1 at_mid in
      let at_first : IsConsistent readable.file = subst (λ (f : Option FileRecord). IfSome f IsConsistent) readable.told at_old in
      let same : first.0.bytes ≡ readable.file.bytes = as_it_was readable.file first.0 consistent readable.settled (attach_reads readable.file first.0 at_first first.2.goes) in
      let is_image : IsImage first.0.bytes book = subst (λ (bytes : List ℕ). IsImage bytes book) (sym same) readable.is_image in
      comes result book first.0.bytes is_image next.2.0 opens.0 (λ rose. readable.works (Rose-later old.faults mid.faults new.faults kept rose))
    where
      comes : (r : Result BookView ImageFault) (book : BookView) (file : List ℕ) → IsImage file book → OpensFile r file → OpenCause r mid new → ¬ (Rose mid.faults new.faults) → IsOpenedFrom r book
      comes (Ok opened) book file is_image opens_it cause works = opens_it.1 book is_image
      comes (Err (fault.Unclean gate)) book file is_image closed cause works = absurd (closed.2 book is_image)
      comes (Err (fault.BadImage at)) book file is_image closed cause works = absurd (closed.2 book is_image)
      comes (Err fault.DiskFault) book file is_image closed cause works = absurd (works cause)
      comes (Err fault.OutOfMemory) book file is_image closed cause works = refl
