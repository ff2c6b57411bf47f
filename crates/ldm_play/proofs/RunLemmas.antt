-- The steps of these commands, put together: for `resume_file`, `save_new` and `check_file`.
use Rattle.std.proofs.Common.{◌≡◌, Option, Some, None, IfSome, subst}
use Rattle.ldm_disk.specs.Calls.{FileChanges}
use Rattle.ldm_disk.specs.Told.{DiskRecord, FileRecord, IsConsistent}
use Rattle.ldm_book.specs.View.{BookView}
use Rattle.ldm_image.specs.declared.open.ImageFault.TheVariants as fault
use Rattle.ldm_status.specs.Streams.{StreamsRecord}
use Rattle.ldm_script.specs.Resolve.{Playing}
use Rattle.ldm_play.specs.declared.play_command.ScriptEnd.{ScriptEnd}
use Rattle.ldm_play.specs.declared.play_command.ScriptEnd.TheVariants as script_end
use Rattle.ldm_play.specs.OnBook.{PlaysOn}
use Rattle.ldm_play.specs.Files.{IsOpenedAs, IsNotOpened, LeavesClosed}
use Rattle.ldm_play.specs.SavingLaw.{HasImage}
use Rattle.ldm_play.proofs.FileLemmas.{changes, was_left}

-- a file that was opened, without memory to go on
pub opened_closed : (opened : BookView) (old new : DiskRecord) → IfSome old.file IsConsistent → IfSome new.file IsConsistent → FileChanges (IsOpenedAs opened) old.file new.file → LeavesClosed fault.OutOfMemory old new
opened_closed opened old new at_old at_new opens =
    (tt, changes (IsOpenedAs opened) (IsNotOpened fault.OutOfMemory) old.file new.file at_old at_new (λ was is cw ci opening. record { reads = opening.reads; closed = tt }) opens)

-- a file that might be so has the image of the queue that was opened
pub has_image : (opened : BookView) (old new : DiskRecord) → IfSome new.file IsConsistent → FileChanges (IsOpenedAs opened) old.file new.file → HasImage opened old
has_image opened old new consistent opens = by_files old.file new.file consistent opens
  where
    by_files : (a b : Option FileRecord) → IfSome b IsConsistent → FileChanges (IsOpenedAs opened) a b → HasImage opened (record old { file = a })
    by_files None None at_b did = tt
    by_files None (Some new) at_b did = tt
    by_files (Some was) None at_b did = absurd did
    by_files (Some was) (Some is) at_b did = (is.bytes, was_left was is at_b did.reads, did.image)

-- a play that came to its end
pub played_done : (ending : ScriptEnd) (p : Playing) (book : BookView) (old new : StreamsRecord) → ending ≡ script_end.Done → PlaysOn ending p book old new → PlaysOn script_end.Done p book old new
played_done ending p book old new done plays = subst (λ (e : ScriptEnd). PlaysOn e p book old new) done plays
