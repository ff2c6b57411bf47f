-- What a journal kept is put back.
use Rattle.std.proofs.Common.{Option, None, Some, Ok}
use Rattle.std.specs.Prelude.{IfSome}
use Rattle.ldm_disk.specs.Told.{DiskRecord, FileRecord, IsSettled}
use Rattle.ldm_disk.specs.Calls.{Attaches, AttachesFile, FileChanges}
use Rattle.ldm_shared.specs.Passes.{PassView}
use Rattle.ldm_conf.specs.Confs.{ConfView}
use Rattle.ldm_node_command.specs.declared.restoring.RestoreFault.{RestoreFault}
use Rattle.ldm_node_command.specs.declared.restoring.RestoreFault.TheVariants.{NoDesk, OutOfMemory, NotAttached, NotOpened, NotRead, Worn, AllBusy}
use Rattle.ldm_node_command.specs.Restoring.{FailsAtDesk, FailsToRestore, NetRecord}
use Rattle.ldm_node_command.specs.Setup.{Setup}

settled_file : (old new : Option FileRecord) → FileChanges (AttachesFile (Ok tt)) old new → IfSome new IsSettled
settled_file None None attached = tt
settled_file None (Some new) attached = absurd attached
settled_file (Some old) None attached = absurd attached
settled_file (Some old) (Some new) attached = attached.settled

-- of a file that was attached nothing is pending
pub settled_after : (old new : DiskRecord) → Attaches (Ok tt) old new → IfSome new.file IsSettled
settled_after old new attached = settled_file old.file new.file attached.1

-- a desk was given, and the fault is one of what was done at it
pub fails_at_desk : (setup : Setup) (conf : ConfView) (why : RestoreFault) (pass : PassView) (old new : NetRecord) → FailsAtDesk setup conf why pass old new
    → FailsToRestore setup conf why pass old new
fails_at_desk setup conf NoDesk pass old new fails = absurd fails.puts
fails_at_desk setup conf OutOfMemory pass old new fails = absurd fails.puts
fails_at_desk setup conf NotAttached pass old new fails = fails
fails_at_desk setup conf (NotOpened why) pass old new fails = fails
fails_at_desk setup conf (NotRead why) pass old new fails = fails
fails_at_desk setup conf Worn pass old new fails = fails
fails_at_desk setup conf AllBusy pass old new fails = fails
