use Rattle.ldm_disk.specs.Moments.{Passes}
use Rattle.ldm_disk.proofs.CrashLemmas.{started, run_goes_on}
use Rattle.ldm_disk.proofs.laws.crashes_keep.Goals as goal

pub returns : goal.returns
returns c test steps old new consistent now keeps run = run_goes_on test steps old old new (started (Passes test) old consistent now) now keeps run
