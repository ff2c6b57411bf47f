use Rattle.ldm_disk.specs.Moments.{Passes}
use Rattle.ldm_disk.proofs.CrashLemmas.{joined}
use Rattle.ldm_disk.proofs.laws.crashes_add_up.Goals as goal

pub returns : goal.returns
returns c test old mid new first next = joined (Passes test) old mid new first next
