use Rattle.ldm_notify.proofs.Complete.{completes}
use Rattle.ldm_notify.proofs.laws.notices_are_completed.Goals as goal

pub returns : goal.returns
returns c = completes
