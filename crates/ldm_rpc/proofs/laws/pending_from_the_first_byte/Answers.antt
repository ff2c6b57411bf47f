use Rattle.ldm_rpc.proofs.Pending.{pending_begun, not_pending}
use Rattle.ldm_rpc.proofs.laws.pending_from_the_first_byte.Goals as goal

pub returns : goal.returns
returns c = record { none = not_pending; some = pending_begun }
