use Rattle.ldm_relay.proofs.NoResults.{refusal_no_result}
use Rattle.ldm_relay.proofs.laws.a_refusal_is_no_result.Goals as goal

pub returns : goal.returns
returns c = λ xid why a lt fits. refusal_no_result xid why a lt fits
