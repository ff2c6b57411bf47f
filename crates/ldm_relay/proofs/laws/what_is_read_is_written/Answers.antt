use Rattle.ldm_xdr.proofs.FieldsFound.{bytes_fit}
use Rattle.ldm_relay.proofs.MessagesFound.{call_spelled, reply_spelled, refusal_spelled}
use Rattle.ldm_relay.proofs.laws.what_is_read_is_written.Goals as goal

pub returns-clause-call : goal.returns-clause-call
returns-clause-call c = λ xid p body m lt bytes e. call_spelled xid p body m lt (bytes_fit body bytes) e

pub returns-clause-reply : goal.returns-clause-reply
returns-clause-reply c = λ xid number body m lt bytes e. reply_spelled xid number body m lt (bytes_fit body bytes) e

pub returns-clause-refusal : goal.returns-clause-refusal
returns-clause-refusal c = λ xid body m lt bytes e. refusal_spelled xid body m lt (bytes_fit body bytes) e
