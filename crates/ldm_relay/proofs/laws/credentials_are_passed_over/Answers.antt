use Rattle.ldm_relay.proofs.Credentials.{call_passed, reply_passed}
use Rattle.ldm_relay.proofs.laws.credentials_are_passed_over.Goals as goal

pub returns-clause-call : goal.returns-clause-call
returns-clause-call c = λ xid p a b body m lt fits_a fits_b e. call_passed xid p a b body m lt fits_a fits_b e

pub returns-clause-reply : goal.returns-clause-reply
returns-clause-reply c = λ xid number b body m lt fits e. reply_passed xid number b body m lt fits e
