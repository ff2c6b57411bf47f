use Rattle.std.proofs.Common.{refl}
use Rattle.std.specs.Fmt.{digits}
use Rattle.ldm_xdr.specs.Spelling.{number, opaque, spelling}
use Rattle.ldm_relay.specs.Spelling.{written, call_header, reply_header, accepted_header, no_authentication}
use Rattle.ldm_notify.proofs.examples.worked_examples.Goals as goal

pub returns-clause-bytes : goal.returns-clause-bytes
unfolding written call_header reply_header accepted_header no_authentication number opaque spelling
returns-clause-bytes c = refl

-- the numbers of the line are digits
pub returns-clause-losses : goal.returns-clause-losses
unfolding digits
returns-clause-losses c = refl
