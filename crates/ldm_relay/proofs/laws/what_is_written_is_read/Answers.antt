use Rattle.ldm_relay.proofs.MessagesAgain.{message_again}
use Rattle.ldm_relay.proofs.laws.what_is_written_is_read.Goals as goal

pub returns : goal.returns
returns c = message_again
