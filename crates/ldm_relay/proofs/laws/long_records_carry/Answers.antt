use Rattle.ldm_relay.proofs.LongRecords.{others_long, blocks_long, no_reply_long, no_refusal_long}
use Rattle.ldm_relay.proofs.laws.long_records_carry.Goals as goal

pub returns-clause-others : goal.returns-clause-others
returns-clause-others c = others_long

pub returns-clause-blocks : goal.returns-clause-blocks
returns-clause-blocks c = blocks_long

pub returns-clause-replies : goal.returns-clause-replies
returns-clause-replies c = no_reply_long

pub returns-clause-refusals : goal.returns-clause-refusals
returns-clause-refusals c = no_refusal_long
