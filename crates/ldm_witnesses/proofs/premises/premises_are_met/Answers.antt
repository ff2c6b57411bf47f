use Rattle.ldm_witnesses.proofs.Unhindered.{play_unhindered, crowd_unhindered, chain_unhindered, node_unhindered, journal_unhindered}
use Rattle.ldm_witnesses.proofs.premises.premises_are_met.Goals as goal

pub returns-clause-play : goal.returns-clause-play
returns-clause-play c = play_unhindered

pub returns-clause-crowd : goal.returns-clause-crowd
returns-clause-crowd c = crowd_unhindered

pub returns-clause-chain : goal.returns-clause-chain
returns-clause-chain c = chain_unhindered

pub returns-clause-node : goal.returns-clause-node
returns-clause-node c = node_unhindered

pub returns-clause-journal : goal.returns-clause-journal
returns-clause-journal c = journal_unhindered
