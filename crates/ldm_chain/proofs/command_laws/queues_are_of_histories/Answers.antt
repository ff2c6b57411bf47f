use Rattle.ldm_chain.proofs.ChainHistoryLemmas.{chained}
use Rattle.ldm_chain.proofs.command_laws.queues_are_of_histories.Goals as goal

pub returns : goal.returns
returns c = λ work code old new has obeys. chained work old new code has obeys
