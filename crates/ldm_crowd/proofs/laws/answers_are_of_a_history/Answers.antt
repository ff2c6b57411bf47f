use Rattle.ldm_crowd.proofs.CrowdHistoryLemmas.{answered}
use Rattle.ldm_crowd.proofs.laws.answers_are_of_a_history.Goals as goal

pub returns : goal.returns
returns c = λ size code old new has obeys. answered size old new code has obeys
