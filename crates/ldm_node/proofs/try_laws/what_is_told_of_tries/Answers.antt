use Rattle.ldm_node.proofs.TryTelling.{works-ask, works-follow, works-log}
use Rattle.ldm_node.proofs.try_laws.what_is_told_of_tries.Goals as goal

pub returns-clause-asked : goal.returns-clause-asked
returns-clause-asked c = works-ask

pub returns-clause-logged : goal.returns-clause-logged
returns-clause-logged c = works-log

pub returns-clause-resumed : goal.returns-clause-resumed
returns-clause-resumed c = works-follow
