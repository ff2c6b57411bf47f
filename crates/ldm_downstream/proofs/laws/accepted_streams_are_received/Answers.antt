use Rattle.ldm_downstream.proofs.Complete.{completes}
use Rattle.ldm_downstream.proofs.laws.accepted_streams_are_received.Goals as goal

pub returns-clause-complete : goal.returns-clause-complete
returns-clause-complete c = completes

pub returns-clause-whatever : goal.returns-clause-whatever
returns-clause-whatever c = λ s stream old new accepts made rest calls. accepts old.actor made
