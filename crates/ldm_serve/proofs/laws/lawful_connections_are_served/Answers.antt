use Rattle.ldm_serve.proofs.Complete.{completes}
use Rattle.ldm_serve.proofs.Lawful.{met, spelled}
use Rattle.ldm_serve.proofs.laws.lawful_connections_are_served.Goals as goal

pub returns-clause-served : goal.returns-clause-served
returns-clause-served c = completes

pub returns-clause-spelled : goal.returns-clause-spelled
returns-clause-spelled c = λ client. spelled client c.what_is_written_is_read.ensures c.records_are_read.ensures.records c.records_are_read.ensures.in_hand

pub returns-clause-met : goal.returns-clause-met
returns-clause-met c = met
