use Rattle.ldm_node.proofs.VisitTelling.{works-back, works-hosts, works-log, works-out, works-stopped}
use Rattle.ldm_node.proofs.visit_laws.what_is_told_of_visits.Goals as goal

pub returns-clause-came : goal.returns-clause-came
returns-clause-came c = works-hosts

pub returns-clause-logged : goal.returns-clause-logged
returns-clause-logged c = works-log

pub returns-clause-stopped : goal.returns-clause-stopped
returns-clause-stopped c = works-stopped

pub returns-clause-given_back : goal.returns-clause-given_back
returns-clause-given_back c = works-back

pub returns-clause-none_out : goal.returns-clause-none_out
returns-clause-none_out c = works-out
