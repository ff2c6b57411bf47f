use Rattle.ldm_watch.proofs.Members.{feeds-number, feeds-read}
use Rattle.ldm_watch.proofs.law.names_are_read_back.Goals as goal

pub returns-clause-set : goal.returns-clause-set
returns-clause-set c = feeds-read

pub returns-clause-number : goal.returns-clause-number
returns-clause-number c = feeds-number
