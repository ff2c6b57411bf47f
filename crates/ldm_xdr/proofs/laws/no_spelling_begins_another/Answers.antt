use Rattle.ldm_xdr.proofs.Whole.{spelled_once, no_longer}
use Rattle.ldm_xdr.proofs.laws.no_spelling_begins_another.Goals as goal

pub returns-clause-one : goal.returns-clause-one
returns-clause-one c = spelled_once

pub returns-clause-no_longer : goal.returns-clause-no_longer
returns-clause-no_longer c = no_longer
