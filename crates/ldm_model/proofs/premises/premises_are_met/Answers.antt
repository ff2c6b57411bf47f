use Rattle.ldm_model.proofs.Witnesses.{inserts_first, reads_on, fills_on}
use Rattle.ldm_model.proofs.premises.premises_are_met.Goals as goal

pub returns-clause-insertable : goal.returns-clause-insertable
returns-clause-insertable c = inserts_first

pub returns-clause-point : goal.returns-clause-point
returns-clause-point c = reads_on

pub returns-clause-filling : goal.returns-clause-filling
returns-clause-filling c = fills_on
