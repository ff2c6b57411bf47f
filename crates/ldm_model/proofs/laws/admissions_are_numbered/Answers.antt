use Rattle.ldm_model.proofs.Numbered.{number-admissions, number-commits, end-admissions}
use Rattle.ldm_model.proofs.laws.admissions_are_numbered.Goals as goal

pub returns-clause-number : goal.returns-clause-number
returns-clause-number c = number-admissions

pub returns-clause-committed : goal.returns-clause-committed
returns-clause-committed c = number-commits

pub returns-clause-end : goal.returns-clause-end
returns-clause-end c = end-admissions
