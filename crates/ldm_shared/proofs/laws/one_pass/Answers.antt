use Rattle.ldm_shared.proofs.Made.{all_own, goes_on_alone, alone_since_opening, alone_at_end}
use Rattle.ldm_shared.proofs.laws.one_pass.Goals as goal

pub returns-clause-all_own : goal.returns-clause-all_own
returns-clause-all_own c = all_own

pub returns-clause-goes_on : goal.returns-clause-goes_on
returns-clause-goes_on c = goes_on_alone

pub returns-clause-since_opening : goal.returns-clause-since_opening
returns-clause-since_opening c = alone_since_opening

pub returns-clause-at_end : goal.returns-clause-at_end
returns-clause-at_end c = alone_at_end
