use Rattle.ldm_script.proofs.StoppingLines.{line_fault, too_long}
use Rattle.ldm_script.proofs.laws.finds_the_first_fault.Goals as goal

pub returns-clause-first : goal.returns-clause-first
returns-clause-first c = line_fault

pub returns-clause-long : goal.returns-clause-long
returns-clause-long c = too_long
