use Rattle.ldm_check.proofs.Spelling.{no_fault}
use Rattle.ldm_check.proofs.laws.warnings_are_no_faults.Goals as goal

pub returns : goal.returns
returns c = λ warning. no_fault warning
