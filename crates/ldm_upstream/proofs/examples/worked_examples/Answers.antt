use Rattle.std.proofs.Common.{refl}
use Rattle.std.specs.Fmt.{digits}
use Rattle.ldm_upstream.proofs.examples.worked_examples.Goals as goal

-- the numbers of the line are digits
pub returns-clause-losses : goal.returns-clause-losses
unfolding digits
returns-clause-losses c = refl
