use Rattle.std.proofs.Common.{refl}
use Rattle.ldm_pqact_match.specs.Forms.{form_at, mark_at, part_at, pieces_behind}
use Rattle.ldm_pqact_match.proofs.law.worked_examples_of_days.Goals as goal

pub returns-clause-asked : goal.returns-clause-asked
unfolding pieces_behind form_at mark_at part_at
returns-clause-asked c = refl
