use Rattle.ldm_pqact.specs.Carried.{DoesBy}
use Rattle.ldm_pqact.specs.declared.end.ActEnd.TheVariants as end
use Rattle.ldm_pqact.proofs.Finishing.{does_by}
use Rattle.ldm_pqact.proofs.writer.act_with.Goals as goal

pub returns-in-Err-clause-does : goal.returns-in-Err-clause-does
returns-in-Err-clause-does g c = does_by c.in-Err.end _ _ _ _ c.in-Err.ensures.does
