use Rattle.ldm_model.proofs.Admitted.{AreAdmitted-after}
use Rattle.ldm_model.proofs.laws.products_were_admitted.Goals as goal

pub returns : goal.returns
returns c = λ arena slots history legal. AreAdmitted-after arena slots history legal
