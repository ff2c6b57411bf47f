use Rattle.ldm_model.specs.State.{empty}
use Rattle.ldm_model.proofs.HeldNext.{HoldsQueued-after, HoldsQueued-empty}
use Rattle.ldm_model.proofs.laws.held_products_are_queued.Goals as goal

pub returns : goal.returns
returns c = λ arena slots history legal. HoldsQueued-after history (empty arena slots) (HoldsQueued-empty arena slots)
