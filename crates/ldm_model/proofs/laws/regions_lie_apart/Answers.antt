use Rattle.ldm_model.specs.History.{after}
use Rattle.ldm_model.proofs.ApartRegions.{occupied-within, occupied-apart}
use Rattle.ldm_model.proofs.ApartNext.{Laid-after}
use Rattle.ldm_model.proofs.Regions.{lies-on-eights, has-slots}
use Rattle.ldm_model.proofs.laws.regions_lie_apart.Goals as goal

pub returns-clause-within : goal.returns-clause-within
returns-clause-within c = λ arena slots history legal. occupied-within arena (after arena slots history) (Laid-after arena slots history)

pub returns-clause-apart : goal.returns-clause-apart
returns-clause-apart c = λ arena slots history legal. occupied-apart arena (after arena slots history) (Laid-after arena slots history)

pub returns-clause-eights : goal.returns-clause-eights
returns-clause-eights c = lies-on-eights

pub returns-clause-slots : goal.returns-clause-slots
returns-clause-slots c = has-slots
