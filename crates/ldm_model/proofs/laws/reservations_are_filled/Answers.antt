use Rattle.ldm_model.proofs.FillingAnswered.{ObeysFilling-legal}
use Rattle.ldm_model.proofs.laws.reservations_are_filled.Goals as goal

pub returns : goal.returns
returns c = ObeysFilling-legal
