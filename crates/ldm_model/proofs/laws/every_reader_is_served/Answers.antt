use Rattle.ldm_model.proofs.Lawful.{ObeysLaw-legal}
use Rattle.ldm_model.proofs.laws.every_reader_is_served.Goals as goal

pub returns : goal.returns
returns c = record { obeys_law = ObeysLaw-legal }
