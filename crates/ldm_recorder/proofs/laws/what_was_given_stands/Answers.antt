use Rattle.ldm_recorder.proofs.Telling.{left_of_all}
use Rattle.ldm_recorder.proofs.laws.what_was_given_stands.Goals as goal

pub returns : goal.returns
returns c = left_of_all
