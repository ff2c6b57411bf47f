use Rattle.ldm_recorder.proofs.Leaving.{left_is_recorded}
use Rattle.ldm_recorder.proofs.laws.what_is_left_is_recorded.Goals as goal

pub returns : goal.returns
returns c = left_is_recorded
