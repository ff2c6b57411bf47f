use Rattle.ldm_recorder.proofs.Telling.{all_is_committed}
use Rattle.ldm_recorder.proofs.laws.all_is_committed_where_the_gate_is_asked.Goals as goal

pub returns : goal.returns
returns c = all_is_committed
