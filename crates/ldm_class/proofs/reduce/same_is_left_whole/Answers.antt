use Rattle.ldm_class.proofs.Left.{whole_left}
use Rattle.ldm_class.proofs.reduce.same_is_left_whole.Goals as goal

pub returns : goal.returns
returns c = whole_left
