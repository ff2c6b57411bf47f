use Rattle.ldm_rpc.proofs.Split.{splits}
use Rattle.ldm_rpc.proofs.laws.what_is_read_is_spelled.Goals as goal

pub returns : goal.returns
returns c = splits
