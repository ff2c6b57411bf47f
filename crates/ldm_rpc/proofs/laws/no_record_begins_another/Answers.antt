use Rattle.ldm_rpc.proofs.Once.{spelled_once, no_longer}
use Rattle.ldm_rpc.proofs.Contents.{one_way}
use Rattle.ldm_rpc.proofs.laws.no_record_begins_another.Goals as goal

pub returns : goal.returns
returns c = record { one = spelled_once; no_longer = no_longer; one_way = one_way }
