use Rattle.ldm_wmo.proofs.Decoded.{bulletin_spelled}
use Rattle.ldm_wmo.proofs.Spelled.{bulletin_read}
use Rattle.ldm_wmo.proofs.laws.bulletins_are_read.Goals as goal

pub returns : goal.returns
returns c = record { read = bulletin_read; spelled = bulletin_spelled }
