use Rattle.ldm_wmo.proofs.Written.{written_found}
use Rattle.ldm_wmo.proofs.laws.written_bulletins_are_found.Goals as goal

pub returns : goal.returns
returns c = record { found = written_found }
