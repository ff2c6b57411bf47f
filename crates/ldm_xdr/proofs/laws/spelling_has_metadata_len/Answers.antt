use Rattle.ldm_xdr.proofs.Whole.{length-spelling}
use Rattle.ldm_xdr.proofs.laws.spelling_has_metadata_len.Goals as goal

pub returns : goal.returns
returns c = length-spelling
