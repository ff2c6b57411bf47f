use Rattle.ldm_model.proofs.Signatures.{signatures-differ}
use Rattle.ldm_model.proofs.laws.signatures_differ.Goals as goal

pub returns : goal.returns
returns c = signatures-differ
