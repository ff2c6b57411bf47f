use Rattle.ldm_wmo.proofs.Signed.{signed}
use Rattle.ldm_wmo.proofs.ingest_laws.what_is_signed.Goals as goal

pub returns : goal.returns
returns c = record { signed = signed }
