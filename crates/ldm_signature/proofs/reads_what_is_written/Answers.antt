use Rattle.std.proofs.Common.{ap}
use Rattle.std.specs.Result.{result_ok}
use Rattle.hex.proofs.HexLemmas.{decode_sized-encode_lower}
use Rattle.ldm_signature.proofs.reads_what_is_written.Goals as goal

pub returns : goal.returns
returns c bytes sixteen small = ap result_ok (decode_sized-encode_lower bytes 16 sixteen small)
