use Rattle.std.proofs.Common.{◌≡◌, ◌∙◌, ap, rules}
use Rattle.std.specs.Result.{result_ok}
use Rattle.hex.specs.Hex.{encode_lower}
use Rattle.hex.proofs.HexLemmas.{decode_sized-encode_lower}
use Rattle.ldm_signature.specs.HexSignature.{hex_signature}
use Rattle.ldm_signature.proofs.write_hex.Goals as goal

pub returns-clause-read_back : goal.returns-clause-read_back
returns-clause-read_back c =
    let digits : c.from.result.items ≡ encode_lower c.args.s.now.0 = search rules in
    ap hex_signature digits
    ∙ ap result_ok (decode_sized-encode_lower c.args.s.now.0 16 c.are_bytes.ensures.count c.are_bytes.ensures.small)
