use Rattle.std.proofs.Common.{sym, ◌∙◌}
use Rattle.hex.proofs.HexLemmas.{IsOk-decode_sized}
use Rattle.ldm_signature.proofs.read_hex.Goals as goal

pub returns-clause-digits : goal.returns-clause-digits
returns-clause-digits c =
    let digits = IsOk-decode_sized c.args.text.now 16 in
    let sized = c.from_hex.ensures in
    let variant = c.map.ensures.variant ∙ c.ok.ensures.variant in (
      λ some. digits.0 (rw sized at (sym variant ∙ some)),
      λ holds. variant ∙ rw sized (digits.1 holds),
    )
