use Rattle.std.proofs.Common.{◌≡◌, ℕ, List, Some, decimal, subst}
use Rattle.hex.specs.Hex.{IsBytes, encode_lower}
use Rattle.ldm_feedtype.specs.Text.{feed_digits}
use Rattle.ldm_feedtype.specs.Reading.{feed_number}
use Rattle.ldm_signature.specs.HexSignature.{hex_signature}
use Rattle.ldm_types.specs.Info.{TextsFit}
use Rattle.ldm_answers.specs.Number.{four_bytes}
use Rattle.ldm_answers.proofs.Fitting.{texts_free}
use Rattle.ldm_answers.proofs.ReadFields.{text_up_to-spelled}
use Rattle.ldm_answers.proofs.put_fields.put_product_fields.Goals as goal

pub returns-clause-read_back : goal.returns-clause-read_back
returns-clause-read_back c =
    let info = c.args.info.now in
    let fit : TextsFit info = c.origin.ensures.bounds in
    let free = texts_free info fit in
    let origin_bytes : IsBytes info.origin = subst IsBytes c.origin.ensures.value c.put_blank_text.ensures.bytes in
    let ident_bytes : IsBytes info.ident = subst IsBytes c.ident.ensures.value c.put_blank_text-2.ensures.bytes in
    record {
      signature = subst (λ (s : List ℕ). hex_signature (encode_lower s) ≡ Some s) c.signature.ensures c.put_signature.ensures.read_back;
      feed = subst (λ (n : ℕ). feed_number (feed_digits n) ≡ Some n) c.feed.ensures c.put_feed.ensures.read_back;
      seqno = subst (λ (n : ℕ). four_bytes (decimal n) ≡ Some n) c.seqno.ensures c.put_four_bytes.ensures.read_back;
      origin = text_up_to-spelled 64 info.origin fit.origin_short free.0 origin_bytes;
      ident = text_up_to-spelled 255 info.ident fit.ident_short free.1 ident_bytes;
    }
