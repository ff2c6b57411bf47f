use Rattle.std.proofs.Common.{◌≡◌, ◌/◌, ◌%◌, length, ap, ◌∙◌, arith}
use Rattle.ldm_xdr.specs.Spelling.{unsigned, opaque}
use Rattle.ldm_xdr.proofs.Lengths.{length_unsigned, length_opaque}
use Rattle.ldm_xdr.proofs.Whole.{as_spelled}
use Rattle.ldm_xdr.proofs.Written.{eight_put}
use Rattle.ldm_xdr.proofs.writing.write_info.Goals as goal

pub returns-clause-written : goal.returns-clause-written
returns-clause-written c =
    let old = c.args.into.now in
    let arrival = c.get-arrival.result in
    let signature = c.signature.result.0 in
    let origin = c.origin.result.now in
    let feed = c.feed.result.0 in
    let ident = c.ident.result.now in
    let micros_at = c.put_unsigned-micros_at in
    let signature_at = c.put_unsigned-signature_at in
    let origin_at = c.put_bytes-origin_at in
    let feed_at = c.put_text-feed_at in
    let seqno_at = c.put_unsigned-seqno_at in
    let ident_at = c.put_unsigned-ident_at in
    let size_at = c.put_text-size_at in
    let len : length signature ≡ 16 = omega arith in
    let four_seconds = length_unsigned (arrival / 1000000) in
    let four_micros = length_unsigned (arrival % 1000000) in
    let four_feed = length_unsigned feed in
    let four_seqno = length_unsigned c.seqno.result in
    let four_size = length_unsigned c.size.result in
    let origin_len = length_opaque origin in
    let ident_len = length_opaque ident in
    let origin_is : length origin ≡ length c.args.info.now.origin = ap length c.origin.ensures.value in
    let ident_is : length ident ≡ length c.args.info.now.ident = ap length c.ident.ensures.value in
    let whole = eight_put old (unsigned (arrival / 1000000)) (unsigned (arrival % 1000000)) signature (opaque origin) (unsigned feed) (unsigned c.seqno.result) (opaque ident) (unsigned c.size.result)
    micros_at.new.into signature_at.new.into origin_at.new.into feed_at.new.into seqno_at.new.into ident_at.new.into size_at.new.into c.put_unsigned.new.into
    micros_at.result signature_at.result origin_at.result feed_at.result seqno_at.result ident_at.result size_at.result
    (omega arith)
    micros_at.ensures.written (omega (arith, micros_at.ensures.end, four_seconds)) signature_at.ensures.written (omega (arith, signature_at.ensures.end, four_micros)) origin_at.ensures.written origin_at.ensures.end
    feed_at.ensures.written (omega (arith, feed_at.ensures.end, origin_len))
    seqno_at.ensures.written (omega (arith, seqno_at.ensures.end, four_feed)) ident_at.ensures.written (omega (arith, ident_at.ensures.end, four_seqno)) size_at.ensures.written
    (omega (arith, size_at.ensures.end, ident_len)) c.put_unsigned.ensures.written in
    as_spelled c.args.info.now old c.put_unsigned.new.into arrival signature origin feed c.seqno.result ident c.size.result (c.get-arrival.ensures.value
    ∙ c.arrival.ensures) c.signature.ensures c.origin.ensures.value c.feed.ensures c.seqno.ensures c.ident.ensures.value c.size.ensures len whole
