use Rattle.std.proofs.Common.{◌≡◌, ℕ, ◌+◌, ◌-◌, List, ◌++◌, ◌≤◌, length, take, ap, sym, ◌∙◌, replicate, arith}
use Rattle.std.proofs.lemmas.List.{length-append, length-replicate, length-take-le}
use Rattle.ldm_types.specs.Info.{pad4}
use Rattle.ldm_xdr.specs.Spelling.{unsigned, opaque}
use Rattle.ldm_xdr.proofs.Lengths.{length_unsigned}
use Rattle.ldm_xdr.proofs.Written.{length-mid, unwritten, then_put, put_exactly, put_at-from_written, whole_string}
use Rattle.ldm_xdr.proofs.writing.put_text.Goals as goal

pub returns-clause-written : goal.returns-clause-written
returns-clause-written c =
    let old = c.args.into.now in
    let at = c.args.at in
    let text = c.args.text.now in
    let n = length c.args.text.now in
    let front = take c.args.at old in
    let text_at = c.put_unsigned-text_at.result in
    let padding_at = c.put_bytes-padding_at.result in
    let text_at_is : text_at ≡ at + 4 = c.put_unsigned-text_at.ensures.end in
    let padding_at_is : padding_at ≡ at + 4 + n = c.put_bytes-padding_at.ensures.end ∙ ap (λ k. k + n) text_at_is in
    let room : at + 4 + pad4 n ≤ length old = c.requires.room in
    let ge : n ≤ pad4 n = omega arith in
    let padding : List ℕ = replicate (pad4 n - n) 0 in
    let padding_len : length padding ≡ pad4 n - n = length-replicate {A = ℕ} (pad4 n - n) 0 in
    let four = length_unsigned n in
    let front_len : length (take c.args.at old) ≡ at = length-take-le at old (omega arith) in
    let counted_len : length (front ++ unsigned n) ≡ text_at = omega (arith, length-append front (unsigned n)) in
    let text_len : length (front ++ unsigned n ++ text) ≡ padding_at = omega (arith, length-append (front ++ unsigned n) text) in
    let counted = then_put old front old (unsigned n) c.put_unsigned-text_at.new.into at (unwritten old at (omega arith)) front_len (omega arith) c.put_unsigned-text_at.ensures.written in
    let with_text = then_put old (front ++ unsigned n) c.put_unsigned-text_at.new.into text c.put_bytes-padding_at.new.into text_at counted counted_len
    (omega arith) c.put_bytes-padding_at.ensures.written in
    let width = text_at + c.padded.result - padding_at in
    let width_is : width ≡ pad4 n - n = omega arith in
    let fits : padding_at + width ≤ length old = omega arith in
    let now = c.put_bytes-padding_at.new.into in
    let filled : c.fill.new.self ≡ padding = c.fill.ensures.after (λ y same. same)
    ∙ ap (λ k. replicate k 0) (length-mid old (front ++ unsigned n ++ text) now padding_at width with_text text_len fits ∙ width_is) in
    let whole = put_exactly old (front ++ unsigned n ++ text) now padding c.fill.new.self padding_at width with_text text_len (padding_len ∙ sym width_is) fits filled in
    put_at-from_written old (opaque text) _ at (omega arith) (whole_string old front text _ whole)
