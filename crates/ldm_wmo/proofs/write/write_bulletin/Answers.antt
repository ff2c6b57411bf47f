use Rattle.std.proofs.Common.{◌≡◌, ◌∙◌, length, sym, ap, arith}
use Rattle.ldm_wmo.specs.Writing.{digits_of}
use Rattle.ldm_wmo.proofs.WriteLemmas.{heading_length, is_written, written_length}
use Rattle.ldm_wmo.proofs.write.write_bulletin.Goals as goal

pub overflow_sub-digits : goal.overflow_sub-digits
overflow_sub-digits c =
    let heading = heading_length c.args.heading.now (sym c.is_heading.ensures ∙ c.if-not-is_heading.false) in
    let digits = c.shown_digits-digits.ensures.few in
    omega (arith, heading, digits)

pub returns-then-is_err-clause-fault : goal.returns-then-is_err-clause-fault
returns-then-is_err-clause-fault c =
    let heading = heading_length c.args.heading.now (sym c.is_heading.ensures ∙ c.if-not-is_heading.false) in
    let digits = c.shown_digits-digits.ensures.few in
    let len = written_length (digits_of c.args.seqno) c.args.heading.now c.args.text.now in
    let shown : length c.shown_digits-digits.result.now ≡ length (digits_of c.args.seqno) = ap length c.shown_digits-digits.ensures.digits in
    let fits = c.if-text-digits.false in
    is_written c.args.seqno c.args.heading.now c.args.text.now c.if-seqno-gt-LARGEST_SEQNO.false (sym c.is_heading.ensures ∙ c.if-not-is_heading.false)
    (sym c.is_text.ensures ∙ c.if-not-is_text.false) (omega (arith, heading, digits, len, shown, fits))

pub returns-clause-fault : goal.returns-clause-fault
returns-clause-fault c =
    let heading = heading_length c.args.heading.now (sym c.is_heading.ensures ∙ c.if-not-is_heading.false) in
    let digits = c.shown_digits-digits.ensures.few in
    let len = written_length (digits_of c.args.seqno) c.args.heading.now c.args.text.now in
    let shown : length c.shown_digits-digits.result.now ≡ length (digits_of c.args.seqno) = ap length c.shown_digits-digits.ensures.digits in
    let fits = c.if-text-digits.false in
    is_written c.args.seqno c.args.heading.now c.args.text.now c.if-seqno-gt-LARGEST_SEQNO.false (sym c.is_heading.ensures ∙ c.if-not-is_heading.false)
    (sym c.is_text.ensures ∙ c.if-not-is_text.false) (omega (arith, heading, digits, len, shown, fits))
