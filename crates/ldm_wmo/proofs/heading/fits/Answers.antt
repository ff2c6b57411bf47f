use Rattle.std.proofs.Common.{◌≡◌, ◌∙◌, sym, false, refl, ap, length, arith}
use Rattle.ldm_wmo.specs.Headings.{stands_for, fits}
use Rattle.std.proofs.Common.{drop, get_or, ◌+◌, ◌<◌}
use Rattle.ldm_wmo.proofs.Forms.{fits_at, fits_end, other_lengths}
use Rattle.ldm_wmo.proofs.heading.fits.Goals as goal

pub returns-then-form-bytes : goal.returns-then-form-bytes
returns-then-form-bytes c = sym (other_lengths c.args.form.now c.args.bytes.now c.if-form-bytes.true)

pub returns-then-not-stands_for : goal.returns-then-not-stands_for
returns-then-not-stands_for c =
    let in_form : c.loop-i.i < length c.args.form.now = omega arith in
    let in_bytes : c.loop-i.i < length c.args.bytes.now = omega arith in
    let fails : stands_for (get_or c.args.form.now c.loop-i.i 0) (get_or c.args.bytes.now c.loop-i.i 0) ≡ false = sym c.stands_for.ensures ∙ c.if-not-stands_for.true in
    sym (sym c.loop-i.invariant ∙ fits_at c.args.form.now c.args.bytes.now c.loop-i.i in_form in_bytes ∙ rw fails refl)

pub loop-i-preserved : goal.loop-i-preserved
loop-i-preserved c =
    let in_form : c.loop-i.i < length c.args.form.now = omega arith in
    let in_bytes : c.loop-i.i < length c.args.bytes.now = omega arith in
    let stands = sym c.stands_for.ensures ∙ c.if-not-stands_for.false in
    let step = fits_at c.args.form.now c.args.bytes.now c.loop-i.i in_form in_bytes in
    sym (rw stands at step) ∙ c.loop-i.invariant

pub returns : goal.returns
returns c =
    sym (sym c.loop-i.invariant ∙ fits_end c.args.form.now c.args.bytes.now c.loop-i.i (omega arith) (omega arith))
