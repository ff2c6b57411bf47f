use Rattle.std.proofs.Common.{arith, ◌≡◌, ◌-◌, suc, ◌∙◌, length-set}
use Rattle.ldm_feedtype.specs.Text.{hex_digits}
use Rattle.ldm_feedtype.proofs.Digits.{digits-more}
use Rattle.ldm_feedtype.proofs.text.digits_of.Goals as goal

pub loop-place-preserved : goal.loop-place-preserved
loop-place-preserved c =
    let last : c.loop-place.place ≡ suc (c.loop-place.place - 1) = omega arith in
    record {
      written =
          digits-more (c.loop-place.place - 1) c.loop-place.rest c.digit.result c.loop-place.digits (hex_digits 8 c.args.number)
          (omega arith) c.digit.ensures (rw last at c.loop-place.invariant.written);
      inside = omega arith;
      eight = length-set c.loop-place.digits (c.loop-place.place - 1) c.digit.result ∙ c.loop-place.invariant.eight;
    }
