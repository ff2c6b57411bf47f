use Rattle.std.proofs.Common.{◌≡◌, ◌∙◌, ◌+◌, ◌-◌, ◌*◌, ◌<◌, sym, ap, length, get_or, drop, arith}
use Rattle.ldm_wmo.specs.Lines.{number_from, number_of}
use Rattle.ldm_wmo.proofs.Numbers.{bound_more, bound_of, number_at, number_end}
use Rattle.ldm_wmo.proofs.lines.number_of.Goals as goal

pub overflow_mul-value : goal.overflow_mul-value
overflow_mul-value c = omega (arith, bound_of c.loop-digit.value c.loop-digit.digit-index (omega arith) c.loop-digit.invariant.1)

pub overflow_add-value : goal.overflow_add-value
overflow_add-value c = omega (arith, bound_of c.loop-digit.value c.loop-digit.digit-index (omega arith) c.loop-digit.invariant.1)

pub loop-digit-preserved : goal.loop-digit-preserved
loop-digit-preserved c =
    let digits = c.args.digits.now in
    let i = c.loop-digit.digit-index in
    let value = c.loop-digit.value in
    let added : c.from.result ≡ get_or digits i 0 - 48 = grind arith in
    let step = number_at value digits i (omega arith) in (
      ap (λ k. number_from (value * 10 + k) (drop (i + 1) digits)) added ∙ sym step ∙ c.loop-digit.invariant.0,
      rw added (bound_more value (get_or digits i 0) i c.loop-digit.invariant.1 (omega (arith, c.type_inv.digits i))),
    )

pub returns : goal.returns
returns c = sym (number_end c.loop-digit.value c.args.digits.now c.loop-digit.digit-index (omega arith)) ∙ c.loop-digit.invariant.0
