use Rattle.std.proofs.Common.{◌≡◌, ◌∙◌, ◌≤◌, ◌+◌, ◌-◌, ◌*◌, ◌^◌, true, get_or, sym, arith, rules}
use Rattle.ldm_answers.specs.Number.{is_digit}
use Rattle.ldm_answers.proofs.Numbers.{too_large_at}
use Rattle.ldm_answers.proofs.number.read_digits.Goals as goal

pub returns-in_err-checked_mul-clause-value : goal.returns-in_err-checked_mul-clause-value
returns-in_err-checked_mul-clause-value c =
    let text = c.args.text.now in
    let i = c.loop-byte.byte-index in
    let digit : is_digit (get_or text i 0) ≡ true = search rules in
    let large : 2 ^ 64 ≤ 10 * c.loop-byte.number + (get_or text i 0 - 48) = omega (arith, c.in_err-checked_mul.ensures) in
    c.from_residual.ensures ∙ sym (too_large_at c.args.most c.loop-byte.number text i c.loop-byte-test.true c.loop-byte.invariant digit (omega (arith, c.ranges.most.fits)))

pub returns-in_err-number-clause-value : goal.returns-in_err-number-clause-value
returns-in_err-number-clause-value c =
    let text = c.args.text.now in
    let i = c.loop-byte.byte-index in
    let digit : is_digit (get_or text i 0) ≡ true = search rules in
    let large : 2 ^ 64 ≤ 10 * c.loop-byte.number + (get_or text i 0 - 48) = omega (arith, c.in_err-number.ensures, c.in_ok-checked_mul.ensures, c.from.ensures) in
    c.from_residual-in_err-number.ensures ∙ sym (too_large_at c.args.most c.loop-byte.number text i c.loop-byte-test.true c.loop-byte.invariant digit (omega (arith, c.ranges.most.fits)))
