use Rattle.std.proofs.Common.{sym, ◌∙◌, ◌≡◌, ◌≤◌, ◌+◌, get_or, arith, rules}
use Rattle.std.proofs.Math.Nat.{mul-le-mul_left}
use Rattle.std.specs.Char.{digit_value}
use Rattle.ldm_feedtype.proofs.Numerals.{not_below, numeral-stops, numeral-exceeds, numeral-ends}
use Rattle.ldm_feedtype.proofs.words.numeral.Goals as goal

pub returns-in_default : goal.returns-in_default
returns-in_default c =
    let byte : c.from.result ≡ get_or c.args.digits.now c.loop-i.i 0 = search rules in
    let other : c.args.radix ≤ digit_value c.from.result = not_below _ _ c.in_default.ensures.value in
    sym (numeral-stops c.args.radix c.args.at c.args.place c.loop-i.value c.loop-i.i c.args.digits.now (omega arith)
    (omega arith) (rw byte at other))
    ∙ c.loop-i.invariant.so_far

pub overflow_mul-longer : goal.overflow_mul-longer
overflow_mul-longer c =
    let fits = mul-le-mul_left c.loop-i.value c.requires.high in
    rw (c.from-in-loop-i.ensures, c.from-in-loop-i-2.ensures) (omega arith)

pub overflow_add-longer : goal.overflow_add-longer
overflow_add-longer c =
    let fits = mul-le-mul_left c.loop-i.value c.requires.high in
    let digit = c.in-Some.ensures.value.0 in
    rw (c.from-in-loop-i.ensures, c.from-in-loop-i-2.ensures, c.from-in-loop-i-3.ensures) (omega (arith, c.in-Some.ensures.value.1))

pub returns-then-longer-from : goal.returns-then-longer-from
returns-then-longer-from c =
    let byte : c.from.result ≡ get_or c.args.digits.now c.loop-i.i 0 = search rules in
    let digit = c.in-Some.ensures.value in
    let large =
    rw (c.from-in-loop-i.ensures, c.from-in-loop-i-2.ensures, c.from-in-loop-i-3.ensures, c.from-in-loop-i-4.ensures, digit.1)
    at c.if-longer-from.true in
    sym (numeral-exceeds c.args.radix c.args.at c.args.place c.loop-i.value c.loop-i.i c.args.digits.now (omega arith)
    (omega arith) (rw byte at digit.0) (rw (← byte) (omega (arith, large))))
    ∙ c.loop-i.invariant.so_far

pub returns : goal.returns
returns c =
    sym (numeral-ends c.args.radix c.args.at (c.args.place + c.loop-i.i) c.loop-i.value c.loop-i.i c.args.digits.now (omega arith) (omega arith))
    ∙ c.loop-i.invariant.so_far
