use Rattle.std.proofs.Common.{◌≡◌, true, false, sym, arith}
use Rattle.std.specs.List.{list_all}
use Rattle.hex.specs.Hex.{is_hex_digit}
use Rattle.ldm_script.specs.Bodies.{digits_of}
use Rattle.ldm_script.proofs.Hexadecimal.{some_bytes, digits_of-yes, digits_of-no}
use Rattle.ldm_script.proofs.body.read_digits.Goals as goal

pub returns-then-are_digits-clause-value : goal.returns-then-are_digits-clause-value
returns-then-are_digits-clause-value c =
    let all : list_all is_hex_digit c.args.digits.now ≡ true = cc in
    sym (some_bytes (digits_of c.args.digits.now) (digits_of-yes c.args.digits.now (omega arith) all))

pub returns-then-are_digits-clause-fits : goal.returns-then-are_digits-clause-fits
returns-then-are_digits-clause-fits c =
    let all : list_all is_hex_digit c.args.digits.now ≡ true = cc in
    (digits_of-yes c.args.digits.now (omega arith) all, c.requires)

pub returns-else-are_digits-clause-value : goal.returns-else-are_digits-clause-value
returns-else-are_digits-clause-value c =
    let other : list_all is_hex_digit c.args.digits.now ≡ false = cc in
    sym (digits_of-no c.args.digits.now other)
