use Rattle.std.proofs.Common.{◌≡◌, true, false, arith}
use Rattle.std.specs.List.{list_all}
use Rattle.hex.specs.Hex.{is_hex_digit}
use Rattle.ldm_script.proofs.Bodies.{len-digits, len-no_digits}
use Rattle.ldm_script.proofs.Hexadecimal.{digits_of-odd, digits_of-no}
use Rattle.ldm_script.proofs.body.digits_len.Goals as goal

pub returns-then-digits-eq1 : goal.returns-then-digits-eq1
returns-then-digits-eq1 c = len-no_digits c.args.digits.now (digits_of-odd c.args.digits.now (omega arith))

pub returns-then-are_digits : goal.returns-then-are_digits
returns-then-are_digits c =
    let all : list_all is_hex_digit c.args.digits.now ≡ true = cc in
    len-digits c.args.digits.now (omega arith) all

pub returns-else-are_digits : goal.returns-else-are_digits
returns-else-are_digits c =
    let other : list_all is_hex_digit c.args.digits.now ≡ false = cc in
    len-no_digits c.args.digits.now (digits_of-no c.args.digits.now other)
