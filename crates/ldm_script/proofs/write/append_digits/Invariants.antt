use Rattle.std.proofs.Common.{◌≡◌, ◌≤◌, ◌+◌, ◌-◌, ◌++◌, length, map, take, vec_len, vec_capacity}
use Rattle.std.specs.Char.{to_ascii_lowercase}
use Rattle.ldm_script.proofs.write.append_digits.Given as goal

abbrev pub invariant-loop-digit : goal.invariant-loop-digit
invariant-loop-digit l = record {
  room : vec_len l.out + (length l.digits - l.digit-index) ≤ vec_capacity l.out;
  text : l.out.items ≡ l.fn.out.items ++ map to_ascii_lowercase (take l.digit-index l.digits);
}
