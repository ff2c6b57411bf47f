use Rattle.std.proofs.Common.{◌≡◌, ◌≤◌, ◌+◌, ◌-◌, ◌*◌, ◌++◌, replicate, vec_len, vec_capacity}
use Rattle.hex.specs.Hex.{encode_lower}
use Rattle.ldm_script.proofs.write.append_fill.Given as goal

abbrev pub invariant-loop : goal.invariant-loop
invariant-loop l = record {
  room : vec_len l.out + 2 * (l.count - l.counter) ≤ vec_capacity l.out;
  text : l.out.items ≡ l.fn.out.items ++ encode_lower (replicate l.counter l.byte);
}
