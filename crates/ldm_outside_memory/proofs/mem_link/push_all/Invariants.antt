use Rattle.std.proofs.Common.{◌≡◌, ◌≤◌, ◌+◌, length, take, vec_len, vec_capacity}
use Rattle.ldm_outside.specs.Link.{then_all}
use Rattle.ldm_outside_memory.proofs.mem_link.push_all.Given as goal

abbrev pub invariant-loop-byte : goal.invariant-loop-byte
invariant-loop-byte l = record {
  room : length l.bytes + vec_len l.initial.passed ≤ vec_capacity l.passed;
  len : vec_len l.passed ≡ vec_len l.initial.passed + l.byte-index;
  kept : l.passed.items ≡ then_all l.way (take l.byte-index l.bytes) l.initial.passed.items;
}
