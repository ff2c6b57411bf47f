use Rattle.std.proofs.Common.{◌≡◌, ◌++◌, map, take}
use Rattle.ldm_outside.specs.Putting.{shown}
use Rattle.ldm_outside.proofs.reason_text.put_shown.Given as goal

abbrev pub invariant-loop-byte : goal.invariant-loop-byte
invariant-loop-byte l = l.out.items ≡ l.initial.out.items ++ map shown (take l.byte-index l.front)
