use Rattle.std.proofs.Common.{◌≡◌, ◌≤◌, filter, take}
use Rattle.ldm_actions.specs.Strip.{is_text}
use Rattle.ldm_actions.proofs.stripping.strip.Given as goal

abbrev pub invariant-loop-byte : goal.invariant-loop-byte
invariant-loop-byte l = record { count : l.n ≤ l.byte-index; text : take l.n l.into ≡ filter is_text (take l.byte-index l.part) }
