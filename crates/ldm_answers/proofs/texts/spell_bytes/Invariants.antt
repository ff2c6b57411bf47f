use Rattle.std.proofs.Common.{◌≡◌, ◌+◌, ◌*◌, ◌≤◌, ◌++◌, take}
use Rattle.std.specs.List.{flat_map}
use Rattle.arrayvec.specs.ArrayVec.{array_vec_len}
use Rattle.ldm_answers.specs.Texts.{spelled_byte}
use Rattle.ldm_answers.proofs.texts.spell_bytes.Given as goal

abbrev pub invariant-loop-byte : goal.invariant-loop-byte
invariant-loop-byte g l = record {
  room : array_vec_len l.out ≤ array_vec_len l.initial.out + 3 * l.byte-index;
  text : l.out.items ≡ l.initial.out.items ++ flat_map spelled_byte (take l.byte-index l.text);
}
