use Rattle.std.proofs.Common.{◌≡◌, ◌*◌, ◌≤◌}
use Rattle.arrayvec.specs.ArrayVec.{array_vec_len}
use Rattle.ldm_watch.specs.FeedNames.{members_text}
use Rattle.ldm_watch.proofs.names.put_members.Given as goal

abbrev pub invariant-loop-bit : goal.invariant-loop-bit
invariant-loop-bit l = record {
  text : l.text.items ≡ members_text l.bit l.set;
  room : array_vec_len l.text ≤ 9 * l.bit;
}
