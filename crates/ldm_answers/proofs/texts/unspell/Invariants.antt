use Rattle.std.proofs.Common.{◌≡◌, ◌-◌, ◌≤◌, length, drop, Some}
use Rattle.arrayvec.specs.ArrayVec.{array_vec_len}
use Rattle.ldm_answers.specs.Texts.{with_byte, unspelled}
use Rattle.ldm_answers.proofs.texts.unspell.Given as goal

abbrev pub invariant-loop-at : goal.invariant-loop-at
invariant-loop-at l = record {
  within : l.at ≤ length l.field;
  short : array_vec_len l.text ≤ l.most;
  so_far : with_byte (Some l.text.items) (unspelled (drop l.at l.field)) ≡ unspelled l.field;
}

abbrev pub decreases-loop-at : goal.decreases-loop-at
decreases-loop-at l = length l.field - l.at
