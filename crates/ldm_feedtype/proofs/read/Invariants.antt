use Rattle.std.proofs.Common.{◌≡◌, ◌-◌, ◌≤◌, length}
use Rattle.ldm_feedtype.specs.Reading.{feed_set}
use Rattle.ldm_feedtype.specs.Kept.{read_on, state_of}
use Rattle.ldm_feedtype.proofs.read.Given as goal

abbrev pub invariant-loop-at : goal.invariant-loop-at
invariant-loop-at l = record {
  read : feed_set l.text ≡ read_on l.text l.at (state_of l.reader);
  inside : l.at ≤ length l.text;
}

abbrev pub decreases-loop-at : goal.decreases-loop-at
decreases-loop-at l = length l.text - l.at
