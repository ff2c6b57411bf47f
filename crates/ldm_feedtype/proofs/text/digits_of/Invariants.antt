use Rattle.std.proofs.Common.{◌≡◌, ◌≤◌, ◌++◌, drop, length}
use Rattle.ldm_feedtype.specs.Text.{hex_digits}
use Rattle.ldm_feedtype.proofs.text.digits_of.Given as goal

abbrev pub invariant-loop-place : goal.invariant-loop-place
invariant-loop-place l = record {
  written : hex_digits l.place l.rest ++ drop l.place l.digits ≡ hex_digits 8 l.number;
  inside : l.place ≤ 8;
  eight : length l.digits ≡ 8;
}

abbrev pub decreases-loop-place : goal.decreases-loop-place
decreases-loop-place l = l.place
