use Rattle.std.proofs.Common.{◌≡◌, ◌+◌, ◌-◌, ◌<◌, ◌≤◌, ◌∷◌, length}
use Rattle.ldm_text.specs.Lines.{length_left, lines_left, lines_of}
use Rattle.ldm_check.specs.PqactFaults.{line_behind, lines_behind}
use Rattle.ldm_check.proofs.pqact_file.cut_at.Given as goal

abbrev pub invariant-loop-passed : goal.invariant-loop-passed
invariant-loop-passed l = record {
  line : line_behind (l.number - 1) (lines_of l.text) ≡ line_behind (l.number - l.passed) (l.line ∷ lines_left l.rest);
  rest : lines_behind (l.number - 1) (lines_of l.text) ≡ lines_behind (l.number - l.passed) (l.line ∷ lines_left l.rest);
  passed : l.passed + length (lines_left l.rest) ≡ length (lines_of l.text);
  shorter : l.passed + length_left l.rest ≤ length l.text + 1;
  some : 0 < l.passed;
}

abbrev pub decreases-loop-passed : goal.decreases-loop-passed
decreases-loop-passed l = l.number - l.passed
