use Rattle.std.proofs.Common.{◌≡◌, ◌+◌, ◌≤◌, length}
use Rattle.ldm_text.specs.Lines.{length_left, lines_left}
use Rattle.ldm_text.specs.declared.limits.TheConstants.{LONGEST_CONFIGURATION}
use Rattle.ldm_check.specs.PqactFaults.{from_entry}
use Rattle.ldm_check.proofs.pqact_file.to_entry.Given as goal

abbrev pub invariant-loop-cut : goal.invariant-loop-cut
invariant-loop-cut l = record {
  line : l.cut.line ≡ l.initial.cut.line;
  rest : from_entry (lines_left l.initial.cut.rest) ≡ from_entry (lines_left l.cut.rest);
  passed : l.cut.passed + length (lines_left l.cut.rest) ≡ l.initial.cut.passed + length (lines_left l.initial.cut.rest);
  shorter : l.cut.passed + length_left l.cut.rest ≤ l.initial.cut.passed + length_left l.initial.cut.rest;
  some : l.initial.cut.passed ≤ l.cut.passed;
  room : l.cut.passed + length_left l.cut.rest ≤ LONGEST_CONFIGURATION + 1;
}

abbrev pub decreases-loop-cut : goal.decreases-loop-cut
decreases-loop-cut l = length_left l.cut.rest
