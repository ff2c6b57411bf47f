use Rattle.std.proofs.Common.{◌≡◌, ◌≤◌}
use Rattle.ldm_text.specs.Lines.{length_left}
use Rattle.ldm_check.specs.Sources.{Fits, left_of}
use Rattle.ldm_check.specs.Walks.{GoesOn, state_of}
use Rattle.ldm_check.proofs.conf_file.Search.look_to_include.Given as goal

abbrev pub invariant-loop-line : goal.invariant-loop-line
invariant-loop-line l = record {
  on : GoesOn (state_of l.initial.self) (left_of l.path l.initial.lines) (state_of l.self) (left_of l.path l.lines);
  depth : l.lines.depth ≡ l.initial.lines.depth;
  fits : Fits l.lines;
  shorter : length_left l.lines.rest ≤ length_left l.initial.lines.rest;
}

abbrev pub decreases-loop-line : goal.decreases-loop-line
decreases-loop-line l = length_left l.lines.rest
