use Rattle.std.proofs.Common.{◌≡◌, ◌-◌, ◌<◌, ◌^◌}
use Rattle.ldm_conf.specs.declared.limits.TheConstants.{DEEPEST_INCLUDE}
use Rattle.ldm_text.specs.Lines.{length_left}
use Rattle.ldm_conf.specs.LineViews.{left_of, room_of}
use Rattle.ldm_conf.specs.States.{Passes, state_of}
use Rattle.ldm_conf.proofs.reader.Reader.+read_file.Given as goal

abbrev pub decreases-read_file : goal.decreases-read_file
decreases-read_file g l = DEEPEST_INCLUDE - l.lines.depth

abbrev pub invariant-loop-line : goal.invariant-loop-line
invariant-loop-line g l = record {
  passes : Passes (g.F.Store.tells l.initial.store) (state_of l.initial.self) (left_of l.initial.lines) (state_of l.self) (left_of l.lines);
  same : g.F.Store.tells l.store ≡ g.F.Store.tells l.initial.store;
  room : room_of l.lines < 2 ^ 32;
  depth : l.lines.depth ≡ l.initial.lines.depth;
}

abbrev pub decreases-loop-line : goal.decreases-loop-line
decreases-loop-line g l = length_left l.lines.rest
