use Rattle.std.proofs.Common.{◌≡◌, ◌-◌, ◌≤◌}
use Rattle.ldm_conf.specs.declared.limits.TheConstants.{DEEPEST_INCLUDE}
use Rattle.ldm_text.specs.Lines.{length_left}
use Rattle.ldm_check.specs.Sources.{Fits, left_of}
use Rattle.ldm_check.specs.Walks.{Passes, state_of}
use Rattle.ldm_check.proofs.conf_file.Search.+look_through.Given as goal

abbrev pub decreases-look_through : goal.decreases-look_through
decreases-look_through g l = DEEPEST_INCLUDE - l.lines.depth

abbrev pub invariant-loop-line : goal.invariant-loop-line
invariant-loop-line g l = record {
  passes : Passes (g.F.Store.tells l.initial.store) (g.F.Store.tells l.store) (state_of l.initial.self) (left_of l.path l.initial.lines) (state_of l.self) (left_of l.path l.lines);
  fits : Fits l.lines;
  depth : l.lines.depth ≡ l.initial.lines.depth;
  faults_kept : (g.F.Store.tells l.initial.store).faults ≤ (g.F.Store.tells l.store).faults;
}

abbrev pub decreases-loop-line : goal.decreases-loop-line
decreases-loop-line g l = length_left l.lines.rest
