use Rattle.std.proofs.Common.{◌≡◌, ◌-◌, ◌≤◌, length}
use Rattle.ldm_outside.specs.Io.{Gives}
use Rattle.ldm_status.specs.declared.whole_script.TheConstants.{LONGEST_SCRIPT}
use Rattle.ldm_status.proofs.whole_script.take_pieces.Given as goal

abbrev pub invariant-loop-text : goal.invariant-loop-text
invariant-loop-text g l = record {
  limit : length l.text.items ≤ LONGEST_SCRIPT;
  source_faults : (g.S.Source.tells l.initial.source).faults ≤ (g.S.Source.tells l.source).faults;
  ends : (g.S.Source.tells l.source).ends ≡ (g.S.Source.tells l.initial.source).ends;
  taken : Gives (g.S.Source.tells l.initial.source) l.text.items (g.S.Source.tells l.source);
}

abbrev pub decreases-loop-text : goal.decreases-loop-text
decreases-loop-text g l = LONGEST_SCRIPT - length l.text.items
