use Rattle.std.proofs.Common.{◌≡◌, ◌+◌, ◌-◌, ◌≤◌, ℕ, List, length}
use Rattle.ldm_outside.specs.Io.{Gives}
use Rattle.ldm_script.specs.Resolve.{Playing}
use Rattle.ldm_play.specs.declared.play_command.TheConstants.{SCRIPT_LIMIT}
use Rattle.ldm_play.specs.PlayerView.{StandsForPlay}
use Rattle.ldm_play.specs.Step.{GoesOn}
use Rattle.ldm_play.proofs.play_command.play_pieces.Given as goal

abbrev pub invariant-loop-taken : goal.invariant-loop-taken
invariant-loop-taken g l = record {
  limit : l.taken ≤ SCRIPT_LIMIT;
  number : l.pending.number ≤ 1 + l.taken;
  source_faults : (g.S.Source.tells l.initial.source).faults ≤ (g.S.Source.tells l.source).faults;
  sink_faults : (g.K.Sink.tells l.initial.sink).faults ≤ (g.K.Sink.tells l.sink).faults;
  handed_on : g.K.Sink.is_handed_on l.sink;
  ends : (g.S.Source.tells l.source).ends ≡ (g.S.Source.tells l.initial.source).ends;
  script : (script : List ℕ) × (length script ≡ l.taken) × Gives (g.S.Source.tells l.initial.source) script (g.S.Source.tells l.source)
      × ((p : Playing) → StandsForPlay l.initial.player p → GoesOn p script l.player l.pending (g.K.Sink.tells l.initial.sink) (g.K.Sink.tells l.sink));
}

abbrev pub decreases-loop-taken : goal.decreases-loop-taken
decreases-loop-taken g l = SCRIPT_LIMIT - l.taken
