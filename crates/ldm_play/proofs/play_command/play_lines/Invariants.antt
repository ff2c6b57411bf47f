use Rattle.std.proofs.Common.{◌≡◌, ◌+◌, ◌≤◌, ℕ, List, ◌++◌, length}
use Rattle.ldm_outside.specs.Io.{SinkRecord}
use Rattle.ldm_script.specs.Resolve.{Playing}
use Rattle.ldm_play.specs.Step.{GoesOn}
use Rattle.ldm_play.proofs.play_command.play_lines.Given as goal

abbrev pub invariant-loop-at : goal.invariant-loop-at
invariant-loop-at g l = record {
  faults_kept : (g.K.Sink.tells l.initial.sink).faults ≤ (g.K.Sink.tells l.sink).faults;
  number : l.pending.number + length l.rest ≤ l.initial.pending.number + length l.piece;
  front : (done : List ℕ) × (done ++ l.rest ≡ l.piece) × ((p : Playing) (script : List ℕ) (before : SinkRecord) → GoesOn p script l.initial.player l.initial.pending before (g.K.Sink.tells l.initial.sink) → GoesOn p (script ++ done) l.player l.pending before (g.K.Sink.tells l.sink));
}

abbrev pub decreases-loop-at : goal.decreases-loop-at
decreases-loop-at g l = length l.rest
