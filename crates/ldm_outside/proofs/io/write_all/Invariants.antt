use Rattle.std.proofs.Common.{◌-◌, ◌≤◌, length, take}
use Rattle.ldm_outside.specs.Io.{Takes}
use Rattle.ldm_outside.proofs.io.write_all.Given as goal

abbrev pub invariant-loop-at : goal.invariant-loop-at
invariant-loop-at g l = record {
  within : l.at ≤ length l.piece;
  taken : Takes (g.K.Sink.tells l.initial.sink) (take l.at l.piece) (g.K.Sink.tells l.sink);
  faults_kept : (g.K.Sink.tells l.initial.sink).faults ≤ (g.K.Sink.tells l.sink).faults;
}

abbrev pub decreases-loop-at : goal.decreases-loop-at
decreases-loop-at g l = length l.initial.piece - l.at
