use Rattle.std.proofs.Common.{◌≤◌, map, take}
use Rattle.std.specs.List.{concat}
use Rattle.ldm_outside.specs.Io.{Takes}
use Rattle.ldm_crowd.proofs.crowd_command.write_texts.Given as goal

abbrev pub invariant-loop-text : goal.invariant-loop-text
invariant-loop-text g l = record {
  written : Takes (g.K.Sink.tells l.initial.sink) (concat (map (λ text. text.items) (take l.text-index l.texts))) (g.K.Sink.tells l.sink);
  faults_kept : (g.K.Sink.tells l.initial.sink).faults ≤ (g.K.Sink.tells l.sink).faults;
}
