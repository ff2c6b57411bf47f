use Rattle.std.proofs.Common.{◌≡◌, length}
use Rattle.ldm_serve.specs.declared.responded.Responded.TheVariants.{GoesOn}
use Rattle.ldm_serve.specs.ClientView.{client_by}
use Rattle.ldm_serve.specs.Responds.{stands}
use Rattle.ldm_serve.proofs.Running.{IsRunning}
use Rattle.ldm_serve.proofs.serving.Serving.answer.Given as goal

abbrev pub invariant-loop-rest : goal.invariant-loop-rest
invariant-loop-rest g l = record {
  runs : IsRunning (client_by l.initial.client l.initial.pass.actor) l.initial.self l.bytes
      (stands l.initial.pass (g.C.Clock.tells l.initial.clock) l.initial.out.items) l.self l.rest (stands l.pass (g.C.Clock.tells l.clock) l.out.items);
  same : l.client ≡ l.initial.client;
  going : l.next ≡ GoesOn;
}

abbrev pub decreases-loop-rest : goal.decreases-loop-rest
decreases-loop-rest g l = length l.rest
