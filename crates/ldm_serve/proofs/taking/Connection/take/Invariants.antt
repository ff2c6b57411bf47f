use Rattle.std.proofs.Common.{◌≡◌, length}
use Rattle.ldm_outside.specs.Link.{IsNotClosed}
use Rattle.ldm_outside.specs.Session.{session_tells}
use Rattle.ldm_shared.specs.Passes.{IsSamePass}
use Rattle.ldm_serve.specs.ClientView.{client_by}
use Rattle.ldm_serve.specs.Connection.{ServingMoment, moment_of}
use Rattle.ldm_serve.specs.Reading.{ReadsCalls}
use Rattle.ldm_serve.specs.Rounds.{ReadsOn}
use Rattle.ldm_serve.proofs.taking.Connection.take.Given as goal

abbrev pub invariant-loop-rest : goal.invariant-loop-rest
invariant-loop-rest g l = record {
  reads : (begins : ServingMoment)
      → ReadsOn (client_by l.initial.self.client l.initial.pass.actor) begins l.initial.self.serving l.piece
      (moment_of l.initial.pass (session_tells g.K.Link.tells g.E.Sink.tells g.C.Clock.tells g.G.Gate.tells l.initial.link l.initial.log l.initial.clock l.initial.gate))
      → ReadsOn (client_by l.initial.self.client l.initial.pass.actor) begins l.self.serving l.rest
      (moment_of l.pass (session_tells g.K.Link.tells g.E.Sink.tells g.C.Clock.tells g.G.Gate.tells l.link l.log l.clock l.gate));
  between : ReadsCalls l.self (length l.rest);
  client : l.self.client ≡ l.initial.self.client;
  not_closed : IsNotClosed (g.K.Link.tells l.link);
  same : IsSamePass l.initial.pass l.pass;
}

abbrev pub decreases-loop-rest : goal.decreases-loop-rest
decreases-loop-rest g l = length l.rest
