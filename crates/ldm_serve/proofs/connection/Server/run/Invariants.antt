use Rattle.std.proofs.Common.{◌≡◌, []}
use Rattle.std.specs.Vec.{vec_len}
use Rattle.ldm_outside.specs.Link.{IsNotClosed}
use Rattle.ldm_outside.specs.Session.{session_tells}
use Rattle.ldm_downstream.specs.declared.limits.TheConstants.{LONGEST_PIECE}
use Rattle.ldm_shared.specs.Passes.{IsSamePass}
use Rattle.ldm_serve.specs.ClientView.{client_by}
use Rattle.ldm_serve.specs.Connection.{ServingMoment, moment_of}
use Rattle.ldm_serve.specs.Reading.{ReadsCalls}
use Rattle.ldm_serve.specs.Rounds.{ReadsOn}
use Rattle.ldm_serve.proofs.connection.Server.run.Given as goal

abbrev pub invariant-loop : goal.invariant-loop
invariant-loop g l = record {
  reads : (begins : ServingMoment)
      → ReadsOn (client_by l.fn.self.connection.client l.fn.pass.actor) begins l.fn.self.connection.serving []
      (moment_of l.fn.pass (session_tells g.K.Link.tells g.E.Sink.tells g.C.Clock.tells g.G.Gate.tells l.fn.link l.fn.log l.fn.clock l.fn.gate))
      → ReadsOn (client_by l.fn.self.connection.client l.fn.pass.actor) begins l.self.connection.serving []
      (moment_of l.pass (session_tells g.K.Link.tells g.E.Sink.tells g.C.Clock.tells g.G.Gate.tells l.link l.log l.clock l.gate));
  between : ReadsCalls l.self.connection 0;
  client : l.self.connection.client ≡ l.fn.self.connection.client;
  room : vec_len l.self.piece ≡ LONGEST_PIECE;
  not_closed : IsNotClosed (g.K.Link.tells l.link);
  same : IsSamePass l.fn.pass l.pass;
}
