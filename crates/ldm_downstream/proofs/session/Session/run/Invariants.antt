use Rattle.std.proofs.Common.{◌≡◌, ◌<◌, ℕ, List, None}
use Rattle.std.specs.Vec.{vec_len}
use Rattle.ldm_outside.specs.Link.{IsNotClosed}
use Rattle.ldm_outside.specs.Session.{SessionRecord, KeepsFaults, ungated_tells}
use Rattle.ldm_rpc.specs.Streams.{Position}
use Rattle.ldm_shared.specs.Passes.{IsSamePass}
use Rattle.ldm_intake.specs.TakesRecord.{Standing}
use Rattle.ldm_downstream.specs.Sessions.{IsReady, RunsOn}
use Rattle.ldm_downstream.proofs.session.Session.run.Given as goal

abbrev pub invariant-loop : goal.invariant-loop
invariant-loop g l = record {
  runs : (ahead : List ℕ) (p : Position) (first : Standing) (begins : SessionRecord)
      → RunsOn ahead l.fn.self.taker.receiver l.fn.pass p first begins (ungated_tells g.K.Link.tells g.E.Sink.tells g.C.Clock.tells l.fn.link l.fn.log l.fn.clock)
      → KeepsFaults begins (ungated_tells g.K.Link.tells g.E.Sink.tells g.C.Clock.tells l.fn.link l.fn.log l.fn.clock)
      → RunsOn ahead l.self.taker.receiver l.pass p first begins (ungated_tells g.K.Link.tells g.E.Sink.tells g.C.Clock.tells l.link l.log l.clock);
  kept : KeepsFaults (ungated_tells g.K.Link.tells g.E.Sink.tells g.C.Clock.tells l.fn.link l.fn.log l.fn.clock)
      (ungated_tells g.K.Link.tells g.E.Sink.tells g.C.Clock.tells l.link l.log l.clock);
  live : l.self.taker.receiver.end ≡ None;
  ready : IsReady l.self.taker.out.items l.self.taker.notes.items;
  room : 0 < vec_len l.self.piece;
  not_closed : IsNotClosed (g.K.Link.tells l.link);
  same : IsSamePass l.fn.pass l.pass;
}
