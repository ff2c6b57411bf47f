use Rattle.std.proofs.Common.{◌≤◌}
use Rattle.std.specs.Vec.{vec_len}
use Rattle.ldm_outside.specs.Link.{IsNotClosed}
use Rattle.ldm_watch.specs.Outside.{watch_tells}
use Rattle.ldm_watch.specs.Sessions.{IsReady, RunsOn}
use Rattle.ldm_watch.specs.Sought.{sought_by}
use Rattle.ldm_watch.proofs.session.Session.run.Given as goal

abbrev pub invariant-loop-turns : goal.invariant-loop-turns
invariant-loop-turns g l = record {
  runs : RunsOn (sought_by l.fn.self.stream.watching) (watch_tells g.K.Link.tells g.S.Sink.tells l.fn.link l.fn.sink)
      l.self.stream (watch_tells g.K.Link.tells g.S.Sink.tells l.link l.sink);
  ready : IsReady l.self.out.items l.self.lines.items (vec_len l.self.piece);
  not_closed : IsNotClosed (g.K.Link.tells l.link);
  moved : l.turns ≤ l.self.stream.hand.came;
}
