use Rattle.std.proofs.Common.{◌<◌, ◌≡◌, List, None}
use Rattle.std.specs.Vec.{vec_len}
use Rattle.ldm_outside.specs.Link.{IsNotClosed}
use Rattle.ldm_shared.specs.Passes.{IsSamePass}
use Rattle.ldm_downstream.specs.Pieces.{Piece}
use Rattle.ldm_shared.specs.Reader.{HasCursor}
use Rattle.ldm_gather.specs.Gathering.{GoesOn}
use Rattle.ldm_gather.specs.Scene.{KeepsGatherCounts, lent_of, moment_of, scene_of}
use Rattle.ldm_gather.specs.Turning.{IsReady, SameButCourse}
use Rattle.ldm_gather.proofs.gatherer.Gatherer.run.Given as goal

abbrev pub invariant-loop : goal.invariant-loop
invariant-loop g l = record {
  goes : (pieces : List Piece) × GoesOn g.W.Handler.handles pieces
      (moment_of l.initial.self.receiver (lent_of (scene_of l.initial.handler l.initial.first l.initial.second l.initial.self.pass (g.E.Sink.tells l.initial.log)) (g.K.Link.tells l.initial.link) (g.C.Clock.tells l.initial.clock)))
      (moment_of l.self.receiver (lent_of (scene_of l.handler l.first l.second l.self.pass (g.E.Sink.tells l.log)) (g.K.Link.tells l.link) (g.C.Clock.tells l.clock)));
  counts : KeepsGatherCounts
      (lent_of (scene_of l.initial.handler l.initial.first l.initial.second l.initial.self.pass (g.E.Sink.tells l.initial.log)) (g.K.Link.tells l.initial.link) (g.C.Clock.tells l.initial.clock))
      (lent_of (scene_of l.handler l.first l.second l.self.pass (g.E.Sink.tells l.log)) (g.K.Link.tells l.link) (g.C.Clock.tells l.clock));
  others : SameButCourse l.initial.self l.self;
  same : IsSamePass l.initial.self.pass l.self.pass;
  not_closed : IsNotClosed (g.K.Link.tells l.link);
  live : l.self.receiver.end ≡ None;
  ready : IsReady l.self.buffers.out.items l.self.buffers.notes.items;
  room : 0 < vec_len l.self.buffers.piece;
  has_cursor : HasCursor l.self.pass (g.W.Handler.cursor l.handler) None;
  may : g.W.Handler.begins l.handler l.first l.second;
}
