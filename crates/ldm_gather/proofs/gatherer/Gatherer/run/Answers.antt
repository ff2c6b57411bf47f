use Rattle.std.proofs.Common.{◌∙◌, [], ◌∷◌, ◌++◌, ap}
use Rattle.ldm_gather.specs.Scene.{GatherMoment, lent_of, moment_of, scene_of}
use Rattle.ldm_gather.proofs.Gathering.{counts-then, goes_on-then, same-course, same_then}
use Rattle.ldm_gather.proofs.gatherer.Gatherer.run.Goals as goal

pub loop-preserved : goal.loop-preserved
loop-preserved g c =
    let lent = lent_of (scene_of c.args.handler.now c.args.first.now c.args.second.now c.args.self.now.pass (g.E.Sink.tells c.args.log.now)) (g.K.Link.tells c.args.link.now) (g.C.Clock.tells c.args.clock.now) in
    let mid = lent_of (scene_of c.loop.handler c.loop.first c.loop.second c.loop.self.pass (g.E.Sink.tells c.loop.log)) (g.K.Link.tells c.loop.link) (g.C.Clock.tells c.loop.clock) in
    let new = lent_of (scene_of c.turn.new.handler c.turn.new.first c.turn.new.second c.turn.new.self.pass (g.E.Sink.tells c.turn.new.log)) (g.K.Link.tells c.turn.new.link) (g.C.Clock.tells c.turn.new.clock) in
    let goes = c.loop.invariant.goes in
    let step = c.in-On.ensures.turns in
    record {
      goes = (
        goes.0 ++ step.0 ∷ [],
        goes_on-then g.W.Handler.handles goes.0 step.0 (moment_of c.args.self.now.receiver lent) (moment_of c.loop.self.receiver mid) (moment_of c.turn.new.self.receiver new) goes.1 step.1,
      );
      counts = counts-then lent mid new c.loop.invariant.counts c.in-On.ensures.counts;
      others = same-course c.args.self.now c.loop.self c.turn.new.self c.loop.invariant.others c.in-On.ensures.others;
      same = same_then c.args.self.now.pass c.loop.self.pass c.turn.new.self.pass c.loop.invariant.same c.in-On.ensures.kept;
      not_closed = c.in-On.ensures.still_open;
      live = step.1.live;
      ready = c.in-On.ensures.ready;
      room = c.in-On.ensures.room;
      has_cursor = c.in-On.ensures.still_has_cursor;
      may = c.in-On.ensures.may_again;
    }

pub returns-in-AtEnd-clause-runs : goal.returns-in-AtEnd-clause-runs
returns-in-AtEnd-clause-runs g c = record {
  pieces = c.loop.invariant.goes.0;
  last = moment_of c.loop.self.receiver (lent_of (scene_of c.loop.handler c.loop.first c.loop.second c.loop.self.pass (g.E.Sink.tells c.loop.log)) (g.K.Link.tells c.loop.link) (g.C.Clock.tells c.loop.clock));
  goes_on = c.loop.invariant.goes.1;
  is_at_end = c.in-AtEnd.ensures.turns;
}

pub returns-in-Over-clause-runs : goal.returns-in-Over-clause-runs
returns-in-Over-clause-runs g c = record {
  pieces = c.loop.invariant.goes.0;
  last = moment_of c.loop.self.receiver (lent_of (scene_of c.loop.handler c.loop.first c.loop.second c.loop.self.pass (g.E.Sink.tells c.loop.log)) (g.K.Link.tells c.loop.link) (g.C.Clock.tells c.loop.clock));
  goes_on = c.loop.invariant.goes.1;
  ends = c.in-Over.ensures.turns;
}

pub returns-in-AtEnd-clause-live : goal.returns-in-AtEnd-clause-live
returns-in-AtEnd-clause-live g c =
    ap (λ (m : GatherMoment g.row.W.Denot g.row.A.Denot g.row.B.Denot). m.receiver.end) c.in-AtEnd.ensures.turns.others ∙ c.loop.invariant.live
