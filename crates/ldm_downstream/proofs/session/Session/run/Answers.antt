use Rattle.std.proofs.Common.{Some, None, refl, arith}
use Rattle.ldm_outside.specs.Session.{ungated_tells}
use Rattle.ldm_downstream.proofs.Rounds.{rounds-then}
use Rattle.ldm_downstream.proofs.SessionTurns.{kept-then, same-then}
use Rattle.ldm_downstream.proofs.session.Session.run.Goals as goal

pub loop-init : goal.loop-init
loop-init g c = record {
  runs = λ ahead p first begins runs kept. runs;
  kept = record { link = omega arith; ends = omega arith; log = omega arith; stops = omega arith };
  live = c.requires.live;
  ready = c.requires.ready;
  room = c.requires.room;
  not_closed = c.requires.not_closed;
  same = refl;
}

pub loop-preserved : goal.loop-preserved
loop-preserved g c =
    let old = ungated_tells g.K.Link.tells g.E.Sink.tells g.C.Clock.tells c.args.link.now c.args.log.now c.args.clock.now in
    let mid = ungated_tells g.K.Link.tells g.E.Sink.tells g.C.Clock.tells c.loop.link c.loop.log c.loop.clock in
    let new = ungated_tells g.K.Link.tells g.E.Sink.tells g.C.Clock.tells c.turn.new.link c.turn.new.log c.turn.new.clock in
    record {
      runs = λ ahead p first begins runs kept.
          rounds-then None ahead p first c.loop.self.taker.receiver c.turn.new.self.taker.receiver c.loop.pass c.turn.new.pass
          begins mid new (c.loop.invariant.runs ahead p first begins runs kept) (kept-then begins old mid kept c.loop.invariant.kept) c.in-None-turn.ensures.rounds;
      kept = kept-then old mid new c.loop.invariant.kept c.in-None-turn.ensures.counts;
      live = c.in-None-turn.ensures.rounds.live;
      ready = c.in-None-turn.ensures.ready;
      room = c.in-None-turn.ensures.room;
      not_closed = c.in-None-turn.ensures.still_open;
      same = same-then c.args.pass.now c.loop.pass c.turn.new.pass c.loop.invariant.same c.in-None-turn.ensures.kept;
    }

pub returns-in-Some-turn-clause-runs_out : goal.returns-in-Some-turn-clause-runs_out
returns-in-Some-turn-clause-runs_out g c = λ ahead p first begins runs kept.
    let old = ungated_tells g.K.Link.tells g.E.Sink.tells g.C.Clock.tells c.args.link.now c.args.log.now c.args.clock.now in
    let mid = ungated_tells g.K.Link.tells g.E.Sink.tells g.C.Clock.tells c.loop.link c.loop.log c.loop.clock in
    let new = ungated_tells g.K.Link.tells g.E.Sink.tells g.C.Clock.tells c.turn.new.link c.turn.new.log c.turn.new.clock in
    rounds-then (Some c.in-Some-turn.end) ahead p first c.loop.self.taker.receiver c.turn.new.self.taker.receiver c.loop.pass c.turn.new.pass
    begins mid new (c.loop.invariant.runs ahead p first begins runs kept) (kept-then begins old mid kept c.loop.invariant.kept) c.in-Some-turn.ensures.rounds
