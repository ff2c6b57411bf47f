use Rattle.std.proofs.Common.{◌≡◌, ◌<◌, ◌≤◌, refl, ap, sym, ◌∙◌, arith}
use Rattle.ldm_watch.specs.Outside.{watch_tells}
use Rattle.ldm_watch.specs.Sought.{sought_by}
use Rattle.ldm_watch.specs.StreamView.{StreamView}
use Rattle.ldm_watch.proofs.Rounds.{kept-then}
use Rattle.ldm_watch.proofs.Turned.{below-of, request-failed, request-sent, sound-of, stands-at}
use Rattle.ldm_watch.proofs.session.Session.run.Goals as goal

pub returns-in-Some-clause-watches : goal.returns-in-Some-clause-watches
returns-in-Some-clause-watches g c =
    let self = c.args.self.now in
    let old = watch_tells g.K.Link.tells g.S.Sink.tells c.args.link.now c.args.sink.now in
    let new = watch_tells g.K.Link.tells g.S.Sink.tells c.write.new.link c.write.new.sink in
    request-failed (sought_by self.stream.watching) self.out.items self.lines.items c.requires.owed c.requires.no_lines old new
    c.in-Some.fault c.in-Some.ensures.writes

pub loop-turns-init : goal.loop-turns-init
loop-turns-init g c =
    let self = c.args.self.now in
    let old = watch_tells g.K.Link.tells g.S.Sink.tells c.args.link.now c.args.sink.now in
    let new = watch_tells g.K.Link.tells g.S.Sink.tells c.write.new.link c.write.new.sink in
    record {
      runs = request-sent (sought_by self.stream.watching) self.out.items self.lines.items c.requires.owed c.requires.no_lines old new
          c.write.new.self.stream (c.write.ensures.same.0 ∙ stands-at self.stream c.requires.begins.0 c.requires.begins.1) c.in-None.ensures.writes c.write.ensures.counts;
      ready = record {
        no_out = c.in-None.ensures.empty.0;
        no_lines = c.in-None.ensures.empty.1;
        some = (let same = c.write.ensures.same.1 in let some = c.requires.room in omega (arith, same, some));
      };
      not_closed = c.write.ensures.still_open;
      moved = omega arith;
    }

pub loop-turns-preserved : goal.loop-turns-preserved
loop-turns-preserved g c =
    let self = c.args.self.now in
    let old = watch_tells g.K.Link.tells g.S.Sink.tells c.args.link.now c.args.sink.now in
    record {
      runs = c.in-None-turn.ensures.rounds (sought_by self.stream.watching) old c.requires.counted c.loop-turns.invariant.runs;
      ready = c.in-None-turn.ensures.ready;
      not_closed = c.in-None-turn.ensures.still_open;
      moved = (let before = c.loop-turns.invariant.moved in let more = c.in-None-turn.ensures.moves in omega (arith, before, more));
    }
