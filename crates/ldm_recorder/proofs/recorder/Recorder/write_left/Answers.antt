use Rattle.std.proofs.Common.{◌≡◌, ◌∙◌, ◌+◌, ℕ, drop, arith, refl, subst, sym}
use Rattle.ldm_model.specs.State.{queued}
use Rattle.ldm_model.specs.History.{after}
use Rattle.ldm_book.specs.Listing.{queued_of}
use Rattle.ldm_recorder.specs.Finishing.{behind_all, turns_queued}
use Rattle.ldm_recorder.specs.Recording.{sight_of, who_of}
use Rattle.ldm_recorder.proofs.Coursing.{recorder_none, recorder_then}
use Rattle.ldm_recorder.proofs.Leaving.{LeftAt, behind_more, behind_none, left_all, left_begins, left_broken, left_more, still_broken, still_made}
use Rattle.ldm_recorder.proofs.Listed.{left-none, none-past, sized-at}
use Rattle.ldm_recorder.proofs.recorder.Recorder.write_left.Goals as goal

pub loop-i-init : goal.loop-i-init
loop-i-init g c =
    let r = c.args.self.now in
    record {
      same = recorder_none r;
      lasts = refl;
      behind = c.requires.behind;
      next = λ s stands. refl;
      wrote = λ s stands pass.
          left_begins (who_of pass r) (turns_queued r.base c.args.from (queued s)) (sight_of pass r (g.D.Disk.tells c.args.disk.now) (g.E.Sink.tells c.args.log.now))
          (g.met.D.Disk.consistent c.args.disk.now);
    }

pub write_queued-requires-clause-whole : goal.write_queued-requires-clause-whole
write_queued-requires-clause-whole g c =
    let there = c.requires.after_calls in
    let s = after there.arena there.slots there.history in
    sized-at s (λ n row is. c.products_stay.ensures.whole there.arena there.slots there.history there.legal n row.product row.time (row.place, is)) c.loop-i.i
    (queued_of c.in-Some.product) (sym (c.in-Some.ensures s there.stands))

pub loop-i-preserved : goal.loop-i-preserved
loop-i-preserved g c =
    let r = c.args.self.now in
    let l = c.loop-i in
    let q = queued_of c.in-Some.product in
    let e = c.in-Ok.ensures in
    let t = c.write_queued.new.self in
    record {
      same = recorder_then r l.self t l.invariant.same e.same;
      lasts = e.lasts ∙ l.invariant.lasts;
      behind = e.behind;
      next = λ s stands.
          subst (λ (n : ℕ). behind_all n (drop (l.i + 1) (queued s)) ≡ behind_all c.args.from (queued s)) (sym e.next)
          (behind_more l.next l.i (behind_all c.args.from (queued s)) (queued s) q (sym (c.in-Some.ensures s stands)) (l.invariant.next s stands));
      wrote = λ s stands pass.
          (let began = sight_of pass r (g.D.Disk.tells c.args.disk.now) (g.E.Sink.tells c.args.log.now) in
          let here = sight_of pass l.self (g.D.Disk.tells l.disk) (g.E.Sink.tells l.log) in
          let there = sight_of pass t (g.D.Disk.tells c.write_queued.new.disk) (g.E.Sink.tells c.write_queued.new.log) in
          let all = turns_queued r.base c.args.from (queued s) in
          subst (λ (n : ℕ). LeftAt (who_of pass r) all (turns_queued r.base n (drop (l.i + 1) (queued s))) began there) (sym e.next)
          (left_more (who_of pass r) r.base l.next l.i (queued s) q all began here there (sym (c.in-Some.ensures s stands)) (l.invariant.wrote s stands pass)
          (still_made r l.self l.invariant.same pass l.next q here there (e.wrote pass))));
    }

pub returns-in_default-clause-same : goal.returns-in_default-clause-same
returns-in_default-clause-same g c = c.loop-i.invariant.same

pub returns-in_default-clause-next : goal.returns-in_default-clause-next
returns-in_default-clause-next g c = λ s stands.
    behind_none c.loop-i.next _ (drop c.loop-i.i (queued s)) (c.loop-i.invariant.next s stands) (left-none (queued s) c.loop-i.i (sym (c.in_default.ensures s stands)))

pub returns-in_default-clause-wrote : goal.returns-in_default-clause-wrote
returns-in_default-clause-wrote g c = λ s stands pass.
    left_all _ c.args.self.now.base c.loop-i.next (drop c.loop-i.i (queued s)) _ _ _ (c.loop-i.invariant.wrote s stands pass)
    (left-none (queued s) c.loop-i.i (sym (c.in_default.ensures s stands)))

pub returns-in-Err-clause-same : goal.returns-in-Err-clause-same
returns-in-Err-clause-same g c = recorder_then c.args.self.now c.loop-i.self c.write_queued.new.self c.loop-i.invariant.same c.in-Err.ensures.same

pub returns-in-Err-clause-wrote : goal.returns-in-Err-clause-wrote
returns-in-Err-clause-wrote g c = λ s stands pass.
    let r = c.args.self.now in
    let l = c.loop-i in
    let q = queued_of c.in-Some.product in
    let began = sight_of pass r (g.D.Disk.tells c.args.disk.now) (g.E.Sink.tells c.args.log.now) in
    let here = sight_of pass l.self (g.D.Disk.tells l.disk) (g.E.Sink.tells l.log) in
    let there = sight_of pass c.write_queued.new.self (g.D.Disk.tells c.write_queued.new.disk) (g.E.Sink.tells c.write_queued.new.log) in
    let all = turns_queued r.base c.args.from (queued s) in
    left_broken (who_of pass r) r.base l.next l.i (queued s) q all began here there (sym (c.in-Some.ensures s stands)) (l.invariant.wrote s stands pass) c.in-Err.why
    (still_broken r l.self l.invariant.same pass l.next q here there c.in-Err.why (c.in-Err.ensures.wrote pass))

pub returns-clause-same : goal.returns-clause-same
returns-clause-same g c = c.loop-i.invariant.same

pub returns-clause-next : goal.returns-clause-next
returns-clause-next g c = λ s stands.
    behind_none c.loop-i.next _ (drop c.loop-i.i (queued s)) (c.loop-i.invariant.next s stands)
    (none-past c.args.book.now s c.loop-i.i stands (omega (arith, c.slots-i-end.ensures.slots, c.slots-i-end.ensures.few)))

pub returns-clause-wrote : goal.returns-clause-wrote
returns-clause-wrote g c = λ s stands pass.
    left_all _ c.args.self.now.base c.loop-i.next (drop c.loop-i.i (queued s)) _ _ _ (c.loop-i.invariant.wrote s stands pass)
    (none-past c.args.book.now s c.loop-i.i stands (omega (arith, c.slots-i-end.ensures.slots, c.slots-i-end.ensures.few)))
