use Rattle.std.proofs.Common.{arith, refl}
use Rattle.ldm_gather.specs.EachHandling.{tap_in}
use Rattle.ldm_gather.specs.Stepping.{sight_of}
use Rattle.ldm_gather.specs.Taking.{hands_of}
use Rattle.ldm_gather.proofs.StepTurns.{cursor_after, ends_so, goes_on, is_end, keeps_on, same_each, still_going, tap_before}
use Rattle.ldm_shared.proofs.Using.{same_then}
use Rattle.ldm_gather.proofs.each.step_all.Goals as goal

pub loop-init : goal.loop-init
loop-init g c = record {
  keeps = keeps_on g.T.Taker.takes (tap_in c.args.each.now)
      (sight_of c.args.each.now.left (hands_of c.args.each.now.taker c.args.lent.now) c.args.pass.now (g.E.Sink.tells c.args.log.now)) c.requires.cursor c.requires.going.some;
  same = refl;
  going = c.requires.going;
  cursor = c.requires.cursor;
  may = c.requires.may;
}

pub loop-preserved : goal.loop-preserved
loop-preserved g c =
    let init = c.args.each.now in
    let mid = c.loop.each in
    let each = c.step.new.each in
    let a = sight_of init.left (hands_of init.taker c.args.lent.now) c.args.pass.now (g.E.Sink.tells c.args.log.now) in
    let b = sight_of mid.left (hands_of mid.taker c.loop.lent) c.loop.pass (g.E.Sink.tells c.loop.log) in
    let d = sight_of each.left (hands_of each.taker c.step.new.lent) c.step.new.pass (g.E.Sink.tells c.step.new.log) in
    let so_far = c.loop.invariant.keeps in
    let keeps = goes_on g.T.Taker.takes c.products_stay.ensures.stays (tap_in init) a b d so_far c.in-On.ensures.kept c.in-On.ensures.log_kept
    (tap_before g.T.Taker.takes _ init mid b d c.loop.invariant.same c.in-On.ensures.steps) in
    let same = same_each init mid each c.loop.invariant.same c.in-On.ensures.others in
    record {
      keeps = keeps;
      same = same;
      going = still_going mid each c.in-On.ensures.others c.loop.invariant.going keeps.some;
      cursor = cursor_after init each c.step.new.pass same keeps.steps.2;
      may = c.in-On.ensures.may_again;
    }

pub returns-in_default : goal.returns-in_default
returns-in_default g c =
    let init = c.args.each.now in
    let mid = c.loop.each in
    let each = c.step.new.each in
    let a = sight_of init.left (hands_of init.taker c.args.lent.now) c.args.pass.now (g.E.Sink.tells c.args.log.now) in
    let b = sight_of mid.left (hands_of mid.taker c.loop.lent) c.loop.pass (g.E.Sink.tells c.loop.log) in
    let d = sight_of each.left (hands_of each.taker c.step.new.lent) c.step.new.pass (g.E.Sink.tells c.step.new.log) in
    let so_far = c.loop.invariant.keeps in
    record {
      kept = same_then c.args.pass.now c.loop.pass c.step.new.pass so_far.same c.step.ensures.kept;
      log_kept = omega (arith, so_far.log_kept, c.step.ensures.log_kept);
      others = same_each init mid each c.loop.invariant.same c.step.ensures.others;
      may_again = c.step.ensures.may_again;
      ends = is_end c.step.result c.in_default.not-On;
      steps =
          ends_so g.T.Taker.takes c.products_stay.ensures.stays (tap_in init) c.step.result a b d so_far
          (tap_before g.T.Taker.takes c.step.result init mid b d c.loop.invariant.same c.step.ensures.steps);
    }
