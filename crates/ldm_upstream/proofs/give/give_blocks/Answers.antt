use Rattle.std.proofs.Common.{◌∙◌, ℕ, List, arith, ap, refl}
use Rattle.std.proofs.lemmas.Result.{err_from_is_err_and}
use Rattle.ldm_shared.specs.Passes.{PassView}
use Rattle.ldm_shared.specs.Reader.{Holds}
use Rattle.ldm_sender.specs.Does.{moment_of}
use Rattle.ldm_upstream.specs.Giving.{given_of}
use Rattle.ldm_upstream.proofs.Sending.{none_given, one_more_given, breaks_in_block, all_given}
use Rattle.ldm_upstream.proofs.give.give_blocks.Goals as goal

pub loop-at-init : goal.loop-at-init
loop-at-init g c = record {
  size_is = c.size-size.ensures;
  within = omega arith;
  counted = omega arith;
  kept = refl;
  not_closed = c.requires.not_closed;
  holds = λ body h. h;
  gave = λ body h.
      none_given c.args.lent.now.reader.k (given_of c.args.lent.now.held.now body) c.args.standing.now
      (moment_of c.args.pass.now (g.K.Link.tells c.args.link.now)
      (g.C.Clock.tells c.args.clock.now) c.args.out.now.items) c.requires.not_closed (omega arith);
}

pub returns-in_err-give_block-clause-gives : goal.returns-in_err-give_block-clause-gives
returns-in_err-give_block-clause-gives g c =
    let why = err_from_is_err_and c.from_residual.result c.from_residual.ensures.1 in
    rw (why.1, why.2) λ body h.
    let link = g.K.Link.tells in
    let clock = g.C.Clock.tells in
    let invariant = c.loop-at.invariant in
    let now_holds = invariant.holds body h in
    breaks_in_block c.in_err-give_block.field-0.0 c.args.lent.now.reader.k (given_of c.args.lent.now.held.now body)
    c.args.standing.now c.loop-at.standing
    (moment_of c.args.pass.now (link c.args.link.now) (clock c.args.clock.now) c.args.out.now.items)
    (moment_of c.loop-at.pass (link c.loop-at.link) (clock c.loop-at.clock) c.loop-at.out.items)
    (moment_of c.give_block.new.pass (link c.give_block.new.link)
    (clock c.give_block.new.clock) c.give_block.new.out.items) c.loop-at.number c.loop-at.at c.min-len.result
    c.give_block.new.standing.sent_at (ap (λ (p : PassView). p.actor) invariant.kept)
    (record { within = omega (arith, h.whole); len_is = omega (arith, h.whole, c.min-len.ensures) })
    (invariant.gave body h) (c.in_err-give_block.ensures.gives body now_holds)

pub loop-at-preserved : goal.loop-at-preserved
loop-at-preserved g c =
    let link = g.K.Link.tells in
    let clock = g.C.Clock.tells in
    let old = c.args.pass.now in
    let k = c.args.lent.now.reader.k in
    let held = c.args.lent.now.held.now in
    let at = c.loop-at.at in
    let len = c.min-len.result in
    let invariant = c.loop-at.invariant in
    record {
      size_is = invariant.size_is;
      within = omega (arith, c.min-len.ensures);
      counted = omega (arith, c.min-len.ensures);
      kept = c.in_ok-give_block.ensures.kept
          ∙ ap (λ (p : PassView). record p { seen = c.give_block.new.pass.seen }) invariant.kept;
      not_closed = c.in_ok-give_block.ensures.still_open;
      holds = λ (body : List ℕ)
          (h : Holds old k held body). (c.in_ok-give_block.ensures.gives body (invariant.holds body h)).0.holds;
      gave = λ (body : List ℕ) (h : Holds old k held body).
          let gives = c.in_ok-give_block.ensures.gives body (invariant.holds body h) in
          one_more_given k (given_of held body) c.args.standing.now c.loop-at.standing c.give_block.new.standing
          (moment_of old (link c.args.link.now) (clock c.args.clock.now) c.args.out.now.items)
          (moment_of c.loop-at.pass (link c.loop-at.link) (clock c.loop-at.clock) c.loop-at.out.items)
          (moment_of c.give_block.new.pass (link c.give_block.new.link)
          (clock c.give_block.new.clock) c.give_block.new.out.items) c.loop-at.number at len
          (ap (λ (p : PassView). p.actor) invariant.kept)
          (record { within = omega (arith, h.whole); len_is = omega (arith, h.whole, c.min-len.ensures) })
          (invariant.gave body h) gives.0 gives.1;
    }

pub returns-clause-gives : goal.returns-clause-gives
returns-clause-gives g c = λ body h.
    let link = g.K.Link.tells in
    let clock = g.C.Clock.tells in
    all_given c.args.lent.now.reader.k (given_of c.args.lent.now.held.now body) c.args.standing.now c.loop-at.standing
    (moment_of c.args.pass.now (link c.args.link.now) (clock c.args.clock.now) c.args.out.now.items)
    (moment_of c.loop-at.pass (link c.loop-at.link) (clock c.loop-at.clock) c.loop-at.out.items) c.loop-at.number
    c.loop-at.at (omega (arith, h.whole)) (c.loop-at.invariant.holds body h)
    (c.loop-at.invariant.gave body h)
