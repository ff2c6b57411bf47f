use Rattle.std.proofs.Common.{List, ℕ, sym, subst}
use Rattle.std.specs.Prelude.{filter}
use Rattle.std.proofs.lemmas.Result.{err_from_is_err_and}
use Rattle.ldm_actions.specs.Strip.{is_text}
use Rattle.ldm_actions.specs.Writing.{FeedsFront}
use Rattle.ldm_actions.proofs.TextFronts.{FeedsBefore, feed_begins, feed_fails, feed_goes_on, feed_taking}
use Rattle.ldm_actions.proofs.stripping.feed_text.Goals as goal

pub loop-rest-init : goal.loop-rest-init
loop-rest-init g c = feed_begins c.args.piece.now c.args.child (g.L.Launcher.tells c.args.launcher.now)

pub feed_part-requires-clause-is_taking : goal.feed_part-requires-clause-is_taking
feed_part-requires-clause-is_taking g c =
    feed_taking c.args.piece.now c.args.child c.loop-rest.rest.now (g.L.Launcher.tells c.args.launcher.now) (g.L.Launcher.tells c.loop-rest.launcher) c.requires
    c.loop-rest.invariant

pub returns-in_err-feed_part : goal.returns-in_err-feed_part
returns-in_err-feed_part g c =
    let tells = g.L.Launcher.tells in
    let p = err_from_is_err_and c.from_residual.result c.from_residual.ensures.1 in
    rw p.1
    (feed_fails c.args.piece.now c.args.child c.loop-rest.rest.now c.min.result (tells c.args.launcher.now) (tells c.loop-rest.launcher)
    (tells c.feed_part.new.launcher) c.loop-rest.invariant
    (subst (λ (part : List ℕ). FeedsFront c.args.child (filter is_text part) (tells c.loop-rest.launcher) (tells c.feed_part.new.launcher)) c.split_at.ensures.front
    c.in_err-feed_part.ensures))

pub loop-rest-preserved : goal.loop-rest-preserved
loop-rest-preserved g c =
    let tells = g.L.Launcher.tells in
    subst
    (λ (rest : List ℕ). FeedsBefore c.args.child c.args.piece.now rest (tells c.args.launcher.now) (tells c.feed_part.new.launcher))
    (sym c.split_at.ensures.back)
    (feed_goes_on c.args.piece.now c.args.child c.loop-rest.rest.now c.min.result (tells c.args.launcher.now) (tells c.loop-rest.launcher)
    (tells c.feed_part.new.launcher) c.loop-rest.invariant (rw c.split_at.ensures.front at c.in_ok-feed_part.ensures))
