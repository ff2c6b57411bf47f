use Rattle.std.proofs.Common.{length-drop, take, arith}
use Rattle.std.proofs.lemmas.List.{take_rest}
use Rattle.ldm_actions.proofs.Fronts.{given_next, given_nothing, given_whole, still_taking, feeds_front}
use Rattle.ldm_actions.proofs.writing.feed_all.Goals as goal

pub loop-at-init : goal.loop-at-init
loop-at-init g c = record { within = omega arith; stands = given_nothing c.args.child (g.L.Launcher.tells c.args.launcher.now) }

pub write-requires : goal.write-requires
write-requires g c =
    let tells = g.L.Launcher.tells in
    still_taking c.args.child (tells c.args.launcher.now) (tells c.loop-at.launcher) (take c.loop-at.at c.args.piece.now) c.loop-at.invariant.stands c.requires

pub loop-at-preserved : goal.loop-at-preserved
loop-at-preserved g c =
    let tells = g.L.Launcher.tells in
    let took = rw take_rest at c.in-Took.ensures.fed.3 in
    record {
      within = omega (arith, c.in-Took.ensures.fed.1, length-drop c.loop-at.at c.args.piece.now);
      stands = given_next c.args.child (tells c.args.launcher.now) (tells c.loop-at.launcher) (tells c.write.new.self) c.args.piece.now c.loop-at.at c.in-Took.n
          c.loop-at.invariant.stands took;
    }

pub returns-in-Failed : goal.returns-in-Failed
returns-in-Failed g c =
    let tells = g.L.Launcher.tells in
    feeds_front c.args.child (tells c.args.launcher.now) (tells c.loop-at.launcher) (tells c.write.new.self) c.args.piece.now c.loop-at.at c.loop-at.invariant.stands c.in-Failed.ensures.fed

pub returns : goal.returns
returns g c =
    let tells = g.L.Launcher.tells in
    given_whole c.args.child (tells c.args.launcher.now) (tells c.loop-at.launcher) c.args.piece.now c.loop-at.at c.loop-at-test.false c.loop-at.invariant.stands
