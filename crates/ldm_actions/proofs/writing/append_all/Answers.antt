use Rattle.std.proofs.Common.{length-drop, take, arith}
use Rattle.std.proofs.lemmas.List.{take_rest}
use Rattle.ldm_actions.proofs.Fronts.{appended_next, appended_nothing, appended_whole, still_open, appends_front}
use Rattle.ldm_actions.proofs.writing.append_all.Goals as goal

pub loop-at-init : goal.loop-at-init
loop-at-init g c = record { within = omega arith; stands = appended_nothing c.args.file (g.F.Store.tells c.args.store.now) }

pub write-requires : goal.write-requires
write-requires g c =
    let tells = g.F.Store.tells in
    still_open c.args.file (tells c.args.store.now) (tells c.loop-at.store) (take c.loop-at.at c.args.piece.now) c.loop-at.invariant.stands c.requires

pub loop-at-preserved : goal.loop-at-preserved
loop-at-preserved g c =
    let tells = g.F.Store.tells in
    let took = rw take_rest at c.in-Took.ensures.written.2 in
    record {
      within = omega (arith, c.in-Took.ensures.written.0, length-drop c.loop-at.at c.args.piece.now);
      stands = appended_next c.args.file (tells c.args.store.now) (tells c.loop-at.store) (tells c.write.new.self) c.args.piece.now c.loop-at.at c.in-Took.n
          c.loop-at.invariant.stands took;
    }

pub returns-in-Failed : goal.returns-in-Failed
returns-in-Failed g c =
    let tells = g.F.Store.tells in
    appends_front c.args.file (tells c.args.store.now) (tells c.loop-at.store) (tells c.write.new.self) c.args.piece.now c.loop-at.at c.loop-at.invariant.stands c.in-Failed.ensures.written

pub returns : goal.returns
returns g c =
    let tells = g.F.Store.tells in
    appended_whole c.args.file (tells c.args.store.now) (tells c.loop-at.store) c.args.piece.now c.loop-at.at c.loop-at-test.false c.loop-at.invariant.stands
