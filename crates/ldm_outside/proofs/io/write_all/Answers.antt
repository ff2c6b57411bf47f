use Rattle.std.proofs.Common.{length-drop, take, arith}
use Rattle.std.proofs.lemmas.List.{take_rest}
use Rattle.ldm_outside.proofs.CallerLemmas.{Rose-later, Takes-more, Takes-same, WritesFront-take}
use Rattle.ldm_outside.proofs.io.write_all.Goals as goal

pub loop-at-preserved : goal.loop-at-preserved
loop-at-preserved g c =
    let tells = g.K.Sink.tells in
    record {
      within = omega (arith, c.in-Took.ensures.taken.0, length-drop c.loop-at.at c.args.piece.now);
      taken = Takes-more (tells c.args.sink.now) (tells c.loop-at.sink) (tells c.write.new.self) c.args.piece.now c.loop-at.at c.in-Took.n c.loop-at.invariant.taken (rw take_rest at c.in-Took.ensures.taken.2);
      faults_kept = omega (arith, c.in-Took.ensures.faults_kept);
    }

pub returns-in-Failed-clause-written : goal.returns-in-Failed-clause-written
returns-in-Failed-clause-written g c =
    let tells = g.K.Sink.tells in
    let old = tells c.args.sink.now in
    let mid = tells c.loop-at.sink in
    let new = tells c.write.new.self in (
      Rose-later old.faults mid.faults new.faults c.loop-at.invariant.faults_kept c.in-Failed.ensures.taken.0,
      WritesFront-take old new c.args.piece.now c.loop-at.at (Takes-same old mid new (take c.loop-at.at c.args.piece.now) c.loop-at.invariant.taken c.in-Failed.ensures.taken.1),
    )
