use Rattle.std.proofs.Common.{◌+◌, ◌≤◌, ◌∙◌, length, ap, subst, sym, arith}
use Rattle.std.proofs.lemmas.List.{length-drop}
use Rattle.ldm_wmo.specs.Scanning.{Scanning, after, bytes_taken}
use Rattle.ldm_wmo.specs.declared.outcome.Outcome.{Outcome}
use Rattle.ldm_wmo.specs.Ingesting.{ingesting}
use Rattle.ldm_wmo.specs.Outcomes.{then_of}
use Rattle.ldm_wmo.specs.Parts.{hands_tell, tellers}
use Rattle.ldm_wmo.proofs.Pieces.{TakesFront, front_broken, front_first, front_hand, front_on, front_whole, slice_rest}
use Rattle.ldm_wmo.proofs.Taken.{hands_same, hands_then}
use Rattle.ldm_wmo.proofs.taking.take_piece.Goals as goal

pub loop-at-init : goal.loop-at-init
loop-at-init g c =
    let tells = tellers g.L.Link.tells g.K.Sink.tells g.E.Sink.tells g.C.Clock.tells in
    let old = hands_tell tells c.args.puts.now c.args.link.now c.args.sink.now c.args.log.now c.args.clock.now in
    record {
      within = omega arith;
      front = front_first (ingesting c.args.ingestion.now) c.args.scanner.now c.args.piece.now old;
      ready = c.requires.ready;
      kept = hands_same old;
      not_closed = c.requires.not_closed;
    }

pub returns-in-Err-clause-takes : goal.returns-in-Err-clause-takes
returns-in-Err-clause-takes g c =
    let tells = tellers g.L.Link.tells g.K.Sink.tells g.E.Sink.tells g.C.Clock.tells in
    let old = hands_tell tells c.args.puts.now c.args.link.now c.args.sink.now c.args.log.now c.args.clock.now in
    let mid = hands_tell tells c.loop-at.puts c.loop-at.link c.loop-at.sink c.loop-at.log c.loop-at.clock in
    let new = hands_tell tells c.take_given.new.puts c.take_given.new.link c.take_given.new.sink c.take_given.new.log c.take_given.new.clock in
    let rest = slice_rest c.loop-at.at c.args.piece.now in
    front_broken (ingesting c.args.ingestion.now) c.loop-at.met c.args.scanner.now c.loop-at.scanner c.args.piece.now c.loop-at.at old mid c.loop-at.invariant.front c.loop-at.invariant.ready
    c.in-Err.why c.push-at.new.self c.push-at.result new (c.push-at.ensures.after ∙ ap (after c.loop-at.scanner) rest) (c.push-at.ensures.taken ∙ ap (bytes_taken c.loop-at.scanner) rest) c.loop-at.invariant.kept c.in-Err.ensures.takes

pub loop-at-preserved : goal.loop-at-preserved
loop-at-preserved g c =
    let all = ingesting c.args.ingestion.now in
    let tells = tellers g.L.Link.tells g.K.Sink.tells g.E.Sink.tells g.C.Clock.tells in
    let old = hands_tell tells c.args.puts.now c.args.link.now c.args.sink.now c.args.log.now c.args.clock.now in
    let mid = hands_tell tells c.loop-at.puts c.loop-at.link c.loop-at.sink c.loop-at.log c.loop-at.clock in
    let new = hands_tell tells c.take_given.new.puts c.take_given.new.link c.take_given.new.sink c.take_given.new.log c.take_given.new.clock in
    let at = c.loop-at.at + c.push-at.result in
    let rest = slice_rest c.loop-at.at c.args.piece.now in
    let went = front_on all c.loop-at.met c.args.scanner.now c.loop-at.scanner c.args.piece.now c.loop-at.at old mid c.loop-at.invariant.front c.loop-at.invariant.ready
    c.in-Ok.this_one c.push-at.new.self c.push-at.result new (c.push-at.ensures.after ∙ ap (after c.loop-at.scanner) rest) (c.push-at.ensures.taken ∙ ap (bytes_taken c.loop-at.scanner) rest) c.in-Ok.ensures.takes in
    let P : Outcome → Type 0 = λ met. TakesFront all met c.args.scanner.now c.next.new.self c.args.piece.now at old new in
    let Q : Scanning → Type 0 = λ s. TakesFront all (then_of c.loop-at.met c.in-Ok.this_one) c.args.scanner.now s c.args.piece.now at old new in
    record {
      within = (let a = c.push-at.ensures.within in let b = c.loop-at.invariant.within in omega (arith, ap length rest, length-drop c.loop-at.at c.args.piece.now));
      front = subst P (sym c.then-met.ensures) (subst Q (sym c.next.ensures.after) went);
      ready = c.next.ensures.ready;
      kept = hands_then old mid new c.loop-at.invariant.kept c.in-Ok.ensures.counts;
      not_closed = c.in-Ok.ensures.still_open;
    }

pub returns-clause-takes : goal.returns-clause-takes
returns-clause-takes g c =
    let tells = tellers g.L.Link.tells g.K.Sink.tells g.E.Sink.tells g.C.Clock.tells in
    let old = hands_tell tells c.args.puts.now c.args.link.now c.args.sink.now c.args.log.now c.args.clock.now in
    let mid = hands_tell tells c.loop-at.puts c.loop-at.link c.loop-at.sink c.loop-at.log c.loop-at.clock in
    let past : length c.args.piece.now ≤ c.loop-at.at = omega (arith, c.loop-at-test.false) in
    front_whole (ingesting c.args.ingestion.now) c.loop-at.met c.args.scanner.now c.loop-at.scanner c.args.piece.now c.loop-at.at old mid c.loop-at.invariant.front past

pub returns-clause-hand : goal.returns-clause-hand
returns-clause-hand g c =
    let tells = tellers g.L.Link.tells g.K.Sink.tells g.E.Sink.tells g.C.Clock.tells in
    let old = hands_tell tells c.args.puts.now c.args.link.now c.args.sink.now c.args.log.now c.args.clock.now in
    let mid = hands_tell tells c.loop-at.puts c.loop-at.link c.loop-at.sink c.loop-at.log c.loop-at.clock in
    let past : length c.args.piece.now ≤ c.loop-at.at = omega (arith, c.loop-at-test.false) in
    front_hand (ingesting c.args.ingestion.now) c.loop-at.met c.args.scanner.now c.loop-at.scanner c.args.piece.now c.loop-at.at old mid c.loop-at.invariant.front past
