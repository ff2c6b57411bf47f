use Rattle.std.proofs.Common.{◌≡◌, ℕ, ◌+◌, ◌-◌, List, length, take, drop, refl, ap, ◌∙◌, arith}
use Rattle.std.proofs.lemmas.List.{length-drop, take_all}
use Rattle.ldm_rpc.specs.Reading.{Reading}
use Rattle.ldm_rpc.specs.Streams.{Position}
use Rattle.ldm_rpc.proofs.CallerLemmas.{limit-after, limit-next, reads_all, reads_more, reads_none}
use Rattle.drive_values.specs.Places.{all_of, position_of}
use Rattle.drive_values.proofs.PlacesLemmas.{is_empty, refused_at}
use Rattle.drive_values.proofs.records.places.read_on.Goals as goal

pub loop-rest-preserved : goal.loop-rest-preserved
loop-rest-preserved c =
    let t = c.loop-rest.stream in
    let rest = c.loop-rest.rest.now in
    let n = c.in-Ok.taken in
    let r = c.push.new.self in
    let after_is = c.in-Ok.ensures.after.0 in
    let stream_is = c.in-Ok-take_whole.ensures.stream in
    let len : length (drop n rest) ≡ length rest - n = length-drop n rest in
    let behind : take (length rest - n) (drop n rest) ≡ drop n rest = take_all (length rest - n) (drop n rest) (omega (arith, len)) in
    let came : c.take_whole.new.stream.came ≡ t.came + n = ap (λ (q : Position). q.came) stream_is in
    record {
      reads = reads_more (position_of c.args.stream.now) c.args.piece.now (all_of c.args.found.now.items) (position_of t) rest (all_of c.loop-rest.found.items) n r
          (position_of c.take_whole.new.stream) (take (length rest - n) (drop n rest)) (all_of c.take_whole.new.found.items) c.loop-rest.invariant.reads after_is c.in-Ok.ensures.taken.0
          c.in-Ok-take_whole.ensures.found stream_is c.in-Ok-take_whole.ensures.ready behind;
      limit = ap (λ (q : Position). q.reading.limit) stream_is ∙ limit-next r ∙ ap (λ (s : Reading). s.limit) after_is ∙ limit-after t.records rest ∙ c.loop-rest.invariant.limit;
      came = ap (λ (x : List ℕ). c.take_whole.new.stream.came + length x) behind ∙ omega (arith, came, len, c.in-Ok.ensures.taken.1, c.loop-rest.invariant.came);
    }

pub returns-clause-records : goal.returns-clause-records
returns-clause-records c =
    (reads_all (position_of c.args.stream.now) c.args.piece.now (all_of c.args.found.now.items) (position_of c.loop-rest.stream) c.loop-rest.rest.now (all_of c.loop-rest.found.items)
    (is_empty c.loop-rest.rest.now c.loop-rest-test.ensures) c.loop-rest.invariant.reads).0

pub returns-clause-in_hand : goal.returns-clause-in_hand
returns-clause-in_hand c =
    (reads_all (position_of c.args.stream.now) c.args.piece.now (all_of c.args.found.now.items) (position_of c.loop-rest.stream) c.loop-rest.rest.now (all_of c.loop-rest.found.items)
    (is_empty c.loop-rest.rest.now c.loop-rest-test.ensures) c.loop-rest.invariant.reads).1

pub returns-in-Err-clause-refused : goal.returns-in-Err-clause-refused
returns-in-Err-clause-refused c =
    refused_at c.in-Err.fault c.args.stream.now c.loop-rest.stream (record { records = c.push.new.self; begins = c.loop-rest.stream.begins; came = c.loop-rest.stream.came })
    c.args.piece.now c.loop-rest.rest.now (all_of c.args.found.now.items) (all_of c.loop-rest.found.items) c.loop-rest.invariant.reads c.in-Err.ensures.fault refl

pub loop-rest-init : goal.loop-rest-init
loop-rest-init c = record {
  reads = reads_none (position_of c.args.stream.now) c.args.piece.now (all_of c.args.found.now.items) c.requires.ready;
  limit = refl;
  came = refl;
}
