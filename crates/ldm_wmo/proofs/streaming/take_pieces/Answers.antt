use Rattle.std.proofs.Common.{◌≡◌, ◌∙◌, ◌+◌, ◌<◌, ℕ, List, [], Option, IfSome, length, take, refl, ap, subst, sym, arith}
use Rattle.std.specs.Prelude.{Result}
use Rattle.std.proofs.lemmas.List.{length-take-le}
use Rattle.ldm_session.specs.declared.limits.TheConstants.{LONGEST_STREAM}
use Rattle.ldm_status.specs.Streams.{AtEnd}
use Rattle.ldm_wmo.specs.Scanning.{is_complete}
use Rattle.ldm_wmo.specs.declared.ingest_fault.IngestFault.{IngestFault}
use Rattle.ldm_wmo.specs.declared.outcome.Outcome.{Outcome}
use Rattle.ldm_wmo.specs.Ingesting.{ingesting}
use Rattle.ldm_wmo.specs.Parts.{KeepsOver, RunsFrom, over_tells, tellers}
use Rattle.ldm_wmo.proofs.Lost.{begun_open}
use Rattle.ldm_wmo.proofs.Stream.{Goes, end_told, goes_first, goes_on, item_broken, lost_ended, over_same, over_then}
use Rattle.ldm_wmo.proofs.streaming.take_pieces.Goals as goal

pub loop-came-init : goal.loop-came-init
loop-came-init g c =
    let tells = tellers g.L.Link.tells g.K.Sink.tells g.E.Sink.tells g.C.Clock.tells in
    let old = over_tells g.S.Source.tells tells c.args.source.now c.args.link.now c.args.sink.now c.args.log.now c.args.clock.now in
    record {
      goes = goes_first (ingesting c.args.ingestion.now) c.args.taker.scanner c.args.taker.puts old c.requires.puts c.requires.scanner;
      kept = over_same old;
      ready = ap is_complete c.requires.scanner ∙ begun_open c.args.ingestion.now.framing;
      most = omega arith;
      room = c.requires.buffer;
      not_closed = c.requires.not_closed;
    }

pub returns-then-is_lost-clause-runs : goal.returns-then-is_lost-clause-runs
returns-then-is_lost-clause-runs g c =
    let all = ingesting c.args.ingestion.now in
    let tells = tellers g.L.Link.tells g.K.Sink.tells g.E.Sink.tells g.C.Clock.tells in
    let old = over_tells g.S.Source.tells tells c.args.source.now c.args.link.now c.args.sink.now c.args.log.now c.args.clock.now in
    let mid = over_tells g.S.Source.tells tells c.loop-came.source c.loop-came.link c.loop-came.sink c.loop-came.log c.loop-came.clock in
    let short : c.loop-came.came < LONGEST_STREAM = omega (arith, c.loop-came-test.true) in
    lost_ended all c.loop-came.met c.loop-came.scanner c.loop-came.puts c.loop-came.came old mid c.loop-came.invariant.goes c.loop-came.invariant.kept short
    (sym c.is_lost.ensures ∙ c.if-is_lost.true)

pub returns-in-Err-clause-runs : goal.returns-in-Err-clause-runs
returns-in-Err-clause-runs g c =
    let all = ingesting c.args.ingestion.now in
    let tells = tellers g.L.Link.tells g.K.Sink.tells g.E.Sink.tells g.C.Clock.tells in
    let old = over_tells g.S.Source.tells tells c.args.source.now c.args.link.now c.args.sink.now c.args.log.now c.args.clock.now in
    let mid = over_tells g.S.Source.tells tells c.loop-came.source c.loop-came.link c.loop-came.sink c.loop-came.log c.loop-came.clock in
    let new = over_tells g.S.Source.tells tells c.read_piece.new.source c.take_piece.new.link c.take_piece.new.sink c.take_piece.new.log c.take_piece.new.clock in
    let short : c.loop-came.came < LONGEST_STREAM = omega (arith, c.loop-came-test.true) in
    item_broken all c.loop-came.met c.loop-came.scanner c.loop-came.puts c.loop-came.came old mid c.loop-came.invariant.goes c.loop-came.invariant.kept short
    c.in-Err.why (take c.in-Bytes.n c.read_piece.new.into) c.take_piece.new.puts new c.in-Bytes.ensures.given.2 c.in-Err.ensures.takes

pub loop-came-preserved : goal.loop-came-preserved
loop-came-preserved g c =
    let all = ingesting c.args.ingestion.now in
    let tells = tellers g.L.Link.tells g.K.Sink.tells g.E.Sink.tells g.C.Clock.tells in
    let old = over_tells g.S.Source.tells tells c.args.source.now c.args.link.now c.args.sink.now c.args.log.now c.args.clock.now in
    let mid = over_tells g.S.Source.tells tells c.loop-came.source c.loop-came.link c.loop-came.sink c.loop-came.log c.loop-came.clock in
    let new = over_tells g.S.Source.tells tells c.read_piece.new.source c.take_piece.new.link c.take_piece.new.sink c.take_piece.new.log c.take_piece.new.clock in
    let piece = take c.in-Bytes.n c.read_piece.new.into in
    let size : length piece ≡ c.in-Bytes.n = length-take-le c.in-Bytes.n c.read_piece.new.into c.in-Bytes.ensures.given.1 in
    let P : ℕ → Type 0 = λ n. Goes all c.then-met.result c.take_piece.new.scanner c.take_piece.new.puts (c.loop-came.came + n) old new in
    let Q : Outcome → Type 0 = λ met. Goes all met c.take_piece.new.scanner c.take_piece.new.puts (c.loop-came.came + length piece) old new in
    let went = goes_on all c.loop-came.met c.in-Ok.behind c.loop-came.scanner c.take_piece.new.scanner c.loop-came.puts c.take_piece.new.puts c.loop-came.came piece old mid new
    c.loop-came.invariant.goes (omega (arith, size, c.in-Bytes.ensures.given.0)) c.in-Bytes.ensures.given.2 c.in-Ok.ensures.takes c.in-Ok.ensures.hand in
    let counts = c.in-Ok.ensures.counts in
    let later : KeepsOver mid new = record { source = c.read_piece.ensures.faults_kept; ends = counts.ends; faults = counts.faults; sink = counts.sink; log = counts.log } in
    record {
      goes = subst P size (subst Q (sym c.then-met.ensures) went);
      kept = over_then old mid new c.loop-came.invariant.kept later;
      ready = c.in-Ok.ensures.ready;
      most = omega (arith, c.in-Bytes.ensures.most, c.min-room.ensures, c.loop-came-test.true);
      room = (let n = c.loop-came.invariant.room in let m = c.read_piece.auto.into in omega (arith, n, m));
      not_closed = c.in-Ok.ensures.still_open;
    }

pub returns-in-End-clause-runs : goal.returns-in-End-clause-runs
returns-in-End-clause-runs g c =
    let all = ingesting c.args.ingestion.now in
    let tells = tellers g.L.Link.tells g.K.Sink.tells g.E.Sink.tells g.C.Clock.tells in
    let old = over_tells g.S.Source.tells tells c.args.source.now c.args.link.now c.args.sink.now c.args.log.now c.args.clock.now in
    let mid = over_tells g.S.Source.tells tells c.loop-came.source c.loop-came.link c.loop-came.sink c.loop-came.log c.loop-came.clock in
    let new = over_tells g.S.Source.tells tells c.read_piece.new.source c.loop-came.link c.loop-came.sink c.tell_cut.new.log c.loop-came.clock in
    let short : c.loop-came.came < LONGEST_STREAM = omega (arith, c.loop-came-test.true) in
    let given = c.in-End.ensures.given in
    let P : Option (List ℕ) → Type 0 = λ left. IfSome left (λ rest. rest ≡ []) in
    let at_end : AtEnd mid.source new.source = (given.0, subst P (sym given.1) given.2) in
    let Q : Result Outcome IngestFault → Type 0 = λ result. RunsFrom result all old new in
    subst Q (sym c.finish.ensures)
    (end_told all c.loop-came.met c.loop-came.scanner c.loop-came.puts c.loop-came.came old mid c.loop-came.invariant.goes c.loop-came.invariant.kept short c.tell_cut.result new at_end
    given.1 c.tell_cut.ensures.tells refl)
