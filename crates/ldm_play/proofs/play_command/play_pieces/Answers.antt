use Rattle.std.proofs.Common.{◌≡◌, ◌∙◌, ℕ, List, [], ◌++◌, Option, IfSome, ap, sym, subst, take, refl, arith, length-append, length-take}
use Rattle.ldm_outside.specs.Count.{Rose}
use Rattle.ldm_status.specs.Streams.{StreamsRecord}
use Rattle.ldm_outside.proofs.CallerLemmas.{Gives-nothing, Gives-same, Gives-then, Rose-later}
use Rattle.ldm_play.specs.PendingView.{PendingView}
use Rattle.ldm_play.proofs.GoesOnLemmas.{GoesOn-nothing, answers_known_lines}
use Rattle.ldm_play.specs.OnBook.{beside}
use Rattle.ldm_play.proofs.PlaysScriptLemmas.{all_answered, stopped_within, stopped_short, failed_short, too_much}
use Rattle.ldm_play.proofs.play_command.play_pieces.Goals as goal

pub loop-taken-init : goal.loop-taken-init
loop-taken-init g c = record {
  limit = omega arith;
  number = let first = ap (λ (v : PendingView). v.number) c.requires.fresh in omega arith;
  source_faults = omega arith;
  sink_faults = omega arith;
  handed_on = c.requires.handed_on;
  ends = refl;
  script = ([], refl, Gives-nothing (g.S.Source.tells c.args.source.now) (g.S.Source.tells c.args.source.now) refl, λ p stands. GoesOn-nothing p c.args.player.now c.args.pending.now (g.K.Sink.tells c.args.sink.now) c.requires.fresh stands);
}

pub returns-in-Err-clause-plays : goal.returns-in-Err-clause-plays
returns-in-Err-clause-plays g c = λ p log_before log_after stands.
    let so_far = c.loop-taken.invariant.script in
    let n = c.in-Bytes.n in
    let piece = take n c.read.new.into in
    let given = c.in-Bytes.ensures.given in
    let before : StreamsRecord = beside log_before (g.S.Source.tells c.args.source.now) (g.K.Sink.tells c.args.sink.now) in
    let after : StreamsRecord = beside log_after (g.S.Source.tells c.read.new.self) (g.K.Sink.tells c.play_piece.new.sink) in
    stopped_short c.in-Err.stop p c.play_piece.new.player.book before after (record {
      script = so_far.0 ++ piece;
      taken = Gives-then (g.S.Source.tells c.args.source.now) (g.S.Source.tells c.loop-taken.source) (g.S.Source.tells c.read.new.self) so_far.0 piece so_far.2 given.2;
      limit = omega (arith, length-append so_far.0 piece, length-take n c.read.new.into, so_far.1, given.1, c.read.auto.into, length-take c.min-room.result c.loop-taken.piece, c.min-room.ensures, c.loop-taken-test.true);
      ends = stopped_within c.in-Err.stop p (so_far.0 ++ piece) before after (c.in-Err.ensures.played p so_far.0 (g.K.Sink.tells c.args.sink.now) (so_far.3 p stands));
    })

pub loop-taken-preserved : goal.loop-taken-preserved
loop-taken-preserved g c =
    let so_far = c.loop-taken.invariant.script in
    let n = c.in-Bytes.n in
    let piece = take n c.read.new.into in
    let given = c.in-Bytes.ensures.given in
    record {
      limit = omega (arith, given.1, c.read.auto.into, length-take c.min-room.result c.loop-taken.piece, c.min-room.ensures, c.loop-taken-test.true);
      number = omega (arith, c.loop-taken.invariant.number, c.in_default.ensures.number, length-take n c.read.new.into, given.1);
      source_faults = omega (arith, c.loop-taken.invariant.source_faults, c.in-Bytes.ensures.faults_kept);
      sink_faults = omega (arith, c.loop-taken.invariant.sink_faults, c.in_default.ensures.faults_kept);
      handed_on = c.in_default.ensures.handed_on;
      ends = given.3 ∙ c.loop-taken.invariant.ends;
      script = (
        so_far.0 ++ piece,
        omega (arith, length-append so_far.0 piece, length-take n c.read.new.into, so_far.1, given.1),
        Gives-then (g.S.Source.tells c.args.source.now) (g.S.Source.tells c.loop-taken.source) (g.S.Source.tells c.read.new.self) so_far.0 piece so_far.2 given.2,
        λ p stands. c.in_default.ensures.played p so_far.0 (g.K.Sink.tells c.args.sink.now) (so_far.3 p stands),
      );
    }

pub returns-in-Ok-clause-plays : goal.returns-in-Ok-clause-plays
returns-in-Ok-clause-plays g c = λ p log_before log_after stands.
    let so_far = c.loop-taken.invariant.script in
    let given = c.in-End.ensures.given in
    let first = g.S.Source.tells c.args.source.now in
    let before = g.S.Source.tells c.loop-taken.source in
    let after = g.S.Source.tells c.read.new.self in
    all_answered p so_far.0 c.play_last.new.player (beside log_before first (g.K.Sink.tells c.args.sink.now)) (beside log_after after (g.K.Sink.tells c.play_last.new.sink))
    (Gives-same first before after so_far.0 so_far.2 given.1)
    (omega (arith, so_far.1, c.loop-taken-test.true))
    (subst (λ (n : ℕ). Rose n after.ends) c.loop-taken.invariant.ends given.0, subst (λ (o : Option (List ℕ)). IfSome o (λ rest. rest ≡ [])) (sym given.1) given.2)
    (c.in-Ok.ensures.played p so_far.0 (g.K.Sink.tells c.args.sink.now) (so_far.3 p stands))

pub returns-in-Failed-clause-plays : goal.returns-in-Failed-clause-plays
returns-in-Failed-clause-plays g c = λ p log_before log_after stands.
    let so_far = c.loop-taken.invariant.script in
    let given = c.in-Failed.ensures.given in
    let first = g.S.Source.tells c.args.source.now in
    let before = g.S.Source.tells c.loop-taken.source in
    let after = g.S.Source.tells c.read.new.self in
    failed_short p c.loop-taken.player.book (beside log_before first (g.K.Sink.tells c.args.sink.now)) (beside log_after after (g.K.Sink.tells c.loop-taken.sink)) (record {
      script = so_far.0;
      taken = Gives-same first before after so_far.0 so_far.2 given.1;
      limit = omega (arith, so_far.1, c.loop-taken.invariant.limit);
      ends = (
        omega (arith, so_far.1, c.loop-taken-test.true),
        Rose-later first.faults before.faults after.faults c.loop-taken.invariant.source_faults given.0,
        answers_known_lines p so_far.0 c.loop-taken.player c.loop-taken.pending (g.K.Sink.tells c.args.sink.now) (g.K.Sink.tells c.loop-taken.sink) (so_far.3 p stands),
      );
    })

pub returns-clause-plays : goal.returns-clause-plays
returns-clause-plays g c = λ p log_before log_after stands.
    let so_far = c.loop-taken.invariant.script in
    let first = g.S.Source.tells c.args.source.now in
    let after = g.S.Source.tells c.loop-taken.source in
    too_much p c.loop-taken.player.book (beside log_before first (g.K.Sink.tells c.args.sink.now)) (beside log_after after (g.K.Sink.tells c.loop-taken.sink)) (record {
      script = so_far.0;
      taken = so_far.2;
      limit = omega (arith, so_far.1, c.loop-taken.invariant.limit);
      ends = (
        omega (arith, so_far.1, c.loop-taken.invariant.limit, c.loop-taken-test.false),
        answers_known_lines p so_far.0 c.loop-taken.player c.loop-taken.pending (g.K.Sink.tells c.args.sink.now) (g.K.Sink.tells c.loop-taken.sink) (so_far.3 p stands),
      );
    })
