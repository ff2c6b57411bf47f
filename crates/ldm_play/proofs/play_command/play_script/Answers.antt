use Rattle.std.proofs.Common.{◌∙◌, [], Ok, Err, refl, subst, arith}
use Rattle.ldm_outside.specs.Io.{SinkRecord}
use Rattle.ldm_outside.proofs.CallerLemmas.{Gives-nothing}
use Rattle.ldm_status.specs.Streams.{StreamsRecord}
use Rattle.ldm_play.specs.OnBook.{PlaysOn, beside}
use Rattle.ldm_play.specs.Step.{IsFlushed}
use Rattle.ldm_play.proofs.GoesOnLemmas.{GoesOn-nothing}
use Rattle.ldm_play.proofs.FlushedLemmas.{piece_flushed, flushed_same}
use Rattle.ldm_play.proofs.PlaysScriptLemmas.{stopped_within, stopped_short}
use Rattle.ldm_play.proofs.play_command.play_script.Goals as goal

pub returns-in-Err-clause-plays : goal.returns-in-Err-clause-plays
returns-in-Err-clause-plays g c = λ p log_before log_after stands.
    let source = g.S.Source.tells c.args.source.now in
    let old = g.K.Sink.tells c.args.sink.now in
    let new = g.K.Sink.tells c.flushed.new.sink in
    let flushed = subst (λ (s : SinkRecord). IsFlushed (Err c.in-Err.stop) (Ok tt) s new) c.gather.ensures c.in-Err.ensures.flushed in
    let before : StreamsRecord = beside log_before source old in
    let after : StreamsRecord = beside log_after source new in
    stopped_short c.in-Err.stop p c.args.player.now.book before after (record {
      script = [];
      taken = Gives-nothing source source refl;
      limit = omega arith;
      ends = stopped_within c.in-Err.stop p [] before after (piece_flushed (Err c.in-Err.stop) (Ok tt) p [] c.args.player.now c.args.pending.now old old new (omega arith)
          (GoesOn-nothing p c.args.player.now c.args.pending.now old c.requires.fresh stands) flushed);
    })

pub returns-clause-plays : goal.returns-clause-plays
returns-clause-plays g c = λ p log_before log_after stands.
    let source = g.S.Source.tells c.args.source.now in
    let new : StreamsRecord = beside log_after (g.S.Source.tells c.play_pieces.new.source) (g.K.Sink.tells c.play_pieces.new.sink) in
    let same = flushed_same c.in_default.field-0 (Ok tt) (g.K.Sink.tells c.gather.new.self) (g.K.Sink.tells c.flushed.new.sink) c.in_default.ensures.flushed ∙ c.gather.ensures in
    subst (λ (s : SinkRecord). PlaysOn c.play_pieces.result p c.play_pieces.new.player.book (beside log_before source s) new) same
    (c.play_pieces.ensures.plays p log_before log_after stands)
