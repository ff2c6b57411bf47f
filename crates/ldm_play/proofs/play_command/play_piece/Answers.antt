use Rattle.std.proofs.Common.{◌++◌, arith}
use Rattle.ldm_play.proofs.FlushedLemmas.{piece_flushed}
use Rattle.ldm_play.proofs.play_command.play_piece.Goals as goal

pub returns-clause-played : goal.returns-clause-played
returns-clause-played g c = λ p script before on.
    piece_flushed c.flushed.result c.play_lines-played.result p (script ++ c.args.piece.now) c.play_lines-played.new.player c.play_lines-played.new.pending before
    (g.K.Sink.tells c.play_lines-played.new.sink) (g.K.Sink.tells c.flushed.new.sink)
    (omega (arith, on.faults_kept, c.play_lines-played.ensures.faults_kept)) (c.play_lines-played.ensures.played p script before on) c.flushed.ensures.flushed
