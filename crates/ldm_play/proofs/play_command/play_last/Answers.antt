use Rattle.std.proofs.Common.{arith}
use Rattle.ldm_play.proofs.FlushedLemmas.{end_flushed}
use Rattle.ldm_play.proofs.play_command.play_last.Goals as goal

pub returns-clause-played : goal.returns-clause-played
returns-clause-played g c = λ p script before on.
    end_flushed c.flushed.result c.play_rest-played.result p script c.play_rest-played.new.player before
    (g.K.Sink.tells c.play_rest-played.new.sink) (g.K.Sink.tells c.flushed.new.sink)
    (omega (arith, on.faults_kept, c.play_rest-played.ensures.faults_kept)) (c.play_rest-played.ensures.played p script before on) c.flushed.ensures.flushed
