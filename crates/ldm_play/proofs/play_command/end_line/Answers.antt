use Rattle.std.proofs.lemmas.Result.{err_from_is_err_and}
use Rattle.ldm_play.proofs.play_command.end_line.Goals as goal

pub returns-in_err-play_ended-clause-played : goal.returns-in_err-play_ended-clause-played
returns-in_err-play_ended-clause-played g c = λ p stands.
    let why = err_from_is_err_and c.from_residual.result c.from_residual.ensures.1 in
    rw (why.1, why.2) (c.in_err-play_ended.ensures.played p stands)
