use Rattle.std.proofs.Common.{[]}
use Rattle.std.proofs.lemmas.Result.{err_from_is_err_and}
use Rattle.ldm_model.specs.State.{empty}
use Rattle.ldm_play.proofs.play_command.play_new.Goals as goal

pub returns-clause-ends : goal.returns-clause-ends
returns-clause-ends g c = λ log_before log_after.
    (c.in_ok-book.ensures.limits.0, c.in_ok-book.ensures.limits.1, (c.in_ok-played.ensures.plays (empty c.args.arena c.args.slots) [] log_before log_after c.in_ok-book.ensures.stands).plays)

-- there is no memory, and nothing was read or written
pub returns-in_err-played-clause-ends : goal.returns-in_err-played-clause-ends
returns-in_err-played-clause-ends g c = λ log_before log_after.
    let why = err_from_is_err_and c.from_residual-in_err-played.result c.from_residual-in_err-played.ensures.1 in
    rw (why.1, why.2) ((c.in_ok-book.ensures.limits.0, c.in_ok-book.ensures.limits.1), record { source = c.in_err-played.ensures.nothing_read; sink = c.in_err-played.ensures.nothing_written })
