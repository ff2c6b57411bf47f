use Rattle.std.proofs.Common.{◌∙◌, ℕ, List, refl, subst}
use Rattle.std.proofs.lemmas.Result.{err_from_is_err_and}
use Rattle.ldm_outside.specs.Io.{Takes, WritesFront}
use Rattle.ldm_play.proofs.check_command.check_file.Goals as goal

pub returns-in_err-book-clause-ends : goal.returns-in_err-book-clause-ends
returns-in_err-book-clause-ends g c = λ log_before log_after.
    let why = err_from_is_err_and c.from_residual.result c.from_residual.ensures.1 in
    rw (why.1, why.2) (refl, c.in_err-book.ensures.closed)

pub returns-in_err-book-clause-comes : goal.returns-in_err-book-clause-comes
returns-in_err-book-clause-comes g c = λ log_before log_after book readable.
    let why = err_from_is_err_and c.from_residual.result c.from_residual.ensures.1 in
    rw (why.1, why.2) (c.in_err-book.ensures.completes book readable)

pub returns-in_err-write_all-clause-ends : goal.returns-in_err-write_all-clause-ends
returns-in_err-write_all-clause-ends g c = λ log_before log_after.
    let why = err_from_is_err_and c.from_residual-in_err-write_all.result c.from_residual-in_err-write_all.ensures.1 in
    let old = g.K.Sink.tells c.args.sink.now in
    let new = g.K.Sink.tells c.write_all.new.sink in
    let failed = c.in_err-write_all.ensures.written in
    rw (why.1, why.2) (c.in_ok-book.book, c.in_ok-book.ensures.opened, failed.0, λ s stands. subst (λ (t : List ℕ). WritesFront old t new) (c.as_slice.ensures.value ∙ c.line_of-line.ensures s stands) failed.1)

pub returns-in_err-write_all-clause-comes : goal.returns-in_err-write_all-clause-comes
returns-in_err-write_all-clause-comes g c = λ log_before log_after book readable.
    let why = err_from_is_err_and c.from_residual-in_err-write_all.result c.from_residual-in_err-write_all.ensures.1 in
    rw (why.1, why.2) tt

pub returns-clause-ends : goal.returns-clause-ends
returns-clause-ends g c = λ log_before log_after.
    let old = g.K.Sink.tells c.args.sink.now in
    let new = g.K.Sink.tells c.write_all.new.sink in
    (c.in_ok-book.book, c.in_ok-book.ensures.opened, λ s stands. subst (λ (t : List ℕ). Takes old t new) (c.as_slice.ensures.value ∙ c.line_of-line.ensures s stands) c.in_ok-write_all.ensures.written)
