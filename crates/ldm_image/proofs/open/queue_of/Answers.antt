use Rattle.std.proofs.Common.{ℕ, ◌+◌, ap, subst, length, arith}
use Rattle.std.specs.Prelude.{Option}
use Rattle.std.proofs.lemmas.Result.{err_from_is_err_and}
use Rattle.ldm_image.specs.Rows.{AreRows}
use Rattle.ldm_image.proofs.JudgeLemmas.{arena_len, fault_opens, row_rejects, surplus_rejects, queue_opens}
use Rattle.ldm_image.proofs.open.queue_of.Goals as goal

pub returns-in_err-book-clause-opens : goal.returns-in_err-book-clause-opens
returns-in_err-book-clause-opens c =
    λ file holds bytes len.
    let why = err_from_is_err_and c.from_residual.result c.from_residual.ensures.1 in
    rw (why.1, why.2)
    (fault_opens file c.args.sizes.now c.args.rows.now.notes.items c.args.rows.now.fault c.args.arena.items c.in_err-book.field-0.0 holds
    (c.in_err-book.ensures.restores file holds))

pub returns-in-Some-clause-opens : goal.returns-in-Some-clause-opens
returns-in-Some-clause-opens c =
    λ file holds bytes len.
    let made = c.in_ok-book.ensures.restores file holds in
    let rows = subst (λ (fault : Option ℕ). AreRows c.args.rows.now.notes.items fault file) c.in-Some.is holds.rows in
    row_rejects file c.args.sizes.now c.args.rows.now.notes.items c.in-Some.at holds.sized rows (λ row within whole. made.lie row within)

pub returns-then-len-end-clause-opens : goal.returns-then-len-end-clause-opens
returns-then-len-end-clause-opens c =
    λ file holds bytes len.
    let made = c.in_ok-book.ensures.restores file holds in
    let rows = subst (λ (fault : Option ℕ). AreRows c.args.rows.now.notes.items fault file) c.in_default.is holds.rows in
    let size = arena_len file holds.whole in
    surplus_rejects file c.args.sizes.now c.args.rows.now.notes.items c.in_ok-book.book (c.row_start.result + c.len.result) holds.sized rows holds.whole made
    (omega (arith, c.row_start.ensures, c.len.ensures, holds.sized.count, ap length holds.bytes, size)) (omega (arith, c.if-len-end.true, len))

pub returns-clause-opens : goal.returns-clause-opens
returns-clause-opens c =
    λ file holds bytes len.
    let made = c.in_ok-book.ensures.restores file holds in
    let rows = subst (λ (fault : Option ℕ). AreRows c.args.rows.now.notes.items fault file) c.in_default.is holds.rows in
    let size = arena_len file holds.whole in
    queue_opens file c.args.sizes.now c.args.rows.now.notes.items c.in_ok-book.book holds.sized rows holds.whole bytes made
    (omega (arith, c.row_start.ensures, c.len.ensures, holds.sized.count, ap length holds.bytes, size, c.if-len-end.false, len))
