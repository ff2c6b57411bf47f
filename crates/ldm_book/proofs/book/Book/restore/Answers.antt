use Rattle.std.proofs.Common.{◌∙◌, ◌≤◌, List, length, sym, ap, subst, arith, below_more}
use Rattle.std.proofs.lemmas.List.{take_all}
use Rattle.std.proofs.lemmas.Result.{err_from_is_err_and}
use Rattle.ldm_book.specs.declared.restoring.RowNote.{RowNote}
use Rattle.ldm_book.specs.declared.fault.RestoreFault.TheVariants.{BadRow}
use Rattle.ldm_book.specs.Restoring.{Backup, IsGoodRow, IsRowFault, backup, backup_with}
use Rattle.ldm_book.proofs.RestoringLemmas.{again_memory, same_book}
use Rattle.ldm_book.proofs.book.Book.restore.Goals as goal
use Rattle.ldm_book.proofs.book.Book.restore.Goals.{After-with_no_rows}

-- what the queue is restored from
abbrev given : After-with_no_rows → Backup
given c = backup c.args.arena.items c.args.slots c.args.admitted c.args.last c.args.rows.now

pub returns-in_err-book-clause-faults : goal.returns-in_err-book-clause-faults
returns-in_err-book-clause-faults c =
    let p = err_from_is_err_and c.from_residual.result c.from_residual.ensures.1 in
    rw (p.1, p.2) (c.in_err-book.ensures.faults c.args.rows.now)

pub returns-in_err-book-clause-again : goal.returns-in_err-book-clause-again
returns-in_err-book-clause-again c = λ book is same.
    let p = err_from_is_err_and c.from_residual.result c.from_residual.ensures.1 in
    rw (p.1, p.2) (again_memory _ _ (c.in_err-book.ensures.faults c.args.rows.now) book is same)

pub loop-i-init : goal.loop-i-init
loop-i-init c = record { sofar = c.in_ok-book.ensures.sofar c.args.rows.now; same = c.in_ok-book.ensures.same c.args.rows.now; good = λ earlier below. absurd (omega arith) }

pub loop-i-preserved : goal.loop-i-preserved
loop-i-preserved c =
    let is = c.loop-i.invariant in
    record {
      sofar = c.in_default.ensures.sofar;
      same = c.in_default.ensures.same ∙ is.same;
      good = below_more _ _ is.good (subst (λ (f : Backup). IsGoodRow f c.loop-i.i) is.same c.in_default.ensures.good);
    }

pub returns-in-Err-clause-again : goal.returns-in-Err-clause-again
returns-in-Err-clause-again c = λ book is same.
    let sofar = c.loop-i.invariant in
    let fault = c.in-Err.fault in
    again_memory _ (BadRow c.loop-i.i fault) (
      c.in_ok-book.ensures.sizes c.args.rows.now,
      record { inside = omega arith; before = sofar.good; is = subst (λ (f : Backup). IsRowFault f c.loop-i.i fault) sofar.same c.in-Err.ensures.fault },
    )
    book is same

pub returns-clause-again : goal.returns-clause-again
returns-clause-again c = λ book is same.
    let sofar = c.loop-i.invariant in
    let all : length c.args.rows.now ≤ c.loop-i.i = omega arith in
    let notes = sofar.sofar.are ∙ take_all c.loop-i.i c.args.rows.now all in
    same_book c.loop-i.book book sofar.sofar.restorable is (ap (λ (ns : List RowNote). backup_with c.loop-i.book ns) notes ∙ sofar.same ∙ sym same)
