use Rattle.std.proofs.Common.{sym, ap, subst}
use Rattle.ldm_book.specs.Limits.{IsGoodArena, IsGoodSlots}
use Rattle.ldm_book.specs.Products.{ProductsView}
use Rattle.ldm_book.proofs.RestoringLemmas.{none_restored}
use Rattle.ldm_book.proofs.book.Book.with_no_rows.Goals as goal

pub returns-clause-sofar : goal.returns-clause-sofar
returns-clause-sofar c = λ notes.
    let made = c.in_ok-create.ensures in
    let slots = ap (λ (p : ProductsView). p.slots) made in
    none_restored _ notes (subst IsGoodArena c.len-size.ensures c.in_ok-check_sizes.ensures.limits.0) (sym c.args.arena.ok.0) (subst IsGoodSlots (sym slots) c.in_ok-check_sizes.ensures.limits.1)
    (c.is_good_count.ensures.good.0 c.if-not-is_good_count.false) c.is_good_count.ensures.small (ap (λ (p : ProductsView). p.rows) made) c.in_ok-create-2.ensures
    (ap (λ (p : ProductsView). p.reservations) made)
