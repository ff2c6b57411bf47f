use Rattle.std.proofs.Common.{subst}
use Rattle.ldm_sigindex.specs.Index.{IsOneToOne}
use Rattle.ldm_book.specs.Products.{ProductsView}
use Rattle.ldm_book.specs.Restoring.{SignaturesDiffer, TimesAreRising}
use Rattle.ldm_book.specs.Slots.{slots_of}
use Rattle.ldm_book.proofs.PlaceLemmas.{signatures_kept, times_kept}
use Rattle.ldm_book.proofs.products.Products.slots.Goals as goal

pub returns-clause-times : goal.returns-clause-times
returns-clause-times c =
    let p = c.self.inside in
    subst (λ (view : ProductsView). TimesAreRising view.rows) c.self.view_is (times_kept (slots_of p) p.by_number.entries c.self.invariant.rising)

pub returns-clause-differ : goal.returns-clause-differ
returns-clause-differ c =
    let p = c.self.inside in
    let kept = c.self.invariant in
    subst (λ (view : ProductsView). SignaturesDiffer view.rows) c.self.view_is
    (signatures_kept (slots_of p) (subst IsOneToOne kept.signatures kept.one_to_one) p.by_number.entries kept.entries kept.rising)
