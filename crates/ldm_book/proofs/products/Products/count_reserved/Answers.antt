use Rattle.std.proofs.Common.{length, ap, ◌∙◌, arith}
use Rattle.ldm_book.specs.View.{open_kept}
use Rattle.ldm_book.specs.Products.{ProductsView}
use Rattle.ldm_book.proofs.OpenPlacesLemmas.{few_open, open-places}
use Rattle.ldm_book.proofs.products.Products.count_reserved.Goals as goal

pub returns-clause-count : goal.returns-clause-count
returns-clause-count c = c.count.ensures.count ∙ open-places c.self.inside.reserved ∙ ap (λ (view : ProductsView). length (open_kept view.reservations)) c.self.view_is

pub returns-clause-few : goal.returns-clause-few
returns-clause-few c = omega (arith, c.count.ensures.count, few_open c.self.inside.reserved, c.count.ensures.many)
