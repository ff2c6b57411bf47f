use Rattle.std.proofs.Common.{ap, ◌∙◌}
use Rattle.std.specs.Prelude.{is_none, position}
use Rattle.ldm_book.specs.Products.{ProductsView}
use Rattle.ldm_book.proofs.OpenPlacesLemmas.{least-empty}
use Rattle.ldm_book.proofs.products.Products.first_empty.Goals as goal

pub returns : goal.returns
returns c = c.first_empty.ensures ∙ least-empty c.self.inside.reserved ∙ ap (λ (view : ProductsView). position is_none view.reservations) c.self.view_is
