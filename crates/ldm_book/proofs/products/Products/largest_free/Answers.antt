use Rattle.std.proofs.Common.{ap, ◌∙◌}
use Rattle.ldm_types.specs.Arena.{gaps, longest}
use Rattle.ldm_book.specs.Products.{ProductsView, occupied_in}
use Rattle.ldm_book.proofs.KeptRegionLemmas.{gaps_between}
use Rattle.ldm_book.proofs.products.Products.largest_free.Goals as goal

pub returns : goal.returns
returns c =
    c.largest.ensures.longest
    ∙ ap longest (gaps_between c.self.inside c.self.invariant)
    ∙ ap (λ (view : ProductsView). longest (gaps (occupied_in view) view.arena)) c.self.view_is
