use Rattle.std.proofs.Common.{ℕ, ap, ◌∙◌}
use Rattle.std.specs.List.{find}
use Rattle.std.specs.Option.{option_map}
use Rattle.ldm_book.specs.Products.{ProductsView, is_later, kept_number}
use Rattle.ldm_book.specs.Slots.{slots_of}
use Rattle.ldm_book.proofs.FirstRowLemmas.{later_kept}
use Rattle.ldm_book.proofs.products.Products.first_after.Goals as goal

pub returns-in-Some : goal.returns-in-Some
returns-in-Some c =
    ap (option_map (λ (p : ℕ × ℕ). p.0)) c.in-Some.ensures.first
    ∙ later_kept (slots_of c.self.inside) c.args.time c.self.inside.by_number.entries
    ∙ ap (λ (p : ProductsView). option_map kept_number (find (is_later c.args.time) p.rows)) c.self.view_is

pub returns-in-None : goal.returns-in-None
returns-in-None c =
    ap (option_map (λ (p : ℕ × ℕ). p.0)) c.in-None.ensures.first
    ∙ later_kept (slots_of c.self.inside) c.args.time c.self.inside.by_number.entries
    ∙ ap (λ (p : ProductsView). option_map kept_number (find (is_later c.args.time) p.rows)) c.self.view_is
