use Rattle.std.proofs.Common.{ℕ, ap, subst, ◌∙◌}
use Rattle.std.specs.Option.{option_map}
use Rattle.ldm_book.specs.Products.{ProductsView, AreRising, LieApart, at_number, kept_number, occupied_in}
use Rattle.std.specs.List.{find}
use Rattle.ldm_book.specs.Slots.{slots_of}
use Rattle.ldm_book.proofs.FindLemmas.{first_kept, rising_kept}
use Rattle.ldm_book.proofs.LieApartLemmas.{lie_apart}
use Rattle.ldm_book.proofs.products.Products.first_at.Goals as goal

pub returns-in-Some-clause-first : goal.returns-in-Some-clause-first
returns-in-Some-clause-first c =
    ap (option_map (λ (p : ℕ × ℕ). p.0)) c.in-Some.ensures.first
    ∙ first_kept (slots_of c.self.inside) c.args.n c.self.inside.by_number.entries
    ∙ ap (λ (p : ProductsView). option_map kept_number (find (at_number c.args.n) p.rows)) c.self.view_is

pub returns-in-Some-clause-rising : goal.returns-in-Some-clause-rising
returns-in-Some-clause-rising c =
    subst (λ (p : ProductsView). AreRising p.rows) c.self.view_is (rising_kept (slots_of c.self.inside) c.self.inside.by_number.entries c.self.invariant.rising)

pub returns-in-None-clause-first : goal.returns-in-None-clause-first
returns-in-None-clause-first c =
    ap (option_map (λ (p : ℕ × ℕ). p.0)) c.in-None.ensures.first
    ∙ first_kept (slots_of c.self.inside) c.args.n c.self.inside.by_number.entries
    ∙ ap (λ (p : ProductsView). option_map kept_number (find (at_number c.args.n) p.rows)) c.self.view_is

pub returns-in-None-clause-rising : goal.returns-in-None-clause-rising
returns-in-None-clause-rising c =
    subst (λ (p : ProductsView). AreRising p.rows) c.self.view_is (rising_kept (slots_of c.self.inside) c.self.inside.by_number.entries c.self.invariant.rising)

pub returns-in-Some-clause-apart : goal.returns-in-Some-clause-apart
returns-in-Some-clause-apart c = subst (λ (p : ProductsView). LieApart p.arena (occupied_in p)) c.self.view_is (lie_apart c.self.inside c.self.invariant)

pub returns-in-None-clause-apart : goal.returns-in-None-clause-apart
returns-in-None-clause-apart c = subst (λ (p : ProductsView). LieApart p.arena (occupied_in p)) c.self.view_is (lie_apart c.self.inside c.self.invariant)
