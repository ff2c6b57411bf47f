use Rattle.std.proofs.Common.{◌≡◌, ◌∙◌, ◌<◌, ℕ, Bool, false, inl, inr, length, leb, ap, sym, arith}
use Rattle.std.specs.Prelude.{◌==◌, is_some}
use Rattle.std.proofs.lemmas.Bool.{cases_eq, eq-eqb, true≢false}
use Rattle.ldm_regions.specs.Layout.{occupied}
use Rattle.ldm_book.specs.Products.{ProductsView, room_for}
use Rattle.ldm_book.proofs.KeptRegionLemmas.{place_for}
use Rattle.ldm_model.proofs.Space.{fit-longest}
use Rattle.ldm_book.proofs.products.Products.has_room.Goals as goal

-- a vector that is not empty has items
not_none : (b : Bool) (len count : ℕ) → len ≡ count → b ≡ (len == 0) → b ≡ false → 0 < count
not_none b len count same test e = elim (cases_eq len 0) [
  | inl none ↦ absurd (true≢false (sym (eq-eqb len 0 none) ∙ sym test ∙ e))
  | inr some ↦ omega arith
]

pub returns-then-not-is_empty : goal.returns-then-not-is_empty
returns-then-not-is_empty c =
    let p = c.self.inside in
    let some = not_none c.is_empty.result p.free.len (length p.free.items) p.free.ok.0 c.is_empty.ensures c.if-not-is_empty.true in
    ap (leb c.args.need) c.largest.ensures.longest
    ∙ sym (fit-longest c.args.need p.regions.arena (occupied p.regions.owned) c.requires)
    ∙ ap is_some (place_for p c.self.invariant c.args.need some)
    ∙ ap (λ (view : ProductsView). is_some (room_for view c.args.need)) c.self.view_is
