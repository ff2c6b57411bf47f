use Rattle.std.proofs.Common.{length, ap, arith}
use Rattle.std.proofs.lemmas.List.{length-map}
use Rattle.ldm_book.specs.Products.{ProductsView}
use Rattle.ldm_book.specs.Slots.{kept_entry, slots_of}
use Rattle.ldm_book.proofs.OpenPlacesLemmas.{open-places}
use Rattle.ldm_book.proofs.products.Products.len.Goals as goal

pub overflow_sub-result-2 : goal.overflow_sub-result-2
overflow_sub-result-2 c =
    let p = c.self.inside in
    let kept = c.self.invariant in
    omega (arith, c.count.ensures.count, open-places p.reserved, kept.count, kept.rowed, c.len.ensures, c.len-2.ensures, p.slots.ok.0, p.free.ok.0)

pub returns-clause-count : goal.returns-clause-count
returns-clause-count c =
    let p = c.self.inside in
    let kept = c.self.invariant in
    let rows = ap (λ (view : ProductsView). length view.rows) c.self.view_is in
    omega (
      arith,
      c.count.ensures.count,
      open-places p.reserved,
      kept.count,
      kept.rowed,
      c.len.ensures,
      c.len-2.ensures,
      p.slots.ok.0,
      p.free.ok.0,
      rows,
      length-map p.by_number.entries
          (kept_entry (slots_of p)),
    )
