use Rattle.std.proofs.Common.{◌∙◌, Some, sym, ap, subst, arith}
use Rattle.std.specs.List.{find}
use Rattle.std.specs.Option.{option_map}
use Rattle.ldm_timeindex.specs.Times.{at_number as at_entry}
use Rattle.ldm_book.specs.View.{Kept}
use Rattle.ldm_book.specs.Products.{ProductsView, AreRising, at_number}
use Rattle.ldm_book.specs.RowKept.{kept_row, row_kept}
use Rattle.ldm_book.specs.Slots.{slots_of, kept_entry}
use Rattle.ldm_book.proofs.FindLemmas.{rising_kept}
use Rattle.ldm_book.proofs.SlotsLemmas.{slots-read}
use Rattle.ldm_book.proofs.FirstRowLemmas.{find_kept, no_entry, is_first_row}
use Rattle.ldm_book.proofs.RowAtLemmas.{filled_within}
use Rattle.ldm_book.proofs.products.Products.first_row.Goals as goal

pub returns-in_err-slot-clause-rising : goal.returns-in_err-slot-clause-rising
returns-in_err-slot-clause-rising c =
    subst (λ (p : ProductsView). AreRising p.rows) c.self.view_is (rising_kept (slots_of c.self.inside) c.self.inside.by_number.entries c.self.invariant.rising)

pub returns-clause-rising : goal.returns-clause-rising
returns-clause-rising c =
    subst (λ (p : ProductsView). AreRising p.rows) c.self.view_is (rising_kept (slots_of c.self.inside) c.self.inside.by_number.entries c.self.invariant.rising)

pub returns-in_err-slot-clause-first : goal.returns-in_err-slot-clause-first
returns-in_err-slot-clause-first c =
    let inside = c.self.inside in
    let none = no_entry (find (at_entry c.args.n) inside.by_number.entries) (sym c.in_err-slot.ensures.first) in
    ap (option_map row_kept) c.from_residual.ensures
    ∙ sym (ap (λ (p : ProductsView). find (at_number c.args.n) p.rows) (sym c.self.view_is) ∙ find_kept (slots_of inside) c.args.n inside.by_number.entries
    ∙ ap (option_map (kept_entry (slots_of inside))) none)

pub index-requires : goal.index-requires
index-requires c =
    let is = is_first_row c.self.inside c.args.n c.in_ok-slot.field-0-0 c.in_ok-slot.slot c.self.invariant c.in_ok-slot.ensures.first in
    omega (arith, filled_within (slots_of c.self.inside) c.in_ok-slot.slot is.row is.at, c.self.invariant.as_many, c.self.invariant.rowed, c.self.inside.slots.ok.0)

pub returns-clause-first : goal.returns-clause-first
returns-clause-first c =
    let is = is_first_row c.self.inside c.args.n c.in_ok-slot.field-0-0 c.in_ok-slot.slot c.self.invariant c.in_ok-slot.ensures.first in
    let read = slots-read c.self.inside.slots.items c.self.inside.by_signature c.in_ok-slot.slot is.row c.index.result.now is.at in
    ap (λ (k : Kept). Some k) (ap kept_row c.index.ensures ∙ read) ∙ sym is.found ∙ ap (λ (p : ProductsView). find (at_number c.args.n) p.rows) c.self.view_is
