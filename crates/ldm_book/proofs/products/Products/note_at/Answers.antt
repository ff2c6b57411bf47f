use Rattle.std.proofs.Common.{◌∙◌, map, slice_get, Some, sym, ap, arith}
use Rattle.std.specs.Option.{option_map}
use Rattle.std.proofs.lemmas.Option.{slice_get-map}
use Rattle.ldm_book.specs.View.{Kept}
use Rattle.ldm_book.specs.Products.{ProductsView}
use Rattle.ldm_book.specs.RowKept.{kept_row}
use Rattle.ldm_book.specs.Restoring.{note_of}
use Rattle.ldm_book.specs.Slots.{slots_of, kept_entries}
use Rattle.ldm_book.proofs.SlotsLemmas.{slots-read}
use Rattle.ldm_book.proofs.RowAtLemmas.{filled_within}
use Rattle.ldm_book.proofs.NoteLemmas.{is_noted}
use Rattle.ldm_book.proofs.products.Products.note_at.Goals as goal

pub index-row-requires : goal.index-row-requires
index-row-requires c =
    let is = is_noted c.self.inside c.args.i c.in_ok-slot.field-0-0 c.in_ok-slot.slot c.self.invariant c.in_ok-slot.ensures.at in
    omega (arith, filled_within (slots_of c.self.inside) c.in_ok-slot.slot is.row is.at, c.self.invariant.as_many, c.self.invariant.rowed, c.self.inside.slots.ok.0)

pub returns : goal.returns
returns c =
    let p = c.self.inside in
    let is = is_noted p c.args.i c.in_ok-slot.field-0-0 c.in_ok-slot.slot c.self.invariant c.in_ok-slot.ensures.at in
    let read = slots-read p.slots.items p.by_signature c.in_ok-slot.slot is.row c.index-row.result.now is.at in
    ap (λ (k : Kept). Some (note_of k)) (ap kept_row c.index-row.ensures ∙ read)
    ∙ sym (slice_get-map note_of (kept_entries (slots_of p) p.by_number.entries) c.args.i ∙ ap (option_map note_of) is.found)
    ∙ ap (λ (view : ProductsView). slice_get (map note_of view.rows) c.args.i) c.self.view_is
