use Rattle.std.proofs.Common.{sym, ap, subst, ◌∙◌, arith}
use Rattle.ldm_model.specs.declared.event.Reply.TheVariants as reply
use Rattle.ldm_sigindex.specs.Index.{Table, slot_of, IsOneToOne}
use Rattle.ldm_book.specs.View.{Kept}
use Rattle.ldm_book.specs.Lookup.{kept_with, look_kept}
use Rattle.ldm_book.specs.Products.{ProductsView}
use Rattle.ldm_book.specs.RowKept.{kept_row}
use Rattle.ldm_book.specs.Slots.{slots_of}
use Rattle.ldm_book.proofs.FindLemmas.{absent_kept, found_row, found_kept}
use Rattle.ldm_book.proofs.RowAtLemmas.{filled_within}
use Rattle.ldm_book.proofs.SlotsLemmas.{slots-read}
use Rattle.ldm_book.proofs.products.Products.look.Goals as goal

pub returns-in_default : goal.returns-in_default
returns-in_default c =
    let inside = c.self.inside in
    let signature = c.args.signature.now.0 in
    let none = c.in_default.ensures.slot ∙ ap (λ (table : Table). slot_of table signature) c.self.invariant.signatures in
    ap look_kept (sym (absent_kept (slots_of inside) signature inside.by_number.entries none c.self.invariant.entries))
    ∙ ap (λ (p : ProductsView). look_kept (kept_with signature p.rows)) c.self.view_is

pub index-row-requires : goal.index-row-requires
index-row-requires c =
    let inside = c.self.inside in
    let found = found_row inside.by_signature (slots_of inside) c.args.signature.now.0 c.in-Some.slot c.self.invariant.signatures c.in-Some.ensures.slot in
    omega (arith, filled_within (slots_of inside) c.in-Some.slot found.0 found.1, c.self.invariant.as_many, c.self.invariant.rowed, inside.slots.ok.0)

pub returns : goal.returns
returns c =
    let inside = c.self.inside in
    let signature = c.args.signature.now.0 in
    let found = found_row inside.by_signature (slots_of inside) signature c.in-Some.slot c.self.invariant.signatures c.in-Some.ensures.slot in
    let row = ap kept_row c.index-row.ensures ∙ slots-read inside.slots.items inside.by_signature c.in-Some.slot found.0 c.index-row.result.now found.1 in
    let once = subst IsOneToOne c.self.invariant.signatures c.self.invariant.one_to_one in
    ap (λ (k : Kept). reply.Queued k.number k.time) row
    ∙ sym (found_kept (slots_of inside) signature c.in-Some.slot found.0 inside.by_number.entries once found.1 found.2 c.self.invariant.entries
    (c.self.invariant.listed c.in-Some.slot found.0 found.1))
    ∙ ap (λ (p : ProductsView). look_kept (kept_with signature p.rows)) c.self.view_is
