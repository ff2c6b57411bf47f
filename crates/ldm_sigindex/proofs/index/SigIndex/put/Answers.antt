use Rattle.std.proofs.Common.{◌<◌, length, ap, slice_get, subst, sym, ◌∙◌, List, arith}
use Rattle.ldm_sigindex.specs.declared.entries.Entry.{Entry}
use Rattle.ldm_sigindex.specs.Entries.{free_of, table_of}
use Rattle.ldm_sigindex.specs.Index.{Table}
use Rattle.ldm_sigindex.proofs.Kept.{is_put, slot_within}
use Rattle.ldm_sigindex.proofs.Occupied.{has_free}
use Rattle.ldm_sigindex.proofs.index.SigIndex.put.Goals as goal

pub free_place-place-requires-clause-free : goal.free_place-place-requires-clause-free
free_place-place-requires-clause-free c =
    subst (λ (entries : List Entry). free_of entries < length entries) (sym c.deref.ensures.value) (has_free c.self.inside.key c.self.inside.entries.items (table_of c.self.inside.slots.items) c.self.invariant)

pub index_mut-requires-2 : goal.index_mut-requires-2
index_mut-requires-2 c =
    let inside = slot_within c.self.inside.slots.items c.args.slot _ (ap (λ (table : Table). slice_get table c.args.slot) c.self.view_is ∙ c.requires.free) in
    omega arith

pub invariant_of-self : goal.invariant_of-self
invariant_of-self c =
    (is_put c.self.inside.key c.self.inside.entries.items c.deref.result.now c.self.inside.slots.items c.args.self.now c.args.s c.args.slot c.mark-mark.result c.len.result c.home-home.result c.free_place-place.result
    c.self.invariant c.self.view_is c.deref.ensures.value c.mark-mark.ensures (omega (arith, c.len.ensures)) c.home-home.ensures.home c.free_place-place.ensures c.requires.free c.requires.absent).kept

pub returns-clause-put : goal.returns-clause-put
returns-clause-put c =
    (is_put c.self.inside.key c.self.inside.entries.items c.deref.result.now c.self.inside.slots.items c.args.self.now c.args.s c.args.slot c.mark-mark.result c.len.result c.home-home.result c.free_place-place.result
    c.self.invariant c.self.view_is c.deref.ensures.value c.mark-mark.ensures (omega (arith, c.len.ensures)) c.home-home.ensures.home c.free_place-place.ensures c.requires.free c.requires.absent).view

pub returns-clause-one_to_one : goal.returns-clause-one_to_one
returns-clause-one_to_one c =
    (is_put c.self.inside.key c.self.inside.entries.items c.deref.result.now c.self.inside.slots.items c.args.self.now c.args.s c.args.slot c.mark-mark.result c.len.result c.home-home.result c.free_place-place.result
    c.self.invariant c.self.view_is c.deref.ensures.value c.mark-mark.ensures (omega (arith, c.len.ensures)) c.home-home.ensures.home c.free_place-place.ensures c.requires.free c.requires.absent).one_to_one
