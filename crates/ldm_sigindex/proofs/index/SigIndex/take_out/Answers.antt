use Rattle.std.proofs.Common.{◌≡◌, ◌<◌, length, set, None, refl, subst, sym, List, arith}
use Rattle.std.proofs.lemmas.List.{with_items_is}
use Rattle.ldm_sigindex.specs.declared.entries.Entry.{Entry}
use Rattle.ldm_sigindex.specs.declared.entries.TheConstants.{END}
use Rattle.ldm_sigindex.specs.Entries.{free_of, slot_at, table_of}
use Rattle.ldm_sigindex.proofs.Kept.{is_left, is_taken, is_told, place_inside, read_inside, sought}
use Rattle.ldm_sigindex.proofs.Occupied.{has_free}
use Rattle.ldm_sigindex.proofs.index.SigIndex.take_out.Goals as goal

pub index-requires : goal.index-requires
index-requires c =
    let is = sought c.self.inside.key c.self.inside.entries.items c.deref.result.now c.self.inside.slots.items c.deref-2.result.now c.args.s.now.0 c.in-Some.place c.deref.ensures.value c.deref-2.ensures.value c.in-Some.ensures.found in
    let inside = place_inside c.self.inside.key c.self.inside.entries.items c.self.inside.slots.items c.args.self.now c.args.s.now.0 c.in-Some.place c.self.invariant c.self.view_is is in
    omega arith

pub index_mut-requires : goal.index_mut-requires
index_mut-requires c =
    let is = sought c.self.inside.key c.self.inside.entries.items c.deref.result.now c.self.inside.slots.items c.deref-2.result.now c.args.s.now.0 c.in-Some.place c.deref.ensures.value c.deref-2.ensures.value c.in-Some.ensures.found in
    let inside = read_inside c.self.inside.key c.self.inside.entries.items c.self.inside.slots.items c.args.self.now c.args.s.now.0 c.in-Some.place c.self.invariant c.self.view_is is c.index.result.now c.index.ensures in
    omega arith

pub close-requires-clause-taken : goal.close-requires-clause-taken
close-requires-clause-taken c =
    let is = sought c.self.inside.key c.self.inside.entries.items c.deref.result.now c.self.inside.slots.items c.deref-2.result.now c.args.s.now.0 c.in-Some.place c.deref.ensures.value c.deref-2.ensures.value c.in-Some.ensures.found in
    subst (λ (entries : List Entry). slot_at entries c.in-Some.place ≡ END → ⊥) (sym c.deref_mut.ensures.value)
    (is_taken c.self.inside.key c.self.inside.entries.items c.self.inside.slots.items c.args.self.now c.args.s.now.0 c.in-Some.place c.self.invariant c.self.view_is is)

pub close-requires-clause-free : goal.close-requires-clause-free
close-requires-clause-free c =
    subst (λ (entries : List Entry). free_of entries < length entries) (sym c.deref_mut.ensures.value) (has_free c.self.inside.key c.self.inside.entries.items (table_of c.self.inside.slots.items) c.self.invariant)

pub invariant_of-self : goal.invariant_of-self
invariant_of-self c =
    let is = sought c.self.inside.key c.self.inside.entries.items c.deref.result.now c.self.inside.slots.items c.deref-2.result.now c.args.s.now.0 c.in-Some.place c.deref.ensures.value c.deref-2.ensures.value c.in-Some.ensures.found in
    (is_left c.self.inside.key c.self.inside.entries.items c.self.inside.slots.items c.args.self.now c.args.s.now.0 c.in-Some.place c.self.invariant c.self.view_is is c.index.result.now c.index.ensures
    c.deref_mut.result.now c.close.new.entries _ c.deref_mut.ensures.value (with_items_is c.self.inside.entries c.close.new.entries (omega (arith, c.close.auto.entries, c.deref_mut.ensures.len))) (c.close.ensures c.self.inside.key)).kept

pub returns-in-Some-clause-taken : goal.returns-in-Some-clause-taken
returns-in-Some-clause-taken c =
    let is = sought c.self.inside.key c.self.inside.entries.items c.deref.result.now c.self.inside.slots.items c.deref-2.result.now c.args.s.now.0 c.in-Some.place c.deref.ensures.value c.deref-2.ensures.value c.in-Some.ensures.found in
    is_told c.self.inside.key c.self.inside.entries.items c.self.inside.slots.items c.args.self.now c.args.s.now.0 c.in-Some.place c.self.invariant c.self.view_is is c.index.result.now c.index.ensures
    (set c.self.inside.slots.items c.index.result.now.slot None)
    (is_left c.self.inside.key c.self.inside.entries.items c.self.inside.slots.items c.args.self.now c.args.s.now.0 c.in-Some.place c.self.invariant c.self.view_is is c.index.result.now c.index.ensures
    c.deref_mut.result.now c.close.new.entries c.close.new.entries c.deref_mut.ensures.value refl (c.close.ensures c.self.inside.key)).view

pub returns-in-Some-clause-one_to_one : goal.returns-in-Some-clause-one_to_one
returns-in-Some-clause-one_to_one c =
    let is = sought c.self.inside.key c.self.inside.entries.items c.deref.result.now c.self.inside.slots.items c.deref-2.result.now c.args.s.now.0 c.in-Some.place c.deref.ensures.value c.deref-2.ensures.value c.in-Some.ensures.found in
    (is_left c.self.inside.key c.self.inside.entries.items c.self.inside.slots.items c.args.self.now c.args.s.now.0 c.in-Some.place c.self.invariant c.self.view_is is c.index.result.now c.index.ensures
    c.deref_mut.result.now c.close.new.entries _ c.deref_mut.ensures.value (with_items_is c.self.inside.entries c.close.new.entries (omega (arith, c.close.auto.entries, c.deref_mut.ensures.len))) (c.close.ensures c.self.inside.key)).one_to_one
