use Rattle.std.proofs.Common.{◌≡◌, ◌-◌, None, is_some, map, set, refl, ap, subst, ◌∙◌, arith}
use Rattle.std.specs.Option.{IfSome, option_map}
use Rattle.ldm_sigindex.specs.Index.{slot_of}
use Rattle.ldm_book.specs.declared.products.Products.TheInside.{Inside}
use Rattle.ldm_book.specs.View.{Kept, open_kept}
use Rattle.ldm_book.specs.Slots.{kept_entries, slots_from, slots_of}
use Rattle.ldm_book.specs.Products.{kept_extent, kept_region, reserved_region, without}
use Rattle.ldm_book.specs.Reserved.{reservations_of}
use Rattle.ldm_book.proofs.OpenPlacesLemmas.{extents-append}
use Rattle.ldm_book.proofs.TakenLemmas.{taken-kept}
use Rattle.ldm_book.specs.RowKept.{kept_row}
use Rattle.ldm_book.proofs.RowAtLemmas.{filled_within}
use Rattle.ldm_book.proofs.SlotsLemmas.{slots-read, slots-taken}
use Rattle.ldm_book.proofs.TakeOutLemmas.{IsNumbered, any_number, number_found, numbered, extents_left, slot_by_signature, HasLeft, slotted_left, products_left}
use Rattle.ldm_book.proofs.LieApartLemmas.{lie_apart}
use Rattle.ldm_book.proofs.products.Products.take_out.Goals as goal

pub unreachable-requires : goal.unreachable-requires
unreachable-requires c = number_found c.args.n c.self.invariant c.self.view_is c.requires c.in_default.ensures.first

pub index-row-requires : goal.index-row-requires
index-row-requires c =
    let at = numbered c.args.n c.self.invariant c.self.view_is c.requires c.in-Some.ensures.first in
    omega (arith, filled_within (slots_of c.self.inside) c.in-Some.slot at.row at.here, c.self.invariant.as_many, c.self.invariant.rowed, c.self.inside.slots.ok.0)

pub take_out-requires : goal.take_out-requires
take_out-requires c = any_number c.self.inside c.args.n c.self.view_is c.requires

pub take_out-requires-2 : goal.take_out-requires-2
take_out-requires-2 c =
    let at = numbered c.args.n c.self.invariant c.self.view_is c.requires c.in-Some.ensures.first in
    let row = ap kept_row c.index-row.ensures ∙ slots-read c.self.inside.slots.items c.self.inside.by_signature c.in-Some.slot at.row c.index-row.result.now at.here in
    let signature = ap (λ (k : Kept). k.signature) row in
    ap is_some (ap (slot_of c.self.inside.by_signature) signature ∙ slot_by_signature c.in-Some.slot at.row c.self.invariant at.here)

pub give_back-requires : goal.give_back-requires
give_back-requires c =
    let at = numbered c.args.n c.self.invariant c.self.view_is c.requires c.in-Some.ensures.first in
    let p = c.self.inside in
    ap is_some (c.self.invariant.owned c.in-Some.slot ∙ ap (option_map kept_region) (taken-kept (slots_of p) p.reserved c.in-Some.slot at.row c.self.invariant.own at.here))

pub overflow_sub-self : goal.overflow_sub-self
overflow_sub-self c =
    let at = numbered c.args.n c.self.invariant c.self.view_is c.requires c.in-Some.ensures.first in
    let row = ap kept_row c.index-row.ensures ∙ slots-read c.self.inside.slots.items c.self.inside.by_signature c.in-Some.slot at.row c.index-row.result.now at.here in
    let p = c.self.inside in
    let rows = map kept_region (kept_entries (slots_of p) p.by_number.entries) in
    let parts = extents-append rows (map reserved_region (open_kept (reservations_of p.reserved))) in
    omega (arith, ap (λ (k : Kept). kept_extent k) row, c.extent.ensures, extents_left at c.self.invariant.entries, parts, c.self.invariant.used)

-- the products at the end
abbrev after : goal.In-Ok → Inside
after c = record {
  slots = c.self.inside.slots;
  free = c.push.new.self;
  regions = c.give_back.new.self;
  by_signature = c.take_out-2.new.self;
  by_number = c.take_out.new.self;
  used = c.self.inside.used - c.extent.result;
  reserved = c.self.inside.reserved;
}

-- the product that is taken out
found : (c : goal.In-Ok) → IsNumbered (slots_of c.self.inside) c.self.inside.by_number.entries c.args.n c.in-Some.slot
found c = numbered c.args.n c.self.invariant c.self.view_is c.requires c.in-Some.ensures.first

-- each part at the end is without it
left : (c : goal.In-Ok) → HasLeft c.self.inside (after c) c.args.n c.in-Some.slot (found c).row
left c =
    let at = found c in
    let table = c.self.inside.by_signature in
    let row = ap kept_row c.index-row.ensures ∙ slots-read c.self.inside.slots.items c.self.inside.by_signature c.in-Some.slot at.row c.index-row.result.now at.here in
    let signature = ap (λ (k : Kept). k.signature) row in
    let slot = ap (slot_of table) signature ∙ slot_by_signature c.in-Some.slot at.row c.self.invariant at.here in
    let taken = subst (λ o. IfSome o (λ k. c.take_out-2.new.self ≡ set table k None)) slot c.take_out-2.ensures.taken in
    record {
      slots = ap (slots_from c.self.inside.slots.items) taken ∙ slots-taken c.self.inside.slots.items table c.in-Some.slot;
      rowed = refl;
      free = c.in-Ok.ensures.items;
      roomy = c.in-Ok.ensures.capacity;
      regions = c.give_back.ensures.owned;
      tiles = c.give_back.ensures.tiles;
      signatures = taken;
      one_to_one = c.take_out-2.ensures.one_to_one;
      numbered = c.take_out.ensures.slots;
      entries = c.take_out.ensures.entries;
      rising = c.take_out.ensures.rising;
      used = (
          let p = c.self.inside in
          let rows = map kept_region (kept_entries (slots_of p) p.by_number.entries) in
          let parts = extents-append rows (map reserved_region (open_kept (reservations_of p.reserved))) in
          omega (arith, ap (λ (k : Kept). kept_extent k) row, c.extent.ensures, extents_left at c.self.invariant.entries, parts, c.self.invariant.used));
      reserved = refl;
    }

pub invariant_of-self : goal.invariant_of-self
invariant_of-self c = slotted_left c.self.invariant (found c) (left c)

pub returns-clause-left : goal.returns-clause-left
returns-clause-left c = products_left c.self.invariant (found c) (left c) ∙ ap (without c.args.n) c.self.view_is

pub returns-clause-apart : goal.returns-clause-apart
returns-clause-apart c = lie_apart _ (invariant_of-self c)
