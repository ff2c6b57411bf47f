use Rattle.std.proofs.Common.{◌≡◌, ◌+◌, ◌-◌, ◌<◌, ℕ, List, length, set, take, refl, Some, None, sym, ap, subst, ◌∙◌, arith}
use Rattle.std.specs.FinMap as fin
use Rattle.std.specs.Option.{option_map}
use Rattle.std.proofs.lemmas.List.{length-map, length-take-le, map-set}
use Rattle.ldm_types.specs.Arena.{Region, fit}
use Rattle.ldm_model.specs.Product.{extent_of}
use Rattle.ldm_model.specs.Stat.{extents}
use Rattle.ldm_regions.specs.Layout.{Layout, Tiles, occupied}
use Rattle.ldm_book.specs.View.{Kept, Reservations, kept_of, open_kept}
use Rattle.ldm_book.specs.Making.{new_reservation}
use Rattle.ldm_book.specs.Products.{ProductsView, LieApart, kept_region, occupied_by, occupied_in, reservation_at, room_for, with_reservation}
use Rattle.ldm_book.specs.Reserved.{KeptPlace, reservation_of, reservations_of}
use Rattle.ldm_book.specs.Slots.{Slots, row_at, slots_of, kept_entries, products_of, AreFree, HaveOwn, taken_from}
use Rattle.ldm_book.proofs.AllEntriesLemmas.{all_taken}
use Rattle.ldm_book.proofs.AreFreeLemmas.{IsNext, next_free, others_free}
use Rattle.ldm_book.proofs.KeptRegionLemmas.{place_for}
use Rattle.ldm_book.proofs.LieApartLemmas.{lie_apart}
use Rattle.ldm_book.proofs.OpenPlacesLemmas.{length-reserve}
use Rattle.ldm_book.proofs.PutLemmas.{used-within, taken_within}
use Rattle.ldm_book.proofs.ReserveLemmas.{empty_place, used-reserve}
use Rattle.ldm_book.proofs.RowAtLemmas.{owned-set}
use Rattle.ldm_book.proofs.TakenLemmas.{avoid_free, length-taken, own-reserve, taken-reserve}
use Rattle.ldm_book.proofs.products.Products.reserve.Goals as goal

pub take-requires-clause-owner : goal.take-requires-clause-owner
take-requires-clause-owner c =
    let p = c.self.inside in
    let kept = c.self.invariant in
    let slot = c.in_ok-slot.field-0.now in
    let next = next_free (all_taken p) p.free.items kept.free c.deref.result.now slot c.in_ok-slot.ensures.value c.deref.ensures.value in
    omega (arith, next.inside, length-taken (slots_of p) p.reserved, kept.as_many)

pub take-requires-clause-none : goal.take-requires-clause-none
take-requires-clause-none c =
    let p = c.self.inside in
    let kept = c.self.invariant in
    let slot = c.in_ok-slot.field-0.now in
    let next = next_free (all_taken p) p.free.items kept.free c.deref.result.now slot c.in_ok-slot.ensures.value c.deref.ensures.value in
    kept.owned slot ∙ ap (option_map kept_region) next.none

pub returns-in_err-place-clause-place : goal.returns-in_err-place-clause-place
returns-in_err-place-clause-place c =
    let p = c.self.inside in
    let kept = c.self.invariant in
    let slot = c.in_ok-slot.field-0.now in
    let next = next_free (all_taken p) p.free.items kept.free c.deref.result.now slot c.in_ok-slot.ensures.value c.deref.ensures.value in
    c.from_residual-in_err-place.ensures ∙ c.in_err-place.ensures.place
    ∙ ap (λ need. fit need (occupied p.regions.owned) p.regions.arena) c.extent-need.ensures
    ∙ place_for p kept (extent_of c.args.info.now) next.some
    ∙ ap (λ (view : ProductsView). room_for view (extent_of c.args.info.now)) c.self.view_is

pub overflow_add-self : goal.overflow_add-self
overflow_add-self c =
    let p = c.self.inside in
    let kept = c.self.invariant in
    let slot = c.in_ok-slot.field-0.now in
    let after = c.in_ok-place.ensures.owned in
    let region : Region = record { start = c.in_ok-place.place; extent = c.extent-need.result } in
    let within = taken_within p.regions slot region (subst Tiles after c.in_ok-place.ensures.tiles) in
    let used = used-within p kept in
    omega (arith, within, used, kept.count, kept.few, kept.small)

-- the new reservation
abbrev made : goal.After-self-1 → KeptPlace
made c = record { actor = c.args.actor; slot = c.in_ok-slot.field-0.now; product = kept_of 0 0 c.in_ok-place.place c.args.info.now; filled = 0 }

placed : (c : goal.After-self-1) → c.set.new.self ≡ set c.self.inside.reserved c.args.r (Some (made c))
placed c =
    c.set.ensures.set ∙ ap (λ (k : Kept). set c.self.inside.reserved c.args.r (Some (record { actor = c.args.actor; slot = c.in_ok-slot.field-0.now; product = k; filled = 0 }))) c.reserved.ensures

is_empty : (c : goal.After-self-1) → reservation_at (reservations_of c.self.inside.reserved) c.args.r ≡ None
is_empty c = ap (λ (view : ProductsView). reservation_at view.reservations c.args.r) c.self.view_is ∙ c.requires

seen : (c : goal.After-self-1) → reservations_of c.set.new.self ≡ set (reservations_of c.self.inside.reserved) c.args.r (Some (new_reservation c.args.actor c.args.info.now c.in_ok-place.place))
seen c = ap reservations_of (placed c) ∙ map-set (option_map reservation_of) c.self.inside.reserved c.args.r (Some (made c))

pub invariant_of-self-2 : goal.invariant_of-self-2
invariant_of-self-2 c =
    let p = c.self.inside in
    let kept = c.self.invariant in
    let slot = c.in_ok-slot.field-0.now in
    let next : IsNext (all_taken p) p.free.items slot = next_free (all_taken p) p.free.items kept.free c.deref.result.now slot c.in_ok-slot.ensures.value c.deref.ensures.value in
    let new = made c in
    let none = empty_place p.reserved c.args.r (is_empty c) in
    let bound : c.args.r < length p.reserved = omega (arith, c.set.ensures.many, c.set.ensures.bound) in
    let avoid = avoid_free (slots_of p) p.reserved slot kept.own next.none in
    let inside : slot < length (slots_of p) = omega (arith, next.inside, length-taken (slots_of p) p.reserved) in
    let all : taken_from (slots_of p) c.set.new.self ≡ set (all_taken p) slot (Some new.product) =
    ap (taken_from (slots_of p)) (placed c) ∙ taken-reserve (slots_of p) new p.reserved c.args.r none bound avoid in
    let region : Region = record { start = c.in_ok-place.place; extent = c.extent-need.result } in
    let regions = c.in_ok-place.ensures.owned in
    let same_slots = ap (λ (layout : Layout). layout.slots) regions in
    let same_arena = ap (λ (layout : Layout). layout.arena) regions in
    let free = ap (λ (ks : List ℕ). length ks) c.deref.ensures.value in
    let popped = c.pop-slot.ensures.rest ∙ ap (λ n. take (n - 1) p.free.items) (sym c.deref.ensures.len ∙ free) in
    let left = ap (λ (ks : List ℕ). length ks) popped ∙ length-take-le (length p.free.items - 1) p.free.items (omega arith) in
    let extent = c.extent-need.ensures in
    let same : region ≡ kept_region new.product = λ i. record { start = c.in_ok-place.place; extent = extent i } in
    let seen_bound : c.args.r < length (reservations_of p.reserved) = omega (arith, bound, length-map p.reserved (option_map reservation_of)) in
    let opened = ap (λ (rs : Reservations). length (open_kept rs)) (seen c) ∙ length-reserve (reservation_of new) (reservations_of p.reserved) c.args.r (is_empty c) seen_bound in
    let rows = kept_entries (slots_of p) p.by_number.entries in
    record {
      as_many = kept.as_many ∙ sym same_slots;
      rowed = kept.rowed ∙ sym same_slots;
      numbered = kept.numbered ∙ sym same_slots;
      rising = kept.rising;
      entries = kept.entries;
      listed = kept.listed;
      signatures = kept.signatures;
      one_to_one = kept.one_to_one;
      own = subst (HaveOwn (slots_of p)) (sym (placed c)) (own-reserve (slots_of p) new p.reserved c.args.r none bound kept.own inside next.none refl refl);
      owned = λ k.
          ap (λ (layout : Layout). fin.get layout.owned k) regions ∙ ap (λ region. fin.get (fin.insert p.regions.owned slot region) k) same
          ∙ owned-set (all_taken p) slot new.product p.regions.owned next.inside kept.owned k ∙ ap (λ (s : Slots). option_map kept_region (row_at s k)) (sym all);
      tiles = c.in_ok-place.ensures.tiles;
      free =
          subst (λ (s : Slots). AreFree s c.pop-slot.new.self.items) (sym all)
          (subst (AreFree (set (all_taken p) slot (Some new.product))) (sym popped) (others_free (all_taken p) p.free.items slot next new.product));
      count = omega (arith, left, opened, next.some, kept.count, same_slots);
      roomy = omega (arith, same_slots, kept.roomy, c.pop-slot.ensures.capacity);
      used = (λ i. kept.used i + extent i) ∙ sym (used-reserve rows (reservations_of p.reserved) c.args.r (reservation_of new) (is_empty c) seen_bound)
          ∙ ap (λ (rs : Reservations). extents (occupied_by rows rs)) (sym (seen c));
      few = omega (arith, same_slots, kept.few);
      small = omega (arith, same_arena, kept.small);
    }

pub returns-clause-place : goal.returns-clause-place
returns-clause-place c =
    let p = c.self.inside in
    let kept = c.self.invariant in
    let slot = c.in_ok-slot.field-0.now in
    let next = next_free (all_taken p) p.free.items kept.free c.deref.result.now slot c.in_ok-slot.ensures.value c.deref.ensures.value in
    c.in_ok-place.ensures.place
    ∙ ap (λ need. fit need (occupied p.regions.owned) p.regions.arena) c.extent-need.ensures
    ∙ place_for p kept (extent_of c.args.info.now) next.some
    ∙ ap (λ (view : ProductsView). room_for view (extent_of c.args.info.now)) c.self.view_is

pub returns-clause-within : goal.returns-clause-within
returns-clause-within c =
    let p = c.self.inside in
    let slot = c.in_ok-slot.field-0.now in
    let after = c.in_ok-place.ensures.owned in
    let region : Region = record { start = c.in_ok-place.place; extent = c.extent-need.result } in
    let within = taken_within p.regions slot region (subst Tiles after c.in_ok-place.ensures.tiles) in
    omega (arith, within, c.extent-need.ensures, ap (λ (view : ProductsView). view.arena) c.self.view_is)

pub returns-clause-bound : goal.returns-clause-bound
returns-clause-bound c =
    let p = c.self.inside in
    let many = ap (λ (view : ProductsView). length view.reservations) c.self.view_is in
    omega (arith, c.set.ensures.many, c.set.ensures.bound, length-map p.reserved (option_map reservation_of), many)

pub returns-clause-reserved : goal.returns-clause-reserved
returns-clause-reserved c =
    let p = c.self.inside in
    let after = c.in_ok-place.ensures.owned in
    (λ i. record { arena = (after i).arena; slots = (after i).slots; rows = kept_entries (slots_of p) p.by_number.entries; reservations = seen c i })
    ∙ ap (λ (view : ProductsView). with_reservation view c.args.r (Some (new_reservation c.args.actor c.args.info.now c.in_ok-place.place))) c.self.view_is

pub returns-in_err-slot-clause-apart : goal.returns-in_err-slot-clause-apart
returns-in_err-slot-clause-apart c = subst (λ (p : ProductsView). LieApart p.arena (occupied_in p)) c.self.view_is (lie_apart c.self.inside c.self.invariant)

pub returns-in_err-place-clause-apart : goal.returns-in_err-place-clause-apart
returns-in_err-place-clause-apart c =
    let p = c.self.inside in
    subst (λ (layout : Layout). LieApart layout.arena (occupied_in (products_of p))) (sym c.in_err-place.ensures.owned) (lie_apart p c.self.invariant)

pub returns-clause-apart : goal.returns-clause-apart
returns-clause-apart c = lie_apart _ (invariant_of-self-2 c)
