use Rattle.std.proofs.Common.{◌≡◌, ◌+◌, ◌-◌, ◌<◌, ℕ, List, length, set, take, slice_get, true, false, None, Some, refl, sym, ap, subst, ◌∙◌, arith}
use Rattle.std.specs.FinMap as fin
use Rattle.std.specs.List.{All, AllByRecursion}
use Rattle.std.specs.Option.{option_map}
use Rattle.std.proofs.lemmas.List.{map-set, length-set, length-take-le, length_push}
use Rattle.ldm_types.specs.Arena.{Region}
use Rattle.ldm_model.specs.Stat.{extents}
use Rattle.ldm_regions.specs.Layout.{Layout, Tiles}
use Rattle.ldm_sigindex.specs.Index.{Table, slot_of}
use Rattle.ldm_timeindex.specs.Times.{Queued}
use Rattle.ldm_book.specs.View.{Kept, kept_of}
use Rattle.ldm_book.specs.Products.{ProductsView, LieApart, kept_region, occupied_by, occupied_in, with_row}
use Rattle.ldm_book.specs.Slots.{Slots, row_at, signature_of, slots_of, kept_entries, products_of, IsAt, HasSlot, AreFree, slots_from}
use Rattle.ldm_book.proofs.SlotsLemmas.{slots-put, slotted_from}
use Rattle.ldm_book.proofs.KeptEntryLemmas.{later_entries}
use Rattle.ldm_book.proofs.AreFreeLemmas.{next_free, others_free, no_signature}
use Rattle.ldm_book.proofs.PutLemmas.{rows-added, extents-added, entries-added, listed-added, used-within, taken_within}
use Rattle.ldm_book.proofs.AllEntriesLemmas.{all_taken}
use Rattle.ldm_book.proofs.RowAtLemmas.{owned-set}
use Rattle.ldm_book.proofs.TakenLemmas.{avoid_free, free-kept, length-taken, own-set, taken-set}
use Rattle.ldm_book.specs.Reserved.{reservations_of}
use Rattle.ldm_book.proofs.LieApartLemmas.{lie_apart}
use Rattle.ldm_book.proofs.PlaceLemmas.{none_found, not_free, not_there, placeable, some_found}
use Rattle.ldm_book.specs.Restoring.{IsPlaceable}
use Rattle.std.specs.Prelude.{is_some}
use Rattle.std.proofs.lemmas.Bool.{false≢true}
use Rattle.ldm_regions.specs.Layout.{IsFree}
use Rattle.ldm_book.proofs.products.Products.put_at.Goals as goal

pub returns-then-is_some-clause-placeable : goal.returns-then-is_some-clause-placeable
returns-then-is_some-clause-placeable c =
    let p = c.self.inside in
    let row = kept_of c.args.n c.args.time c.args.place c.args.info.now in
    let yes : is_some c.find.result ≡ true = cc in
    let there = some_found c.find.result yes in
    let found : Some there.0 ≡ slot_of p.by_signature row.signature = sym there.1 ∙ c.find.ensures.slot ∙ ap (slot_of p.by_signature) c.signature.ensures in (
      λ no. absurd (false≢true no),
      λ is. absurd (not_there p c.self.invariant row there.0 found (subst (λ (view : ProductsView). IsPlaceable view row) (sym c.self.view_is) is)),
    )

pub returns-then-is_some-clause-apart : goal.returns-then-is_some-clause-apart
returns-then-is_some-clause-apart c = subst (λ (p : ProductsView). LieApart p.arena (occupied_in p)) c.self.view_is (lie_apart c.self.inside c.self.invariant)

pub returns-then-not-place-clause-placeable : goal.returns-then-not-place-clause-placeable
returns-then-not-place-clause-placeable c =
    let p = c.self.inside in
    let row = kept_of c.args.n c.args.time c.args.place c.args.info.now in
    let extent = c.extent-need.ensures in
    let taken : kept_region row ≡ record { start = c.args.place; extent = c.extent-need.result } = λ i. record { start = c.args.place; extent = sym extent i } in (
      λ no. absurd (false≢true no),
      λ is. absurd (not_free p c.self.invariant row (λ free. false≢true (c.if-not-place.ensures.free.1 (subst (λ (r : Region). IsFree r p.regions) taken free)))
          (subst (λ (view : ProductsView). IsPlaceable view row) (sym c.self.view_is) is)),
    )

pub returns-then-not-place-clause-apart : goal.returns-then-not-place-clause-apart
returns-then-not-place-clause-apart c =
    let p = c.self.inside in
    subst (λ (layout : Layout). LieApart layout.arena (occupied_in (products_of p))) (sym c.if-not-place.ensures.owned) (lie_apart p c.self.invariant)

pub returns-clause-placeable : goal.returns-clause-placeable
returns-clause-placeable c =
    let p = c.self.inside in
    let row = kept_of c.args.n c.args.time c.args.place c.args.info.now in
    let extent = c.extent-need.ensures in
    let taken : record { start = c.args.place; extent = c.extent-need.result } ≡ kept_region row = λ i. record { start = c.args.place; extent = extent i } in
    let no : is_some c.find.result ≡ false = cc in
    let none : None ≡ slot_of p.by_signature row.signature = sym (none_found c.find.result no) ∙ c.find.ensures.slot ∙ ap (slot_of p.by_signature) c.signature.ensures in
    let free = subst (λ (r : Region). IsFree r p.regions) taken (c.if-not-place.ensures.free.0 refl) in
    (λ yes. subst (λ (view : ProductsView). IsPlaceable view row) c.self.view_is (placeable p c.self.invariant row free none), λ is. refl)

pub place-requires-clause-owner : goal.place-requires-clause-owner
place-requires-clause-owner c =
    let p = c.self.inside in
    let kept = c.self.invariant in
    let slot = c.in-Some.last.now in
    let next = next_free (all_taken p) p.free.items kept.free c.deref.result.now slot c.in-Some.ensures.value c.deref.ensures.value in
    omega (arith, next.inside, length-taken (slots_of p) p.reserved, kept.as_many)

pub place-requires-clause-none : goal.place-requires-clause-none
place-requires-clause-none c =
    let p = c.self.inside in
    let kept = c.self.invariant in
    let slot = c.in-Some.last.now in
    let next = next_free (all_taken p) p.free.items kept.free c.deref.result.now slot c.in-Some.ensures.value c.deref.ensures.value in
    kept.owned slot ∙ ap (option_map kept_region) next.none

pub put-requires-clause-free : goal.put-requires-clause-free
put-requires-clause-free c =
    let p = c.self.inside in
    let kept = c.self.invariant in
    let slot = c.in-Some.last.now in
    let next = next_free (all_taken p) p.free.items kept.free c.deref.result.now slot c.in-Some.ensures.value c.deref.ensures.value in
    ap (λ (table : Table). slice_get table slot) kept.signatures
    ∙ no_signature (slots_of p) slot (omega (arith, next.inside, length-taken (slots_of p) p.reserved)) (free-kept (slots_of p) p.reserved slot kept.own next.none)

pub push-requires-clause-later : goal.push-requires-clause-later
push-requires-clause-later c =
    let p = c.self.inside in
    later_entries (slots_of p) c.args.n c.args.time p.by_number.entries
    (subst (λ (view : ProductsView). All (λ (k : Kept). (k.number < c.args.n) × (k.time < c.args.time)) view.rows) (sym c.self.view_is) c.requires.later)

pub index_mut-requires : goal.index_mut-requires
index_mut-requires c =
    let p = c.self.inside in
    let kept = c.self.invariant in
    let slot = c.in-Some.last.now in
    let next = next_free (all_taken p) p.free.items kept.free c.deref.result.now slot c.in-Some.ensures.value c.deref.ensures.value in
    omega (arith, next.inside, length-taken (slots_of p) p.reserved, kept.as_many, kept.rowed)

pub overflow_add-self : goal.overflow_add-self
overflow_add-self c =
    let p = c.self.inside in
    let kept = c.self.invariant in
    let slot = c.in-Some.last.now in
    let after = c.if-not-place.ensures.owned in
    let region : Region = record { start = c.args.place; extent = c.extent-need.result } in
    let within = taken_within p.regions slot region (subst Tiles after c.if-not-place.ensures.tiles) in
    let used = used-within p kept in
    omega (arith, within, used, kept.count, kept.few, kept.small)

pub invariant_of-self-2 : goal.invariant_of-self-2
invariant_of-self-2 c =
    let p = c.self.inside in
    let kept = c.self.invariant in
    let slot = c.in-Some.last.now in
    let next = next_free (all_taken p) p.free.items kept.free c.deref.result.now slot c.in-Some.ensures.value c.deref.ensures.value in
    let row = kept_of c.args.n c.args.time c.args.place c.args.info.now in
    let region : Region = record { start = c.args.place; extent = c.extent-need.result } in
    let slots = set (slots_of p) slot (Some row) in
    let inside : slot < length (slots_of p) = omega (arith, next.inside, length-taken (slots_of p) p.reserved) in
    let none = free-kept (slots_of p) p.reserved slot kept.own next.none in
    let avoid = avoid_free (slots_of p) p.reserved slot kept.own next.none in
    let all = taken-set (slots_of p) p.reserved slot (Some row) avoid in
    let filled : slots_from (set p.slots.items slot c.new.result) c.put.new.self ≡ slots =
    (λ i. slots_from (set p.slots.items slot c.new.result) ((c.put.ensures.put ∙ ap (λ (s : List ℕ). set p.by_signature slot (Some s)) c.signature-2.ensures) i))
    ∙ slots-put p.slots.items p.by_signature slot c.new.result c.args.info.now.signature ∙ ap (λ (k : Kept). set (slots_of p) slot (Some k)) c.new.ensures in
    let regions = c.if-not-place.ensures.owned in
    let same_slots = ap (λ (layout : Layout). layout.slots) regions in
    let same_arena = ap (λ (layout : Layout). layout.arena) regions in
    let entries = c.push.ensures.entries in
    let pushed = ap (λ (entries : List Queued). length entries) entries ∙ length_push p.by_number.entries (record { n = c.args.n; time = c.args.time; slot = slot }) in
    let free = ap (λ (ks : List ℕ). length ks) c.deref.ensures.value in
    let popped = c.pop-slot.ensures.rest ∙ ap (λ n. take (n - 1) p.free.items) (sym c.deref.ensures.len ∙ free) in
    let left = ap (λ (ks : List ℕ). length ks) popped ∙ length-take-le (length p.free.items - 1) p.free.items (omega arith) in
    let extent = c.extent-need.ensures in
    let taken : region ≡ kept_region row = λ i. record { start = c.args.place; extent = extent i } in
    slotted_from _ slots (sym filled)
    (record {
      as_many = length-set (slots_of p) slot (Some row) ∙ kept.as_many ∙ sym same_slots;
      rowed = length-set p.slots.items slot c.new.result ∙ kept.rowed ∙ sym same_slots;
      numbered = c.push.ensures.slots ∙ kept.numbered ∙ sym same_slots;
      rising = c.push.ensures.rising;
      entries = subst (AllByRecursion (IsAt slots)) (sym entries) (entries-added p kept slot row inside none);
      listed = subst (λ (entries : List Queued). (k : ℕ) (held : Kept) → row_at slots k ≡ Some held → HasSlot k entries) (sym entries) (listed-added p kept slot row inside none);
      signatures = c.put.ensures.put ∙ (λ i. set (kept.signatures i) slot (Some (c.signature-2.ensures i))) ∙ sym (map-set signature_of (slots_of p) slot (Some row));
      one_to_one = c.put.ensures.one_to_one;
      own = own-set (slots_of p) p.reserved slot (Some row) avoid kept.own;
      owned = λ k.
          ap (λ (layout : Layout). fin.get layout.owned k) regions ∙ ap (λ region. fin.get (fin.insert p.regions.owned slot region) k) taken
          ∙ owned-set (all_taken p) slot row p.regions.owned next.inside kept.owned k ∙ ap (λ (s : Slots). option_map kept_region (row_at s k)) (sym all);
      tiles = c.if-not-place.ensures.tiles;
      free =
          subst (λ (s : Slots). AreFree s c.pop-slot.new.self.items) (sym all)
          (subst (AreFree (set (all_taken p) slot (Some row))) (sym popped) (others_free (all_taken p) p.free.items slot next row));
      count = omega (arith, left, pushed, next.some, kept.count, same_slots);
      roomy = omega (arith, same_slots, kept.roomy, c.pop-slot.ensures.capacity);
      used = (λ i. kept.used i + extent i) ∙ sym (extents-added p kept slot row inside none (reservations_of p.reserved))
          ∙ ap (λ (entries : List Queued). extents (occupied_by (kept_entries slots entries) (reservations_of p.reserved))) (sym entries);
      few = omega (arith, same_slots, kept.few);
      small = omega (arith, same_arena, kept.small);
    })

pub returns-clause-rows : goal.returns-clause-rows
returns-clause-rows c =
    let p = c.self.inside in
    let kept = c.self.invariant in
    let slot = c.in-Some.last.now in
    let next = next_free (all_taken p) p.free.items kept.free c.deref.result.now slot c.in-Some.ensures.value c.deref.ensures.value in
    let row = kept_of c.args.n c.args.time c.args.place c.args.info.now in
    let after = c.if-not-place.ensures.owned in
    let filled : slots_from (set p.slots.items slot c.new.result) c.put.new.self ≡ set (slots_of p) slot (Some row) =
    (λ i. slots_from (set p.slots.items slot c.new.result) ((c.put.ensures.put ∙ ap (λ (s : List ℕ). set p.by_signature slot (Some s)) c.signature-2.ensures) i))
    ∙ slots-put p.slots.items p.by_signature slot c.new.result c.args.info.now.signature ∙ ap (λ (k : Kept). set (slots_of p) slot (Some k)) c.new.ensures in
    let inside : slot < length (slots_of p) = omega (arith, next.inside, length-taken (slots_of p) p.reserved) in
    let rows = (λ i. kept_entries (filled i) (c.push.ensures.entries i)) ∙ rows-added p kept slot row inside (free-kept (slots_of p) p.reserved slot kept.own next.none) in
    (λ i. record { arena = (after i).arena; slots = (after i).slots; rows = rows i; reservations = reservations_of p.reserved })
    ∙ ap (λ (view : ProductsView). with_row view row) c.self.view_is

pub returns-clause-apart : goal.returns-clause-apart
returns-clause-apart c = lie_apart _ (invariant_of-self-2 c)
