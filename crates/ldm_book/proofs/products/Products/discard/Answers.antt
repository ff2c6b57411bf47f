use Rattle.std.proofs.Common.{◌≡◌, ◌<◌, ℕ, List, [], ◌∷◌, length, set, None, is_some, sym, ap, subst, ◌∙◌, length-append, arith}
use Rattle.std.specs.FinMap as fin
use Rattle.std.specs.Option.{option_map}
use Rattle.std.proofs.lemmas.List.{map-set}
use Rattle.ldm_model.specs.Stat.{extents}
use Rattle.ldm_regions.specs.Layout.{Layout}
use Rattle.ldm_book.specs.View.{Reservations, open_kept}
use Rattle.ldm_book.specs.Products.{ProductsView, kept_region, occupied_by, with_reservation}
use Rattle.ldm_book.specs.Reserved.{kept_place, reservation_of, reservations_of}
use Rattle.ldm_book.specs.Slots.{Slots, row_at, kept_entries, slots_of, AreFree, HaveOwn, taken_from}
use Rattle.ldm_book.proofs.AllEntriesLemmas.{all_taken}
use Rattle.ldm_book.proofs.LieApartLemmas.{lie_apart}
use Rattle.ldm_book.proofs.OpenPlacesLemmas.{length-ended}
use Rattle.ldm_book.proofs.ReserveLemmas.{seen_place, used-ended}
use Rattle.ldm_book.proofs.RowAtLemmas.{free-emptied, owned-emptied}
use Rattle.ldm_book.proofs.TakenLemmas.{own-ended, place_taken, taken-ended}
use Rattle.ldm_book.proofs.products.Products.discard.Goals as goal

pub give_back-requires : goal.give_back-requires
give_back-requires c =
    let p = c.self.inside in
    let kept = c.self.invariant in
    let q = kept_place c.in-Some.place in
    ap is_some (kept.owned q.slot ∙ ap (option_map kept_region) (place_taken (slots_of p) q p.reserved c.args.r kept.own (sym c.in-Some.ensures.at)))

pub overflow_sub-self : goal.overflow_sub-self
overflow_sub-self c =
    let p = c.self.inside in
    let kept = c.self.invariant in
    let q = kept_place c.in-Some.place in
    omega (
      arith,
      c.extent.ensures,
      kept.used,
      used-ended (kept_entries (slots_of p) p.by_number.entries) (reservations_of p.reserved) c.args.r (reservation_of q)
          (seen_place p.reserved c.args.r q c.in-Some.ensures.at),
    )

pub unreachable-requires-in_default-push : goal.unreachable-requires-in_default-push
unreachable-requires-in_default-push c =
    let p = c.self.inside in
    let kept = c.self.invariant in
    let q = kept_place c.in-Some.place in
    let fewer = length-ended (reservation_of q) (reservations_of p.reserved) c.args.r (seen_place p.reserved c.args.r q c.in-Some.ensures.at) in
    let room : length p.free.items < p.regions.slots = omega (arith, kept.count, fewer) in
    grind arith

-- the places without the reservation
seen : (c : goal.After-set) → reservations_of c.set.new.self ≡ set (reservations_of c.self.inside.reserved) c.args.r None
seen c = ap reservations_of c.set.ensures.set ∙ map-set (option_map reservation_of) c.self.inside.reserved c.args.r None

pub invariant_of-self : goal.invariant_of-self
invariant_of-self c =
    let p = c.self.inside in
    let kept = c.self.invariant in
    let q = kept_place c.in-Some.place in
    let at = sym c.in-Some.ensures.at in
    let regions = c.give_back.ensures.owned in
    let same_slots = ap (λ (layout : Layout). layout.slots) regions in
    let same_arena = ap (λ (layout : Layout). layout.arena) regions in
    let all : taken_from (slots_of p) c.set.new.self ≡ set (all_taken p) q.slot None = ap (taken_from (slots_of p)) c.set.ensures.set ∙ taken-ended (slots_of p) q p.reserved c.args.r kept.own at in
    let there = seen_place p.reserved c.args.r q c.in-Some.ensures.at in
    let opened = ap (λ (rs : Reservations). length (open_kept rs)) (seen c) in
    let fewer = length-ended (reservation_of q) (reservations_of p.reserved) c.args.r there in
    let rows = kept_entries (slots_of p) p.by_number.entries in
    let ended = used-ended rows (reservations_of p.reserved) c.args.r (reservation_of q) there in
    let left = ap (λ (rs : Reservations). extents (occupied_by rows rs)) (seen c) in
    let free = c.in-Ok.ensures.items in
    let longer = ap (λ (ks : List ℕ). length ks) free ∙ length-append p.free.items (q.slot ∷ []) in
    record {
      as_many = kept.as_many ∙ sym same_slots;
      rowed = kept.rowed ∙ sym same_slots;
      numbered = kept.numbered ∙ sym same_slots;
      rising = kept.rising;
      entries = kept.entries;
      listed = kept.listed;
      signatures = kept.signatures;
      one_to_one = kept.one_to_one;
      own = subst (HaveOwn (slots_of p)) (sym c.set.ensures.set) (own-ended (slots_of p) q p.reserved c.args.r kept.own at);
      owned = λ k.
          ap (λ (layout : Layout). fin.get layout.owned k) regions ∙ owned-emptied (all_taken p) q.slot p.regions.owned kept.owned k
          ∙ ap (λ (s : Slots). option_map kept_region (row_at s k)) (sym all);
      tiles = c.give_back.ensures.tiles;
      free = subst (λ (s : Slots). AreFree s c.push.new.self.items) (sym all)
          (subst (AreFree (set (all_taken p) q.slot None)) (sym free)
          (free-emptied (all_taken p) q.slot q.product (place_taken (slots_of p) q p.reserved c.args.r kept.own at) p.free.items kept.free));
      count = omega (arith, longer, opened, fewer, kept.count, same_slots);
      roomy = omega (arith, same_slots, kept.roomy, c.in-Ok.ensures.capacity);
      used = omega (arith, kept.used, ended, left, c.extent.ensures);
      few = omega (arith, same_slots, kept.few);
      small = omega (arith, same_arena, kept.small);
    }

pub returns-clause-discarded : goal.returns-clause-discarded
returns-clause-discarded c =
    let p = c.self.inside in
    let after = c.give_back.ensures.owned in
    (λ i. record { arena = (after i).arena; slots = (after i).slots; rows = kept_entries (slots_of p) p.by_number.entries; reservations = seen c i })
    ∙ ap (λ (view : ProductsView). with_reservation view c.args.r None) c.self.view_is

pub returns-clause-apart : goal.returns-clause-apart
returns-clause-apart c = lie_apart _ (invariant_of-self c)
