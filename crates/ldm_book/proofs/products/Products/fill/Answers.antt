use Rattle.std.proofs.Common.{◌≡◌, ◌+◌, length, map, set, Some, sym, ap, subst, ◌∙◌, arith}
use Rattle.std.specs.Option.{option_map}
use Rattle.std.proofs.lemmas.List.{map-set}
use Rattle.std.proofs.lemmas.Option.{none-some}
use Rattle.ldm_model.specs.Stat.{extents}
use Rattle.ldm_book.specs.View.{KeptReservation, Reservations, open_kept}
use Rattle.ldm_book.specs.Products.{ProductsView, kept_region, reservation_at, reserved_region, with_more, with_reservation}
use Rattle.ldm_book.specs.Reserved.{kept_place, reservation_of, reservations_of}
use Rattle.ldm_book.specs.Slots.{Slots, row_at, kept_entries, slots_of, AreFree, HaveOwn, taken_from}
use Rattle.ldm_book.proofs.AllEntriesLemmas.{all_taken}
use Rattle.ldm_book.proofs.OpenPlacesLemmas.{extents-append, length-filled, regions-filled}
use Rattle.ldm_book.proofs.ReserveLemmas.{open_place, same_place, seen_place}
use Rattle.ldm_book.proofs.TakenLemmas.{own-filled, taken-filled}
use Rattle.ldm_book.proofs.products.Products.fill.Goals as goal

pub unreachable-requires : goal.unreachable-requires
unreachable-requires c =
    let p = c.self.inside in
    let v = c.requires.0 in
    let place = open_place p.reserved c.args.r v (ap (λ (view : ProductsView). reservation_at view.reservations c.args.r) c.self.view_is ∙ c.requires.1) in
    none-some place.0 (c.in_default.ensures.at ∙ place.1)

pub overflow_add-place : goal.overflow_add-place
overflow_add-place c =
    let p = c.self.inside in
    let v = c.requires.0 in
    let same = same_place p.reserved c.args.self.now c.args.r (kept_place c.in-Some.place) v (ap (λ (view : ProductsView). view.reservations) c.self.view_is) c.in-Some.ensures.at c.requires.1 in
    omega (arith, c.requires.2, ap (λ (x : KeptReservation). x.filled) same, ap (λ (x : KeptReservation). x.product.size) same)

pub invariant_of-self : goal.invariant_of-self
invariant_of-self c =
    let p = c.self.inside in
    let kept = c.self.invariant in
    let q = kept_place c.in-Some.place in
    let filled = c.in-Some.place.filled + c.args.count in
    let at = sym c.in-Some.ensures.at in
    let all : taken_from (slots_of p) c.set.new.self ≡ all_taken p = ap (taken_from (slots_of p)) c.set.ensures.set ∙ taken-filled (slots_of p) q p.reserved c.args.r filled at in
    let seen = seen_place p.reserved c.args.r q c.in-Some.ensures.at in
    let rs = reservations_of p.reserved in
    let new : reservations_of c.set.new.self ≡ set rs c.args.r (Some (record (reservation_of q) { filled = filled })) =
    ap reservations_of c.set.ensures.set ∙ map-set (option_map reservation_of) p.reserved c.args.r (Some (record q { filled = filled })) in
    let count = ap (λ (x : Reservations). length (open_kept x)) new ∙ length-filled (reservation_of q) rs c.args.r filled seen in
    let regions : map reserved_region (open_kept (reservations_of c.set.new.self)) ≡ map reserved_region (open_kept rs) =
    ap (λ (x : Reservations). map reserved_region (open_kept x)) new ∙ regions-filled (reservation_of q) rs c.args.r filled seen in
    let rows = map kept_region (kept_entries (slots_of p) p.by_number.entries) in
    record {
      as_many = kept.as_many;
      rowed = kept.rowed;
      numbered = kept.numbered;
      rising = kept.rising;
      entries = kept.entries;
      listed = kept.listed;
      signatures = kept.signatures;
      one_to_one = kept.one_to_one;
      own = subst (HaveOwn (slots_of p)) (sym c.set.ensures.set) (own-filled (slots_of p) q p.reserved c.args.r filled kept.own at);
      owned = λ k. kept.owned k ∙ ap (λ (s : Slots). option_map kept_region (row_at s k)) (sym all);
      tiles = kept.tiles;
      free = subst (λ (s : Slots). AreFree s p.free.items) (sym all) kept.free;
      count = omega (arith, count, kept.count);
      roomy = kept.roomy;
      used =
          omega (
            arith,
            kept.used,
            extents-append rows (map reserved_region (open_kept rs)),
            extents-append rows
                (map reserved_region (open_kept (reservations_of c.set.new.self))),
            ap extents regions,
          );
      few = kept.few;
      small = kept.small;
    }

pub returns : goal.returns
returns c = λ v there.
    let p = c.self.inside in
    let q = kept_place c.in-Some.place in
    let filled = c.in-Some.place.filled + c.args.count in
    let same = same_place p.reserved c.args.self.now c.args.r q v (ap (λ (view : ProductsView). view.reservations) c.self.view_is) c.in-Some.ensures.at there in
    let new : reservations_of c.set.new.self ≡ set (reservations_of p.reserved) c.args.r (Some (with_more c.args.count v)) =
    ap reservations_of c.set.ensures.set ∙ map-set (option_map reservation_of) p.reserved c.args.r (Some (record q { filled = filled }))
    ∙ ap (λ (x : KeptReservation). set (reservations_of p.reserved) c.args.r (Some (with_more c.args.count x))) same in
    (λ i. record { arena = p.regions.arena; slots = p.regions.slots; rows = kept_entries (slots_of p) p.by_number.entries; reservations = new i })
    ∙ ap (λ (view : ProductsView). with_reservation view c.args.r (Some (with_more c.args.count v))) c.self.view_is
