use Rattle.std.proofs.Common.{◌≡◌, ◌<◌, ℕ, List, [], ◌∷◌, ◌++◌, length, set, slice_get, Some, None, refl, sym, ap, subst, ◌∙◌, arith}
use Rattle.std.specs.List.{All, AllByRecursion}
use Rattle.std.specs.Option.{option_map}
use Rattle.std.proofs.lemmas.List.{length-set, length_push, map-set}
use Rattle.std.proofs.lemmas.Option.{none-some}
use Rattle.ldm_model.specs.Stat.{extents}
use Rattle.ldm_sigindex.specs.Index.{Table, slot_of}
use Rattle.ldm_timeindex.specs.Times.{Queued}
use Rattle.ldm_book.specs.Lookup.{kept_with}
use Rattle.ldm_book.specs.View.{Kept, KeptReservation, Reservations, open_kept}
use Rattle.ldm_book.specs.Products.{ProductsView, committed, kept_region, occupied_by, reservation_at, with_reservation, with_row}
use Rattle.ldm_book.specs.Reserved.{kept_place, reservation_of, reservations_of}
use Rattle.ldm_book.specs.Slots.{Slots, row_at, signature_of, kept_entries, slots_from, slots_of, IsAt, HasSlot, AreFree, HaveOwn, taken_from}
use Rattle.ldm_book.proofs.AllEntriesLemmas.{all_taken}
use Rattle.ldm_book.proofs.AreFreeLemmas.{no_signature}
use Rattle.ldm_book.proofs.KeptEntryLemmas.{absent_from_slots, later_entries}
use Rattle.ldm_book.proofs.LieApartLemmas.{lie_apart}
use Rattle.ldm_book.proofs.OpenPlacesLemmas.{length-ended}
use Rattle.ldm_book.proofs.PutLemmas.{rows-added, extents-added, entries-added, listed-added}
use Rattle.ldm_book.proofs.ReserveLemmas.{free-committed, open_place, own-committed, owned-committed, same_place, seen_place, taken-committed, used-ended}
use Rattle.ldm_book.proofs.SlotsLemmas.{slots-put, slotted_from}
use Rattle.ldm_book.proofs.TakenLemmas.{length-taken, place_apart, place_within}
use Rattle.ldm_book.proofs.products.Products.commit.Goals as goal

pub unreachable-requires : goal.unreachable-requires
unreachable-requires c =
    let p = c.self.inside in
    let place = open_place p.reserved c.args.r c.requires.some.0 (ap (λ (view : ProductsView). reservation_at view.reservations c.args.r) c.self.view_is ∙ c.requires.some.1) in
    none-some place.0 (c.in_default.ensures.at ∙ place.1)

pub put-requires-clause-absent : goal.put-requires-clause-absent
put-requires-clause-absent c =
    let p = c.self.inside in
    let kept = c.self.invariant in
    let v = c.requires.some.0 in
    let same = same_place p.reserved c.args.self.now c.args.r (kept_place c.in-Some.place) v (ap (λ (view : ProductsView). view.reservations) c.self.view_is) c.in-Some.ensures.at c.requires.some.1 in
    let signature : c.in-Some.place.row.signature.0 ≡ v.product.signature = ap (λ (x : KeptReservation). x.product.signature) same in
    (λ i. slot_of (kept.signatures i) (signature i))
    ∙ absent_from_slots (slots_of p) p.by_number.entries v.product.signature kept.listed (ap (λ (view : ProductsView). kept_with v.product.signature view.rows) c.self.view_is ∙ c.requires.some.2)

pub put-requires-clause-free : goal.put-requires-clause-free
put-requires-clause-free c =
    let p = c.self.inside in
    let kept = c.self.invariant in
    let q = kept_place c.in-Some.place in
    let at = sym c.in-Some.ensures.at in
    ap (λ (table : Table). slice_get table q.slot) kept.signatures
    ∙ no_signature (slots_of p) q.slot (place_within (slots_of p) q p.reserved c.args.r kept.own at) (place_apart (slots_of p) q p.reserved c.args.r kept.own at)

pub push-requires-clause-room : goal.push-requires-clause-room
push-requires-clause-room c =
    let p = c.self.inside in
    let kept = c.self.invariant in
    let q = kept_place c.in-Some.place in
    omega (arith, kept.count, kept.numbered, length-ended (reservation_of q) (reservations_of p.reserved) c.args.r (seen_place p.reserved c.args.r q c.in-Some.ensures.at))

pub push-requires-clause-later : goal.push-requires-clause-later
push-requires-clause-later c =
    let p = c.self.inside in
    later_entries (slots_of p) c.args.n c.args.time p.by_number.entries
    (subst (λ (view : ProductsView). All (λ (k : Kept). (k.number < c.args.n) × (k.time < c.args.time)) view.rows) (sym c.self.view_is) c.requires.later)

pub index_mut-requires : goal.index_mut-requires
index_mut-requires c =
    let p = c.self.inside in
    let kept = c.self.invariant in
    let q = kept_place c.in-Some.place in
    omega (arith, place_within (slots_of p) q p.reserved c.args.r kept.own (sym c.in-Some.ensures.at), kept.as_many, kept.rowed, p.slots.ok.0)

-- the slots with the product
filled : (c : goal.After-set)
    → slots_from (set c.self.inside.slots.items c.in-Some.place.slot (record c.in-Some.place.row { n = c.args.n; time = c.args.time })) c.put.new.self
    ≡ set (slots_of c.self.inside) c.in-Some.place.slot (Some (committed c.args.n c.args.time (reservation_of (kept_place c.in-Some.place))))
filled c =
    let p = c.self.inside in
    ap (slots_from (set p.slots.items c.in-Some.place.slot (record c.in-Some.place.row { n = c.args.n; time = c.args.time }))) c.put.ensures.put
    ∙ slots-put p.slots.items p.by_signature c.in-Some.place.slot (record c.in-Some.place.row { n = c.args.n; time = c.args.time }) c.in-Some.place.row.signature.0

-- the places without the reservation
seen : (c : goal.After-set) → reservations_of c.set.new.self ≡ set (reservations_of c.self.inside.reserved) c.args.r None
seen c = ap reservations_of c.set.ensures.set ∙ map-set (option_map reservation_of) c.self.inside.reserved c.args.r None

pub invariant_of-self : goal.invariant_of-self
invariant_of-self c =
    let p = c.self.inside in
    let kept = c.self.invariant in
    let q = kept_place c.in-Some.place in
    let at = sym c.in-Some.ensures.at in
    let v = reservation_of q in
    let row = committed c.args.n c.args.time v in
    let slots = set (slots_of p) q.slot (Some row) in
    let inside = place_within (slots_of p) q p.reserved c.args.r kept.own at in
    let none = place_apart (slots_of p) q p.reserved c.args.r kept.own at in
    let there : q.slot < length (all_taken p) = omega (arith, inside, length-taken (slots_of p) p.reserved) in
    let all : taken_from slots c.set.new.self ≡ set (all_taken p) q.slot (Some row) = ap (taken_from slots) c.set.ensures.set ∙ taken-committed (slots_of p) p.reserved c.args.r q kept.own at row in
    let there_seen = seen_place p.reserved c.args.r q c.in-Some.ensures.at in
    let entries = c.push.ensures.entries in
    let pushed = ap (λ (entries : List Queued). length entries) entries ∙ length_push p.by_number.entries (record { n = c.args.n; time = c.args.time; slot = q.slot }) in
    let opened = ap (λ (rs : Reservations). length (open_kept rs)) (seen c) in
    let fewer = length-ended v (reservations_of p.reserved) c.args.r there_seen in
    let rows = kept_entries (slots_of p) p.by_number.entries in
    let sum = extents-added p kept q.slot row inside none (reservations_of c.set.new.self) in
    let new_rows = ap (λ (es : List Queued). extents (occupied_by (kept_entries slots es) (reservations_of c.set.new.self))) entries in
    let ended = used-ended rows (reservations_of p.reserved) c.args.r v there_seen in
    let left = ap (λ (rs : Reservations). extents (occupied_by rows rs)) (seen c) in
    slotted_from _ slots (sym (filled c))
    (record {
      as_many = length-set (slots_of p) q.slot (Some row) ∙ kept.as_many;
      rowed = length-set p.slots.items q.slot _ ∙ kept.rowed;
      numbered = c.push.ensures.slots ∙ kept.numbered;
      rising = c.push.ensures.rising;
      entries = subst (AllByRecursion (IsAt slots)) (sym entries) (entries-added p kept q.slot row inside none);
      listed = subst (λ (entries : List Queued). (k : ℕ) (held : Kept) → row_at slots k ≡ Some held → HasSlot k entries) (sym entries) (listed-added p kept q.slot row inside none);
      signatures = c.put.ensures.put ∙ (λ i. set (kept.signatures i) q.slot (Some c.in-Some.place.row.signature.0)) ∙ sym (map-set signature_of (slots_of p) q.slot (Some row));
      one_to_one = c.put.ensures.one_to_one;
      own = subst (HaveOwn slots) (sym c.set.ensures.set) (own-committed (slots_of p) p.reserved c.args.r q kept.own at row);
      owned = λ k. owned-committed (slots_of p) p.reserved c.args.r q kept.own at row p.regions.owned there refl kept.owned k ∙ ap (λ (s : Slots). option_map kept_region (row_at s k)) (sym all);
      tiles = kept.tiles;
      free = subst (λ (s : Slots). AreFree s p.free.items) (sym all) (free-committed (slots_of p) p.reserved c.args.r q kept.own at row p.free.items kept.free);
      count = omega (arith, pushed, opened, fewer, kept.count);
      roomy = kept.roomy;
      used = omega (arith, kept.used, sum, new_rows, ended, left);
      few = kept.few;
      small = kept.small;
    })

pub returns-clause-committed : goal.returns-clause-committed
returns-clause-committed c = λ v there.
    let p = c.self.inside in
    let kept = c.self.invariant in
    let q = kept_place c.in-Some.place in
    let at = sym c.in-Some.ensures.at in
    let row = committed c.args.n c.args.time (reservation_of q) in
    let same = same_place p.reserved c.args.self.now c.args.r q v (ap (λ (view : ProductsView). view.reservations) c.self.view_is) c.in-Some.ensures.at there in
    let inside = place_within (slots_of p) q p.reserved c.args.r kept.own at in
    let none = place_apart (slots_of p) q p.reserved c.args.r kept.own at in
    let rows = (λ i. kept_entries (filled c i) (c.push.ensures.entries i)) ∙ rows-added p kept q.slot row inside none
    ∙ ap (λ (x : KeptReservation). kept_entries (slots_of p) p.by_number.entries ++ committed c.args.n c.args.time x ∷ []) same in
    (λ i. record { arena = p.regions.arena; slots = p.regions.slots; rows = rows i; reservations = seen c i })
    ∙ ap (λ (view : ProductsView). with_reservation (with_row view (committed c.args.n c.args.time v)) c.args.r None) c.self.view_is

pub returns-clause-apart : goal.returns-clause-apart
returns-clause-apart c = lie_apart _ (invariant_of-self c)
