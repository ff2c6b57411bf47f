use Rattle.std.proofs.Common.{◌≡◌, ◌∙◌, ℕ, ◌+◌, ◌-◌, ◌≤◌, ◌++◌, List, drop, take, refl, sym, ap, subst, append-nil, arith, length}
use borrow.Rule.Slice.PartMut.{put_mid}
use Rattle.std.specs.Prelude.{is_some}
use Rattle.std.proofs.lemmas.Bool.{false≢true}
use Rattle.ldm_model.specs.Product.{extent_of}
use Rattle.ldm_xdr.specs.Spelling.{spelling}
use Rattle.ldm_xdr.proofs.Whole.{length-spelling}
use Rattle.ldm_book.specs.View.{BookView, Kept, KeptReservation}
use Rattle.ldm_book.specs.Making.{Reserves, new_reservation, reserved_at, written}
use Rattle.ldm_book.specs.Products.{AreRising, LieApart, ProductsView, occupied_in, reservation_at, reserved_region}
use Rattle.ldm_book.specs.Readers.{AreReading, occupied}
use Rattle.ldm_book.specs.Sound.{IsTimed, view_of}
use Rattle.ldm_book.specs.Stored.{AreReserved, HaveMetadata}
use Rattle.ldm_book.proofs.BookLemmas.{room_seen}
use Rattle.ldm_book.proofs.EightsLemmas.{room_eights}
use Rattle.ldm_book.proofs.FillLemmas.{from, reserve-others, reserve-rows, reserved-new, to, within}
use Rattle.ldm_book.proofs.StoredLemmas.{items_written, metadata_still, reserved_others}
use Rattle.ldm_book.proofs.book.Book.put_reserved.Goals as goal

pub unreachable-requires : goal.unreachable-requires
unreachable-requires c =
    false≢true (ap is_some (c.in_default.ensures.place ∙ room_seen c.self.inside c.self.invariant c.args.self.now (extent_of c.args.info.now) c.self.view_is) ∙ c.requires.room)

pub reserve-requires : goal.reserve-requires
reserve-requires c = ap (λ (b : BookView). reservation_at b.reservations c.args.r) c.self.view_is ∙ c.requires.empty

-- the bytes of the arena after that
abbrev bytes_after : goal.After-self-1 → List ℕ
bytes_after c =
    let part = put_mid c.in-Some.place (c.in-Some.place + c.info_len.result - c.in-Some.place) c.deref_mut.result.now c.write_product.new.room in
    take c.self.inside.arena.len (part ++ drop (length part) c.self.inside.arena.items)

-- they are the bytes of before with the metadata
are_written : (c : goal.After-self-1) → bytes_after c ≡ written c.self.inside.arena.items (spelling c.args.info.now) c.in-Some.place
are_written c =
    let items = c.self.inside.arena.items in
    let n = c.in-Some.place + c.info_len.result - c.in-Some.place in
    let long = length-spelling c.args.info.now c.write_product.ensures.fits.signature in
    (λ i. (let part = put_mid c.in-Some.place n (c.deref_mut.ensures.value i) c.write_product.new.room in take c.self.inside.arena.len (part ++ drop (length part) items)))
    ∙ items_written items c.write_product.new.room (spelling c.args.info.now) c.self.inside.arena.len c.in-Some.place n c.self.inside.arena.ok.0
    (c.write_product.ensures.written ∙ append-nil (spelling c.args.info.now))
    (omega (arith, long, c.info_len.ensures.value))
    (omega (arith, long, c.info_len.ensures.value, c.in-Some.ensures.within, c.self.invariant.arena, c.self.inside.arena.ok.0))

-- the region lies apart from all others
lie : (c : goal.After-self-1) → LieApart c.self.inside.arena.len (occupied (reserved_at (view_of c.self.inside) c.args.actor c.args.r c.args.info.now c.in-Some.place))
lie c =
    subst (λ (a : ℕ). LieApart a (occupied (reserved_at (view_of c.self.inside) c.args.actor c.args.r c.args.info.now c.in-Some.place))) (sym c.self.invariant.arena)
    (subst (λ (q : ProductsView). LieApart q.arena (occupied_in q)) c.in-Some.ensures.reserved c.in-Some.ensures.apart)

inside_arena : (c : goal.After-self-1) → c.in-Some.place + extent_of c.args.info.now ≤ length c.self.inside.arena.items
inside_arena c = omega (arith, c.in-Some.ensures.within, c.self.invariant.arena, c.self.inside.arena.ok.0)

pub invariant_of-self : goal.invariant_of-self
invariant_of-self c =
    let inside = c.self.inside in
    let kept = c.self.invariant in
    let p = inside.products in
    let items = inside.arena.items in
    let info = c.args.info.now in
    let place = c.in-Some.place in
    let after = c.in-Some.ensures.reserved in
    let rows = ap (λ (q : ProductsView). q.rows) after in
    let book = view_of inside in
    let fits = c.write_product.ensures.fits in
    let made : KeptReservation = new_reservation c.args.actor info place in
    let region = reserved_region made in
    let first = from book c.args.actor c.args.r info place fits (inside_arena c) c.in-Some.ensures.bound (lie c) in
    let last = to book c.args.actor c.args.r info place fits (inside_arena c) c.in-Some.ensures.bound (lie c) in
    let long = within book c.args.actor c.args.r info place fits (inside_arena c) c.in-Some.ensures.bound (lie c) in
    let placed = room_eights p items (extent_of info) place (omega arith) kept.stored kept.reserved (sym c.in-Some.ensures.place) in
    let stored =
    metadata_still items (spelling info) place region first last long p.rows (reserve-rows book c.args.actor c.args.r info place fits (inside_arena c) c.in-Some.ensures.bound (lie c)) kept.stored in
    let reserved =
    reserved_others items (spelling info) place region first last long made (reserved-new items c.args.actor info place fits (inside_arena c) placed) p.reservations c.args.r
    (reserve-others book c.args.actor c.args.r info place fits (inside_arena c) c.in-Some.ensures.bound (lie c)) kept.reserved in
    record {
      arena = kept.arena ∙ sym (ap (λ (q : ProductsView). q.arena) after);
      timed = subst (λ (ks : List Kept). IsTimed inside.last inside.admitted ks) (sym rows) kept.timed;
      rising = subst (λ (ks : List Kept). AreRising ks) (sym rows) kept.rising;
      apart = c.in-Some.ensures.apart;
      arena_small = kept.arena_small;
      good_arena = kept.good_arena;
      slots_small = omega (arith, kept.slots_small, ap (λ (q : ProductsView). q.slots) after);
      some_slot = omega (arith, kept.some_slot, ap (λ (q : ProductsView). q.slots) after);
      admitted_small = kept.admitted_small;
      few = omega (arith, ap (λ (ks : List Kept). length ks) rows, kept.few);
      readers = subst (λ (ks : List Kept). AreReading inside.admitted ks inside.cursors) (sym rows) kept.readers;
      stored =
          subst (λ (bs : List ℕ). HaveMetadata bs c.reserve.new.self.rows) (sym (are_written c)) (subst (λ (ks : List Kept). HaveMetadata (written items (spelling info) place) ks) (sym rows) stored);
      reserved =
          subst (λ (bs : List ℕ). AreReserved bs c.reserve.new.self.reservations) (sym (are_written c))
          (subst (λ (q : ProductsView). AreReserved (written items (spelling info) place) q.reservations) (sym after) reserved);
    }

pub returns-clause-put : goal.returns-clause-put
returns-clause-put c =
    let inside = c.self.inside in
    let after = c.in-Some.ensures.reserved in
    let now : BookView = record {
      arena = inside.arena.len;
      bytes = bytes_after c;
      slots = c.reserve.new.self.slots;
      admitted = inside.admitted;
      last = inside.last;
      rows = c.reserve.new.self.rows;
      cursors = inside.cursors;
      reservations = c.reserve.new.self.reservations;
    } in
    subst (λ (b : BookView). Reserves c.args.actor c.args.r c.args.info.now b now) c.self.view_is
    (record {
      bound = c.in-Some.ensures.bound;
      place = c.in-Some.place;
      room = sym (c.in-Some.ensures.place ∙ room_seen inside c.self.invariant (view_of inside) (extent_of c.args.info.now) refl);
      within = omega (arith, c.in-Some.ensures.within, c.self.invariant.arena);
      sized = sym inside.arena.ok.0;
      new_is = λ i. record {
        arena = inside.arena.len;
        bytes = are_written c i;
        slots = (after i).slots;
        admitted = inside.admitted;
        last = inside.last;
        rows = (after i).rows;
        cursors = inside.cursors;
        reservations = (after i).reservations;
      };
    })

pub returns-clause-apart : goal.returns-clause-apart
returns-clause-apart c =
    subst (λ (a : ℕ). LieApart a (occupied_in c.reserve.new.self)) (sym ((invariant_of-self c).arena)) c.in-Some.ensures.apart
