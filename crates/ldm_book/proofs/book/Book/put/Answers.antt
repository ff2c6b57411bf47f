use Rattle.std.proofs.Common.{◌≡◌, ◌∙◌, ℕ, ◌+◌, ◌-◌, ◌≤◌, ◌++◌, List, [], ◌∷◌, drop, take, Some, refl, sym, ap, subst, arith, rules, length}
use borrow.Rule.Slice.PartMut.{put_mid}
use Rattle.std.specs.Prelude.{is_some}
use Rattle.std.proofs.lemmas.Bool.{false≢true}
use Rattle.std.proofs.lemmas.List.{length-append}
use Rattle.ldm_types.specs.Info.{metadata_len}
use Rattle.ldm_model.specs.Product.{Product, extent_of}
use Rattle.ldm_book.specs.View.{BookView, Kept, Reservations, kept_of}
use Rattle.ldm_book.specs.Making.{IsTimely, Puts, grown, written}
use Rattle.ldm_book.specs.Products.{AreRising, LieApart, ProductsView, kept_region, occupied_in, room_for}
use Rattle.ldm_book.specs.Readers.{AreReading}
use Rattle.ldm_book.specs.Sound.{IsTimed, view_of}
use Rattle.ldm_book.specs.Stored.{AreReserved, HasMetadata, HaveMetadata, bytes_of}
use Rattle.ldm_book.proofs.ApartLemmas.{reserved_from_last, rows_from_last}
use Rattle.ldm_book.proofs.BookLemmas.{room_seen, same_products}
use Rattle.ldm_book.proofs.EightsLemmas.{room_eights}
use Rattle.ldm_book.proofs.EveryLemmas.{every_push}
use Rattle.ldm_book.proofs.FreeLemmas.{rising_push}
use Rattle.ldm_book.proofs.IsTimedLemmas.{timed_below, timed_push}
use Rattle.ldm_book.proofs.ReadingLemmas.{reading-push}
use Rattle.ldm_book.proofs.StoredLemmas.{items_written, length-bytes_of, metadata_new, metadata_still, reserved_still}
use Rattle.ldm_book.proofs.book.Book.put.Goals as goal

-- the product that is put in
abbrev given : goal.After-self-3-1 → Product
given c = record { info = c.args.info.now; body = c.args.body.now }

-- the bytes of the arena after that
abbrev bytes_after : goal.After-self-3-1 → List ℕ
bytes_after c =
    let part = put_mid c.in-Some.place (c.in-Some.place + c.info_len.result + length c.args.body.now - c.in-Some.place) c.deref_mut.result.now c.write_product.new.room in
    take c.self.inside.arena.len (part ++ drop (length part) c.self.inside.arena.items)

-- the product lies within the arena
within_arena : (c : goal.After-self-3-1) → c.in-Some.place + metadata_len c.args.info.now + c.args.info.now.size ≤ length c.self.inside.arena.items
within_arena c = omega (arith, c.in-Some.ensures.within, c.self.invariant.arena, c.self.inside.arena.ok.0)

-- they are the bytes of before with those of the product
are_written : (c : goal.After-self-3-1) → bytes_after c ≡ written c.self.inside.arena.items (bytes_of (given c)) c.in-Some.place
are_written c =
    let items = c.self.inside.arena.items in
    let n = c.in-Some.place + c.info_len.result + length c.args.body.now - c.in-Some.place in
    let long = length-bytes_of (given c) c.write_product.ensures.fits c.requires.size in
    (λ i. (let part = put_mid c.in-Some.place n (c.deref_mut.ensures.value i) c.write_product.new.room in take c.self.inside.arena.len (part ++ drop (length part) items)))
    ∙ items_written items c.write_product.new.room (bytes_of (given c)) c.self.inside.arena.len c.in-Some.place n c.self.inside.arena.ok.0 c.write_product.ensures.written
    (omega (arith, long, c.info_len.ensures.value, c.requires.size))
    (omega (arith, long, c.info_len.ensures.value, c.requires.size, c.in-Some.ensures.within, c.self.invariant.arena, c.self.inside.arena.ok.0))

pub invariant_of-self : goal.invariant_of-self
invariant_of-self c =
    let inside = c.self.inside in
    let new = kept_of inside.admitted c.args.time c.in-Some.place c.args.info.now in
    let rows = ap (λ (p : ProductsView). p.rows) c.in-Some.ensures.rows in
    let timed =
    timed_push inside.last inside.admitted c.args.time inside.products.rows new c.self.invariant.timed
    (subst (λ (b : BookView). IsTimely b.last c.args.time) (sym c.self.view_is) c.requires.timely) refl refl in
    let items = inside.arena.items in
    let long = length-bytes_of (given c) c.write_product.ensures.fits c.requires.size in
    let within = within_arena c in
    let placed =
    room_eights inside.products items (extent_of c.args.info.now) c.in-Some.place (omega arith) c.self.invariant.stored c.self.invariant.reserved (sym c.in-Some.ensures.place) in
    let lie = subst (λ (p : ProductsView). LieApart p.arena (occupied_in p)) c.in-Some.ensures.rows c.in-Some.ensures.apart in
    let stored =
    every_push (HasMetadata (written items (bytes_of (given c)) c.in-Some.place)) inside.products.rows new
    (metadata_still items (bytes_of (given c)) c.in-Some.place (kept_region new) (omega arith) (omega (arith, long)) (omega (arith, long, within)) inside.products.rows
    (rows_from_last inside.products.arena inside.products.rows new inside.products.reservations lie) c.self.invariant.stored)
    (metadata_new items inside.admitted c.args.time c.in-Some.place (given c) c.write_product.ensures.fits c.requires.size within placed) in
    let reserved =
    reserved_still items (bytes_of (given c)) c.in-Some.place (kept_region new) (omega arith) (omega (arith, long)) (omega (arith, long, within)) inside.products.reservations
    (reserved_from_last inside.products.arena inside.products.rows new inside.products.reservations lie) c.self.invariant.reserved in
    record {
      arena = search rules;
      timed = subst (λ (ks : List Kept). IsTimed (Some c.args.time) (inside.admitted + 1) ks) (sym rows) timed;
      rising =
          subst (λ (ks : List Kept). AreRising ks) (sym rows)
          (rising_push inside.products.rows new c.self.invariant.rising (timed_below inside.last inside.admitted inside.products.rows c.self.invariant.timed));
      apart = search rules;
      arena_small = search rules;
      good_arena = c.self.invariant.good_arena;
      slots_small = search rules;
      some_slot = search rules;
      admitted_small = omega (arith, timed.0, c.requires.instant);
      few = omega (arith, ap (λ (ks : List Kept). length ks) rows, length-append inside.products.rows (new ∷ []), c.self.invariant.few);
      readers =
          subst (λ (ks : List Kept). AreReading (inside.admitted + 1) ks inside.cursors) (sym rows) (reading-push inside.admitted inside.products.rows new inside.cursors c.self.invariant.readers);
      stored =
          subst (λ (bs : List ℕ). HaveMetadata bs c.put.new.self.rows) (sym (are_written c))
          (subst (λ (ks : List Kept). HaveMetadata (written items (bytes_of (given c)) c.in-Some.place) ks) (sym rows) stored);
      reserved =
          subst (λ (bs : List ℕ). AreReserved bs c.put.new.self.reservations) (sym (are_written c))
          (subst (λ (rs : Reservations). AreReserved (written items (bytes_of (given c)) c.in-Some.place) rs) (sym (ap (λ (p : ProductsView). p.reservations) c.in-Some.ensures.rows)) reserved);
    }

-- what the book is then
abbrev after : goal.After-self-3-1 → BookView
after c = record {
  arena = c.self.inside.arena.len;
  bytes = bytes_after c;
  slots = c.put.new.self.slots;
  admitted = c.self.inside.admitted + 1;
  last = Some c.args.time;
  rows = c.put.new.self.rows;
  cursors = c.self.inside.cursors;
  reservations = c.put.new.self.reservations;
}

is_grown : (c : goal.After-self-3-1) → after c ≡ grown (view_of c.self.inside) c.args.time c.args.info.now c.args.body.now c.in-Some.place
is_grown c =
    let rows = c.in-Some.ensures.rows in
    λ i. record {
      arena = c.self.inside.arena.len;
      bytes = are_written c i;
      slots = (rows i).slots;
      admitted = c.self.inside.admitted + 1;
      last = Some c.args.time;
      rows = (rows i).rows;
      cursors = c.self.inside.cursors;
      reservations = (rows i).reservations;
    }

pub returns-clause-put : goal.returns-clause-put
returns-clause-put c =
    let book = view_of c.self.inside in
    let need = extent_of c.args.info.now in
    subst (λ (b : BookView). Puts c.args.time c.args.info.now c.args.body.now b (after c)) c.self.view_is
    (record {
      place = c.in-Some.place;
      room = ap (λ (p : ProductsView). room_for p need) (same_products c.self.inside c.self.invariant) ∙ sym c.in-Some.ensures.place;
      within = omega (arith, c.in-Some.ensures.within, c.self.invariant.arena);
      sized = sym c.self.inside.arena.ok.0;
      new_is = is_grown c;
    })

pub unreachable-requires : goal.unreachable-requires
unreachable-requires c =
    false≢true (ap is_some (c.in_default.ensures.place ∙ room_seen c.self.inside c.self.invariant c.args.self.now (extent_of c.args.info.now) c.self.view_is) ∙ c.requires.room)
