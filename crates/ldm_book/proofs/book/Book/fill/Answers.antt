use Rattle.std.proofs.Common.{◌≡◌, ◌∙◌, ◌+◌, ◌-◌, ◌≤◌, ◌++◌, ℕ, List, Some, length, map, set, take, drop, refl, sym, ap, subst, arith}
use borrow.Rule.Slice.PartMut.{put_mid}
use Rattle.std.specs.List.{Contains}
use Rattle.ldm_types.specs.Arena.{Region}
use Rattle.ldm_model.specs.declared.event.Reply.TheVariants as reply
use Rattle.ldm_model.specs.Fill.{fill as fill_of}
use Rattle.ldm_book.specs.View.{BookView, Kept, KeptReservation, stored_bytes}
use Rattle.ldm_book.specs.Making.{reserving, written}
use Rattle.ldm_book.specs.Products.{AreRising, LieApart, ProductsView, kept_region, occupied_in, reservation_at, reserved_region, with_more}
use Rattle.ldm_book.specs.Readers.{AreReading, occupied}
use Rattle.ldm_book.specs.Reserved.{kept_place, reservation_of}
use Rattle.ldm_book.specs.Sound.{IsTimed, view_of}
use Rattle.ldm_book.specs.Stored.{AreReserved, HaveMetadata}
use Rattle.ldm_book.specs.Answers.{Follows, KeepsReserved}
use Rattle.ldm_book.proofs.BookLemmas.{sound_apart, sound_reserved}
use Rattle.ldm_book.proofs.FillLemmas.{fill-from, fill-keeps, fill-none, fill-others, fill-over, fill-reserved, fill-rows, fill-some, fill-stays, fill-to, fill-within}
use Rattle.ldm_book.proofs.OpenPlacesLemmas.{regions-filled}
use Rattle.ldm_book.proofs.ReservingLemmas.{at_own}
use Rattle.ldm_book.proofs.StoredLemmas.{items_written, metadata_still, reserved_one_at, reserved_others}
use Rattle.ldm_book.proofs.book.Book.fill.Goals as goal

pub returns-in_default-clause-answers : goal.returns-in_default-clause-answers
returns-in_default-clause-answers c = λ s stands. fill-none c.args.self.now s stands c.args.actor c.args.r c.args.bytes.now c.in_default.ensures.own

pub returns-then-bytes-left-clause-answers : goal.returns-then-bytes-left-clause-answers
returns-then-bytes-left-clause-answers c = λ s stands.
    fill-over c.args.self.now s stands c.args.actor c.args.r c.args.bytes.now (reservation_of (kept_place c.in-Some.place)) c.in-Some.ensures.own c.if-bytes-left.true

pub fill-requires : goal.fill-requires
fill-requires c =
    let v = reservation_of (kept_place c.in-Some.place) in
    let at = at_own c.args.actor (reservation_at c.args.self.now.reservations c.args.r) v c.in-Some.ensures.own in
    (v, ap (λ (b : BookView). reservation_at b.reservations c.args.r) c.self.view_is ∙ at, omega (arith, c.in-Some.ensures.part, c.if-bytes-left.false))

-- the reservation before
abbrev before : goal.After-fill → KeptReservation
before c = reservation_of (kept_place c.in-Some.place)

abbrev count : goal.After-fill → ℕ
count c = length c.args.bytes.now

abbrev start : goal.After-fill → ℕ
start c = c.in-Some.place.row.place + c.in-Some.place.row.head + c.in-Some.place.filled

at : (c : goal.After-fill) → reservation_at c.args.self.now.reservations c.args.r ≡ Some (before c)
at c = at_own c.args.actor (reservation_at c.args.self.now.reservations c.args.r) (before c) c.in-Some.ensures.own

at_inside : (c : goal.After-fill) → reservation_at c.self.inside.products.reservations c.args.r ≡ Some (before c)
at_inside c = ap (λ (b : BookView). reservation_at b.reservations c.args.r) c.self.view_is ∙ at c

left : (c : goal.After-fill) → (before c).filled + count c ≤ (before c).product.size
left c = omega (arith, c.in-Some.ensures.part, c.if-bytes-left.false)

sized : (c : goal.After-fill) → length c.self.inside.arena.items ≡ c.self.inside.arena.len
sized c = sym c.self.inside.arena.ok.0

apart : (c : goal.After-fill)
    → LieApart (view_of c.self.inside).arena (occupied (view_of c.self.inside))
apart c = sound_apart c.self.inside c.self.invariant (view_of c.self.inside) refl

long : (c : goal.After-fill) → start c + count c ≤ length c.self.inside.arena.items
long c = fill-within (view_of c.self.inside) c.args.r (before c) c.args.bytes.now (at_inside c) (left c) (sized c) (apart c)

-- the bytes of the arena after that
abbrev bytes_after : goal.After-fill → List ℕ
bytes_after c =
    let part = put_mid (start c) (start c + count c - start c) c.deref_mut.result.now c.copy_from_slice.new.self in
    take c.self.inside.arena.len (part ++ drop (length part) c.self.inside.arena.items)

are_written : (c : goal.After-fill) → bytes_after c ≡ written c.self.inside.arena.items c.args.bytes.now (start c)
are_written c =
    let items = c.self.inside.arena.items in
    let n = start c + count c - start c in
    (λ i. (let part = put_mid (start c) n (c.deref_mut.ensures.value i) c.copy_from_slice.new.self in take c.self.inside.arena.len (part ++ drop (length part) items)))
    ∙ items_written items c.copy_from_slice.new.self c.args.bytes.now c.self.inside.arena.len (start c) n c.self.inside.arena.ok.0 c.copy_from_slice.ensures.after
    (omega arith) (omega (arith, long c))

-- the products after that
filled : (c : goal.After-fill) → c.fill.new.self ≡ record c.self.inside.products { reservations = set c.self.inside.products.reservations c.args.r (Some (with_more (count c) (before c))) }
filled c = c.fill.ensures (before c) (at_inside c)

pub invariant_of-self : goal.invariant_of-self
invariant_of-self c =
    let inside = c.self.inside in
    let kept = c.self.invariant in
    let p = inside.products in
    let items = inside.arena.items in
    let bytes = c.args.bytes.now in
    let v = before c in
    let book = view_of inside in
    let after = filled c in
    let rows = ap (λ (q : ProductsView). q.rows) after in
    let new = with_more (count c) v in
    let first = fill-from book c.args.r v bytes (at_inside c) (left c) (sized c) (apart c) in
    let last = fill-to book c.args.r v bytes (at_inside c) (left c) (sized c) (apart c) in
    let stored = metadata_still items bytes (start c) (reserved_region v) first last (long c) p.rows (fill-rows book c.args.r v bytes (at_inside c) (left c) (sized c) (apart c)) kept.stored in
    let is = fill-reserved book c.args.r v bytes (at_inside c) (left c) (sized c) (apart c) (reserved_one_at items p.reservations c.args.r v (at_inside c) kept.reserved) in
    let reserved =
    reserved_others items bytes (start c) (reserved_region v) first last (long c) new is p.reservations c.args.r
    (fill-others book c.args.r v bytes (at_inside c) (left c) (sized c) (apart c)) kept.reserved in
    let regions = ap (λ (rs : List Region). map kept_region p.rows ++ rs) (regions-filled v p.reservations c.args.r (v.filled + count c) (at_inside c)) in
    record {
      arena = kept.arena ∙ sym (ap (λ (q : ProductsView). q.arena) after);
      timed = subst (λ (ks : List Kept). IsTimed inside.last inside.admitted ks) (sym rows) kept.timed;
      rising = subst (λ (ks : List Kept). AreRising ks) (sym rows) kept.rising;
      apart = subst (λ (q : ProductsView). LieApart q.arena (occupied_in q)) (sym after) (subst (λ (rs : List Region). LieApart p.arena rs) (sym regions) kept.apart);
      arena_small = kept.arena_small;
      good_arena = kept.good_arena;
      slots_small = omega (arith, kept.slots_small, ap (λ (q : ProductsView). q.slots) after);
      some_slot = omega (arith, kept.some_slot, ap (λ (q : ProductsView). q.slots) after);
      admitted_small = kept.admitted_small;
      few = omega (arith, ap (λ (ks : List Kept). length ks) rows, kept.few);
      readers = subst (λ (ks : List Kept). AreReading inside.admitted ks inside.cursors) (sym rows) kept.readers;
      stored = subst (λ (bs : List ℕ). HaveMetadata bs c.fill.new.self.rows) (sym (are_written c)) (subst (λ (ks : List Kept). HaveMetadata (written items bytes (start c)) ks) (sym rows) stored);
      reserved =
          subst (λ (bs : List ℕ). AreReserved bs c.fill.new.self.reservations) (sym (are_written c))
          (subst (λ (q : ProductsView). AreReserved (written items bytes (start c)) q.reservations) (sym after) reserved);
    }

-- what the book is then
abbrev now : goal.After-fill → BookView
now c = record {
  arena = c.self.inside.arena.len;
  bytes = bytes_after c;
  slots = c.fill.new.self.slots;
  admitted = c.self.inside.admitted;
  last = c.self.inside.last;
  rows = c.fill.new.self.rows;
  cursors = c.self.inside.cursors;
  reservations = c.fill.new.self.reservations;
}

abbrev then_book : goal.After-fill → BookView → BookView
then_book c b = record (reserving b c.args.r (Some (with_more (count c) (before c)))) { bytes = written b.bytes c.args.bytes.now (start c) }

is_filled : (c : goal.After-fill) → now c ≡ then_book c c.args.self.now
is_filled c =
    let after = filled c in
    (λ i. record {
      arena = c.self.inside.arena.len;
      bytes = are_written c i;
      slots = (after i).slots;
      admitted = c.self.inside.admitted;
      last = c.self.inside.last;
      rows = (after i).rows;
      cursors = c.self.inside.cursors;
      reservations = (after i).reservations;
    })
    ∙ ap (then_book c) c.self.view_is

pub returns-clause-answers : goal.returns-clause-answers
returns-clause-answers c = λ s stands.
    let v = before c in
    let rest = v.product.size - v.filled - count c in
    subst (λ (b : BookView). Follows (reply.Filled rest) b (fill_of s c.args.actor c.args.r c.args.bytes.now)) (sym (is_filled c))
    (fill-some c.args.self.now s stands c.args.actor c.args.r c.args.bytes.now v c.in-Some.ensures.own rest (left c) (omega (arith, left c)) c.in-Some.ensures.apart
    (sound_reserved c.self.inside c.self.invariant c.args.self.now c.self.view_is))

pub returns-clause-products : goal.returns-clause-products
returns-clause-products c = is_filled c ∙ ap (λ (b : BookView). record c.args.self.now { bytes = b.bytes; reservations = b.reservations }) (sym (is_filled c))

pub returns-clause-places : goal.returns-clause-places
returns-clause-places c = λ k in_new below.
    let there : Contains c.args.self.now.rows k = subst (λ (b : BookView). Contains b.rows k) (is_filled c) in_new in
    record {
      queued = there;
      bytes =
          ap (λ (b : BookView). stored_bytes b.bytes k) (is_filled c)
          ∙ fill-stays c.args.self.now c.args.r (before c) c.args.bytes.now (at c) (left c) c.in-Some.ensures.small c.in-Some.ensures.apart k there;
    }

pub returns-clause-reserved : goal.returns-clause-reserved
returns-clause-reserved c =
    subst (λ (b : BookView). KeepsReserved c.args.self.now b) (sym (is_filled c))
    (fill-keeps c.args.self.now c.args.r (before c) c.args.bytes.now (at c) (left c) c.in-Some.ensures.small c.in-Some.ensures.apart
    (sound_reserved c.self.inside c.self.invariant c.args.self.now c.self.view_is))

pub returns-clause-apart : goal.returns-clause-apart
returns-clause-apart c = sound_apart _ (invariant_of-self c) (now c) refl
