use Rattle.std.proofs.Common.{◌∙◌, ℕ, List, length, None, sym, ap, subst, arith}
use Rattle.std.specs.Option.{IsSome}
use Rattle.ldm_book.specs.View.{BookView, Kept}
use Rattle.ldm_book.specs.Making.{reserving}
use Rattle.ldm_book.specs.Products.{AreRising, LieApart, ProductsView, occupied_in, reservation_at}
use Rattle.ldm_book.specs.Readers.{AreReading}
use Rattle.ldm_book.specs.Sound.{IsTimed}
use Rattle.ldm_book.specs.Stored.{AreReserved, HaveMetadata}
use Rattle.ldm_book.proofs.StoredLemmas.{reserved_ended}
use Rattle.ldm_book.proofs.book.Book.end.Goals as goal

pub discard-requires : goal.discard-requires
discard-requires c = subst (λ (b : BookView). IsSome (reservation_at b.reservations c.args.r)) (sym c.self.view_is) c.requires

pub invariant_of-self : goal.invariant_of-self
invariant_of-self c =
    let inside = c.self.inside in
    let kept = c.self.invariant in
    let p = inside.products in
    let after = c.discard.ensures.discarded in
    let rows = ap (λ (q : ProductsView). q.rows) after in
    record {
      arena = kept.arena ∙ sym (ap (λ (q : ProductsView). q.arena) after);
      timed = subst (λ (ks : List Kept). IsTimed inside.last inside.admitted ks) (sym rows) kept.timed;
      rising = subst (λ (ks : List Kept). AreRising ks) (sym rows) kept.rising;
      apart = c.discard.ensures.apart;
      arena_small = kept.arena_small;
      good_arena = kept.good_arena;
      slots_small = omega (arith, kept.slots_small, ap (λ (q : ProductsView). q.slots) after);
      some_slot = omega (arith, kept.some_slot, ap (λ (q : ProductsView). q.slots) after);
      admitted_small = kept.admitted_small;
      few = omega (arith, ap (λ (ks : List Kept). length ks) rows, kept.few);
      readers = subst (λ (ks : List Kept). AreReading inside.admitted ks inside.cursors) (sym rows) kept.readers;
      stored = subst (λ (ks : List Kept). HaveMetadata inside.arena.items ks) (sym rows) kept.stored;
      reserved = subst (λ (q : ProductsView). AreReserved inside.arena.items q.reservations) (sym after) (reserved_ended inside.arena.items p.reservations c.args.r kept.reserved);
    }

pub returns-clause-ended : goal.returns-clause-ended
returns-clause-ended c =
    let inside = c.self.inside in
    let after = c.discard.ensures.discarded in
    (λ i. record {
      arena = inside.arena.len;
      bytes = inside.arena.items;
      slots = (after i).slots;
      admitted = inside.admitted;
      last = inside.last;
      rows = (after i).rows;
      cursors = inside.cursors;
      reservations = (after i).reservations;
    })
    ∙ ap (λ (b : BookView). reserving b c.args.r None) c.self.view_is

pub returns-clause-apart : goal.returns-clause-apart
returns-clause-apart c =
    subst (λ (a : ℕ). LieApart a (occupied_in c.discard.new.self)) (sym ((invariant_of-self c).arena)) c.discard.ensures.apart
