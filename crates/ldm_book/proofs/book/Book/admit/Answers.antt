use Rattle.std.proofs.Common.{◌≡◌, ◌∙◌, ◌+◌, ℕ, List, [], ◌∷◌, Some, length, refl, sym, ap, subst, arith}
use Rattle.std.proofs.lemmas.List.{length-append}
use Rattle.ldm_book.specs.View.{BookView, Kept}
use Rattle.ldm_book.specs.Making.{IsTimely, with_committed}
use Rattle.ldm_book.specs.Products.{AreRising, LieApart, ProductsView, committed, occupied_in, reservation_at}
use Rattle.ldm_book.specs.Readers.{AreReading}
use Rattle.ldm_book.specs.Sound.{IsTimed}
use Rattle.ldm_book.specs.Stored.{AreReserved, HasMetadata, HaveMetadata}
use Rattle.ldm_book.specs.Lookup.{kept_with}
use Rattle.ldm_book.proofs.EveryLemmas.{every_push}
use Rattle.ldm_book.proofs.FreeLemmas.{rising_push}
use Rattle.ldm_book.proofs.IsTimedLemmas.{timed_below, timed_later, timed_push}
use Rattle.ldm_book.proofs.ReadingLemmas.{reading-push}
use Rattle.ldm_book.proofs.StoredLemmas.{reserved_ended, reserved_one_at}
use Rattle.ldm_book.proofs.book.Book.admit.Goals as goal

pub commit-requires-clause-some : goal.commit-requires-clause-some
commit-requires-clause-some c =
    let v = c.requires.some.0 in (
      v,
      ap (λ (b : BookView). reservation_at b.reservations c.args.r) c.self.view_is ∙ c.requires.some.1,
      ap (λ (b : BookView). kept_with v.product.signature b.rows) c.self.view_is
          ∙ c.requires.some.2,
    )

pub commit-requires-clause-later : goal.commit-requires-clause-later
commit-requires-clause-later c =
    let inside = c.self.inside in
    timed_later inside.last inside.admitted c.args.time inside.products.rows c.self.invariant.timed (subst (λ (b : BookView). IsTimely b.last c.args.time) (sym c.self.view_is) c.requires.timely)

pub invariant_of-self : goal.invariant_of-self
invariant_of-self c =
    let inside = c.self.inside in
    let kept = c.self.invariant in
    let p = inside.products in
    let items = inside.arena.items in
    let v = c.requires.some.0 in
    let at : reservation_at p.reservations c.args.r ≡ Some v = ap (λ (b : BookView). reservation_at b.reservations c.args.r) c.self.view_is ∙ c.requires.some.1 in
    let new = committed inside.admitted c.args.time v in
    let after = c.commit.ensures.committed v at in
    let rows = ap (λ (q : ProductsView). q.rows) after in
    let timed = timed_push inside.last inside.admitted c.args.time p.rows new kept.timed (subst (λ (b : BookView). IsTimely b.last c.args.time) (sym c.self.view_is) c.requires.timely) refl refl in
    let here = (reserved_one_at items p.reservations c.args.r v at kept.reserved).metadata in
    let has : HasMetadata items new = record { info = here.info; at = here.at; same = ap (λ (k : Kept). record k { number = inside.admitted; time = c.args.time }) here.same; placed = here.placed } in
    record {
      arena = kept.arena ∙ sym (ap (λ (q : ProductsView). q.arena) after);
      timed = subst (λ (ks : List Kept). IsTimed (Some c.args.time) (inside.admitted + 1) ks) (sym rows) timed;
      rising = subst (λ (ks : List Kept). AreRising ks) (sym rows) (rising_push p.rows new kept.rising (timed_below inside.last inside.admitted p.rows kept.timed));
      apart = c.commit.ensures.apart;
      arena_small = kept.arena_small;
      good_arena = kept.good_arena;
      slots_small = omega (arith, kept.slots_small, ap (λ (q : ProductsView). q.slots) after);
      some_slot = omega (arith, kept.some_slot, ap (λ (q : ProductsView). q.slots) after);
      admitted_small = omega (arith, timed.0, c.requires.instant);
      few = omega (arith, ap (λ (ks : List Kept). length ks) rows, length-append p.rows (new ∷ []), kept.few);
      readers = subst (λ (ks : List Kept). AreReading (inside.admitted + 1) ks inside.cursors) (sym rows) (reading-push inside.admitted p.rows new inside.cursors kept.readers);
      stored = subst (λ (ks : List Kept). HaveMetadata items ks) (sym rows) (every_push (HasMetadata items) p.rows new kept.stored has);
      reserved = subst (λ (q : ProductsView). AreReserved items q.reservations) (sym after) (reserved_ended items p.reservations c.args.r kept.reserved);
    }

pub returns-clause-committed : goal.returns-clause-committed
returns-clause-committed c = λ v there.
    let inside = c.self.inside in
    let p = inside.products in
    let at : reservation_at p.reservations c.args.r ≡ Some v = ap (λ (b : BookView). reservation_at b.reservations c.args.r) c.self.view_is ∙ there in
    let after = c.commit.ensures.committed v at in
    (λ i. record {
      arena = inside.arena.len;
      bytes = inside.arena.items;
      slots = (after i).slots;
      admitted = inside.admitted + 1;
      last = Some c.args.time;
      rows = (after i).rows;
      cursors = inside.cursors;
      reservations = (after i).reservations;
    })
    ∙ ap (λ (b : BookView). with_committed b c.args.r c.args.time v) c.self.view_is

pub returns-clause-apart : goal.returns-clause-apart
returns-clause-apart c =
    subst (λ (a : ℕ). LieApart a (occupied_in c.commit.new.self)) (sym ((invariant_of-self c).arena)) c.commit.ensures.apart
