use Rattle.std.proofs.Common.{◌∙◌, List, sym, ap, subst, arith, rules, length}
use Rattle.std.specs.List.{list_any}
use Rattle.std.specs.Prelude.{filter}
use Rattle.ldm_types.specs.Cursors.{Places}
use Rattle.ldm_cursor.specs.Places.{is_held}
use Rattle.ldm_book.specs.View.{BookView, Kept, Reservations}
use Rattle.ldm_book.specs.Products.{AreRising, ProductsView, has_number, is_other}
use Rattle.ldm_book.specs.Readers.{AreReading}
use Rattle.ldm_book.specs.Sound.{IsTimed}
use Rattle.ldm_book.specs.Stored.{AreReserved, HasMetadata, HaveMetadata}
use Rattle.ldm_book.proofs.EveryLemmas.{every_filter}
use Rattle.ldm_book.proofs.FreeLemmas.{rising_left}
use Rattle.ldm_book.proofs.IsTimedLemmas.{timed_below, timed_filter}
use Rattle.ldm_book.proofs.ReadingLemmas.{reading-loss, fewer_left, any_of, found_any}
use Rattle.ldm_book.proofs.book.Book.evict.Goals as goal

pub unreachable-requires : goal.unreachable-requires
unreachable-requires c =
    found_any c.args.n c.self.inside.products.rows (ap (λ (b : BookView). list_any (has_number c.args.n) b.rows) c.self.view_is ∙ c.requires.queued) (sym c.in_default.ensures.first)

pub invariant_of-self : goal.invariant_of-self
invariant_of-self c =
    let inside = c.self.inside in
    let there = ap (λ (b : BookView). list_any (has_number c.args.n) b.rows) c.self.view_is ∙ c.requires.queued in
    let free = ap (λ (b : BookView). is_held c.args.n b.cursors) c.self.view_is ∙ c.requires.free in
    let rows = ap (λ (p : ProductsView). p.rows) c.take_out.ensures.left in
    record {
      arena = search rules;
      timed = subst (λ (ks : List Kept). IsTimed inside.last inside.admitted ks) (sym rows) (timed_filter (is_other c.args.n) inside.last inside.admitted inside.products.rows c.self.invariant.timed);
      rising = subst (λ (ks : List Kept). AreRising ks) (sym rows) (rising_left (is_other c.args.n) inside.products.rows c.self.invariant.rising);
      apart = search rules;
      arena_small = search rules;
      good_arena = c.self.invariant.good_arena;
      slots_small = search rules;
      some_slot = search rules;
      admitted_small = c.self.invariant.admitted_small;
      few = omega (arith, ap (λ (ks : List Kept). length ks) rows, fewer_left c.args.n inside.products.rows there, c.self.invariant.few);
      readers =
          subst (λ (ks : List Kept). AreReading inside.admitted ks c.lose.new.self) (sym rows)
          (subst (λ (cs : Places). AreReading inside.admitted (filter (is_other c.args.n) inside.products.rows) cs) (sym c.lose.ensures.lost)
          (reading-loss inside.admitted c.args.n c.in-Some.row.now.feed.0 inside.products.rows there inside.cursors free c.self.invariant.readers));
      stored =
          subst (λ (ks : List Kept). HaveMetadata inside.arena.items ks) (sym rows) (every_filter (HasMetadata inside.arena.items) (is_other c.args.n) inside.products.rows c.self.invariant.stored);
      reserved = subst (λ (rs : Reservations). AreReserved inside.arena.items rs) (sym (ap (λ (p : ProductsView). p.reservations) c.take_out.ensures.left)) c.self.invariant.reserved;
    }

pub take_out-requires : goal.take_out-requires
take_out-requires c = any_of c.args.n c.self.inside.products.rows (ap (λ (b : BookView). list_any (has_number c.args.n) b.rows) c.self.view_is ∙ c.requires.queued)

pub lose-requires-clause-number : goal.lose-requires-clause-number
lose-requires-clause-number c =
    let inside = c.self.inside in
    let there = any_of c.args.n inside.products.rows (ap (λ (b : BookView). list_any (has_number c.args.n) b.rows) c.self.view_is ∙ c.requires.queued) in
    let below = timed_below inside.last inside.admitted inside.products.rows c.self.invariant.timed there.0 there.1 there.2 in
    let same = ap (λ (k : Kept). k.number) there.3 in
    omega (arith, below, same, there.4, c.self.invariant.admitted_small)
