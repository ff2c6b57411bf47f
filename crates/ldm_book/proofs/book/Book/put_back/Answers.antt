use Rattle.std.proofs.Common.{◌≡◌, ◌∙◌, ℕ, ◌+◌, ◌<◌, ◌≤◌, List, [], ◌∷◌, ◌++◌, length, refl, sym, ap, subst, arith}
use Rattle.std.proofs.lemmas.Bool.{false≢true}
use Rattle.std.specs.List.{All}
use Rattle.ldm_types.specs.Info.{Metadata}
use Rattle.ldm_book.specs.declared.restoring.RowNote.{RowNote}
use Rattle.ldm_book.specs.View.{BookView, Kept, kept_of}
use Rattle.ldm_book.specs.Products.{ProductsView}
use Rattle.ldm_book.specs.Readers.{products}
use Rattle.ldm_book.specs.Restoring.{IsGoodNumber, IsGoodTime, IsPlaceable, IsSoFar, IsWholeAt, backup_with, note_at}
use Rattle.ldm_book.specs.Stored.{AreReserved}
use Rattle.ldm_book.proofs.BookLemmas.{same_products}
use Rattle.ldm_book.proofs.RestoringLemmas.{at_any, comes_later, few_admitted, good_from, none_reads, placeable_from, pushed}
use Rattle.ldm_book.proofs.book.Book.put_back.Goals as goal
use Rattle.ldm_book.proofs.book.Book.put_back.Goals.{After-whole_at}

here_is : (c : After-whole_at) → c.index-rows-i.result ≡ note_at c.args.rows.now c.args.i
here_is c =
    let none : RowNote = record { n = 0; time = 0; place = 0 } in
    c.index-rows-i.is ∙ at_any c.args.rows.now c.args.i c.index-rows-i.result none c.requires.inside

inside : (c : After-whole_at) → c.args.i ≤ length c.args.rows.now
inside c = omega (arith, c.requires.inside)

few : (c : After-whole_at) → c.args.i < c.args.self.now.slots
few c = omega (arith, c.if-i-slots.false, c.slots.ensures.slots, ap (λ (b : BookView). b.slots) c.self.view_is)

number : (c : After-whole_at) → IsGoodNumber (backup_with c.args.self.now c.args.rows.now) c.args.i
number c = c.is_good_number.ensures.0 c.if-not-is_good_number.false

time : (c : After-whole_at) → IsGoodTime (backup_with c.args.self.now c.args.rows.now) c.args.i
time c = c.is_good_time.ensures.0 c.if-not-is_good_time.false

-- the metadata, as they stand at the place that is noted
whole_here : (c : After-whole_at) (info : Metadata) → IsWholeAt c.deref.result.now c.index-rows-i.result.place info → IsWholeAt c.args.self.now.bytes (note_at c.args.rows.now c.args.i).place info
whole_here c info whole =
    subst (λ (x : RowNote). IsWholeAt c.args.self.now.bytes x.place info) (here_is c)
    (subst (λ (bs : List ℕ). IsWholeAt bs c.index-rows-i.result.place info) (c.deref.ensures.value ∙ ap (λ (b : BookView). b.bytes) c.self.view_is) whole)

-- the products that the book keeps
seen : (c : After-whole_at) → products c.args.self.now ≡ c.self.inside.products
seen c = sym (ap products c.self.view_is) ∙ same_products c.self.inside c.self.invariant

placeable_here : (c : After-whole_at) (info : Metadata)
    → IsPlaceable c.self.inside.products (kept_of c.index-rows-i.result.n c.index-rows-i.result.time c.index-rows-i.result.place info)
    → IsPlaceable (products c.args.self.now) (kept_of (note_at c.args.rows.now c.args.i).n (note_at c.args.rows.now c.args.i).time (note_at c.args.rows.now c.args.i).place info)
placeable_here c info is =
    subst (λ (x : RowNote). IsPlaceable (products c.args.self.now) (kept_of x.n x.time x.place info)) (here_is c)
    (subst (λ (p : ProductsView). IsPlaceable p (kept_of c.index-rows-i.result.n c.index-rows-i.result.time c.index-rows-i.result.place info)) (sym (seen c)) is)

pub put_at-requires-clause-later : goal.put_at-requires-clause-later
put_at-requires-clause-later c =
    let at = (goal.at.put_at-requires-clause-later c).After-whole_at in
    let book = c.args.self.now in
    let later = comes_later book c.args.rows.now c.args.i c.requires.sofar (inside at) (number at) (time at) in
    subst (λ (b : BookView). All (λ (k : Kept). (k.number < c.index-rows-i.result.n) × (k.time < c.index-rows-i.result.time)) b.rows) (sym c.self.view_is)
    (subst (λ (x : RowNote). All (λ (k : Kept). (k.number < x.n) × (k.time < x.time)) book.rows) (sym (here_is at)) later)

pub returns-then-not-put_at-clause-fault : goal.returns-then-not-put_at-clause-fault
returns-then-not-put_at-clause-fault c =
    let at = (goal.at.returns-then-not-put_at-clause-fault c).After-whole_at in
    let info = c.in-Some.info in
    let whole = whole_here at info c.in-Some.ensures.found in (
      few at,
      number at,
      time at,
      λ good.
          let is = placeable_from c.args.self.now c.args.rows.now c.args.i c.requires.sofar (inside at) info whole good in
          let there : IsPlaceable c.self.inside.products (kept_of c.index-rows-i.result.n c.index-rows-i.result.time c.index-rows-i.result.place info) =
          subst (λ (p : ProductsView). IsPlaceable p (kept_of c.index-rows-i.result.n c.index-rows-i.result.time c.index-rows-i.result.place info)) (seen at)
          (subst (λ (x : RowNote). IsPlaceable (products c.args.self.now) (kept_of x.n x.time x.place info)) (sym (here_is at)) is) in
          false≢true (c.if-not-put_at.ensures.placeable.1 there),
    )

pub returns-clause-good : goal.returns-clause-good
returns-clause-good c =
    let at = (goal.at.returns-clause-good c).After-whole_at in
    let info = c.in-Some.info in
    let whole = whole_here at info c.in-Some.ensures.found in
    let is = placeable_here at info (c.if-not-put_at.ensures.placeable.0 refl) in
    record {
      few = few at;
      number = number at;
      time = time at;
      place = good_from c.args.self.now c.args.rows.now c.args.i c.requires.sofar (inside at) info whole is;
    }

pub returns-clause-sofar : goal.returns-clause-sofar
returns-clause-sofar c =
    let at = (goal.at.returns-clause-sofar c).After-whole_at in
    let book = c.args.self.now in
    let info = c.in-Some.info in
    let row = c.index-rows-i.result in
    let whole = whole_here at info c.in-Some.ensures.found in
    let is = placeable_here at info (c.if-not-put_at.ensures.placeable.0 refl) in
    let after = c.if-not-put_at.ensures.rows in
    let more = pushed book c.args.rows.now c.args.i c.requires.sofar (inside at) info c.requires.inside (few at) (number at) (time at) whole is in
    subst (IsSoFar c.args.rows.now (c.args.i + 1))
    (sym
    ((λ j. record {
      arena = c.self.inside.arena.len;
      bytes = c.self.inside.arena.items;
      slots = (after j).slots;
      admitted = c.self.inside.admitted;
      last = c.self.inside.last;
      rows = (after j).rows;
      cursors = c.self.inside.cursors;
      reservations = (after j).reservations;
    })
    ∙ ap (λ (b : BookView). record b { rows = b.rows ++ kept_of row.n row.time row.place info ∷ [] }) c.self.view_is
    ∙ ap (λ (x : RowNote). record book { rows = book.rows ++ kept_of x.n x.time x.place info ∷ [] }) (here_is at)))
    more

pub invariant_of-self-2 : goal.invariant_of-self-2
invariant_of-self-2 c =
    let inside = c.self.inside in
    let kept = c.self.invariant in
    let after = c.if-not-put_at.ensures.rows in
    let new = (returns-clause-sofar c).restorable in
    record {
      arena = kept.arena ∙ sym (ap (λ (q : ProductsView). q.arena) after);
      timed = new.timed;
      rising = new.rising;
      apart = c.if-not-put_at.ensures.apart;
      arena_small = kept.arena_small;
      good_arena = kept.good_arena;
      slots_small = omega (arith, kept.slots_small, ap (λ (q : ProductsView). q.slots) after);
      some_slot = omega (arith, kept.some_slot, ap (λ (q : ProductsView). q.slots) after);
      admitted_small = kept.admitted_small;
      few = few_admitted inside.last inside.admitted c.put_at.new.self.rows new.timed new.rising;
      readers = none_reads inside.admitted c.put_at.new.self.rows inside.cursors new.no_cursor;
      stored = new.stored;
      reserved = subst (λ (q : ProductsView). AreReserved inside.arena.items q.reservations) (sym after) kept.reserved;
    }
