use Rattle.std.proofs.Common.{◌≡◌, ◌∙◌, ◌<◌, ◌≤◌, ℕ, true, List, Option, Some, None, sym, ap, subst, arith}
use Rattle.std.specs.Option.{IfSome, option_map}
use Rattle.std.specs.List.{find}
use Rattle.ldm_types.specs.Cursors.{KeptCursor, Places}
use Rattle.ldm_cursor.specs.Places.{cursor_at, after_hold, after_move, numbers_of, with_change}
use Rattle.ldm_model.specs.declared.event.Reply.TheVariants as reply
use Rattle.ldm_model.specs.Step.{step}
use Rattle.ldm_book.specs.View.{BookView, Kept, kept}
use Rattle.ldm_book.specs.Sound.{view_of}
use Rattle.ldm_book.specs.Answers.{Follows}
use Rattle.ldm_book.specs.Stands.{StandsFor, kept_cursor}
use Rattle.ldm_book.specs.Products.{awaits}
use Rattle.ldm_book.proofs.CursorsLemmas.{is_cursor, no_cursor, with_cursors}
use Rattle.ldm_book.proofs.CallLemmas.{at_cursor, some_cursor, told-nothing, step-none, step-holding, step-gap, step-product, step-end}
use Rattle.ldm_book.proofs.ReadingLemmas.{reading-hold}
use Rattle.ldm_model.specs.State.{Queued}
use Rattle.ldm_book.specs.Stored.{HasMetadata, IsStored, StandsAt}
use Rattle.ldm_book.proofs.EveryLemmas.{found_of}
use Rattle.ldm_book.proofs.FoundLemmas.{lie_found}
use Rattle.ldm_book.proofs.StoredLemmas.{metadata_stand}
use Rattle.ldm_book.specs.Readers.{AreReading}
use Rattle.ldm_book.specs.RowKept.{row_kept}
use Rattle.ldm_book.proofs.IsTimedLemmas.{timed_below}
use Rattle.ldm_book.proofs.MeetingLemmas.{found_all, found_there, meets_above}
use Rattle.ldm_book.proofs.book.Book.step.Goals as goal

pub returns-then-not-owned-clause-answers : goal.returns-then-not-owned-clause-answers
returns-then-not-owned-clause-answers c = λ s stands.
    let here = subst (λ (b : BookView). StandsFor b s) (sym c.self.view_is) stands in
    let no : c.owned.result ≡ true → ⊥ = λ yes. absurd cc in
    let none = no_cursor (view_of c.self.inside) s c.args.actor c.args.k here (λ own. no (c.owned.ensures.owned.1 own)) in
    step-none c.args.self.now s stands c.args.actor c.args.k none

pub returns-in-Some-clause-answers : goal.returns-in-Some-clause-answers
returns-in-Some-clause-answers c = λ s stands.
    let here = subst (λ (b : BookView). StandsFor b s) (sym c.self.view_is) stands in
    let is = is_cursor (view_of c.self.inside) s c.args.actor c.args.k here (c.owned.ensures.owned.0 c.if-not-owned.false) in
    let some = at_cursor (λ (y : KeptCursor). Some c.in-Some.n ≡ y.held) (cursor_at c.self.inside.cursors c.args.k) (kept_cursor is.cursor) is.kept c.in-Some.ensures.value in
    subst (λ (b : BookView). Follows (reply.Holding c.in-Some.n) b (step s c.args.actor c.args.k)) c.self.view_is
    (step-holding (view_of c.self.inside) s here c.args.actor c.args.k is c.in-Some.n (sym some))

pub returns-in-Some-tell-clause-answers : goal.returns-in-Some-tell-clause-answers
returns-in-Some-tell-clause-answers c = λ s stands.
    let here = subst (λ (b : BookView). StandsFor b s) (sym c.self.view_is) stands in
    let is = is_cursor (view_of c.self.inside) s c.args.actor c.args.k here (c.owned.ensures.owned.0 c.if-not-owned.false) in
    let free = at_cursor (λ (y : KeptCursor). None ≡ y.held) (cursor_at c.self.inside.cursors c.args.k) (kept_cursor is.cursor) is.kept c.in_default.ensures.value in
    let numbers : ℕ × ℕ × ℕ = (c.in-Some-tell.count, c.in-Some-tell.first, c.in-Some-tell.last) in
    let told = at_cursor (λ (y : KeptCursor). Some numbers ≡ option_map numbers_of y.untold) (cursor_at c.self.inside.cursors c.args.k) (kept_cursor is.cursor) is.kept c.in-Some-tell.ensures.value in
    subst (λ (cs : Places). Follows (reply.Gap numbers.0 numbers.1 numbers.2) (with_cursors (view_of c.self.inside) cs) (step s c.args.actor c.args.k)) (sym c.in-Some-tell.ensures.told)
    (step-gap (view_of c.self.inside) s here c.args.actor c.args.k is numbers (sym free) (sym told))

pub hold-requires-clause-number : goal.hold-requires-clause-number
hold-requires-clause-number c =
    let inside = c.self.inside in
    let row = row_kept c.in-Some-first_meeting.row in
    let below =
    found_all (λ (k : Kept). k.number < inside.admitted) (awaits c.position-position.result c.feed.result.0) inside.products.rows row
    (timed_below inside.last inside.admitted inside.products.rows c.self.invariant.timed) (sym c.in-Some-first_meeting.ensures) in
    omega (arith, below, c.self.invariant.admitted_small)

pub hold-requires-clause-reached : goal.hold-requires-clause-reached
hold-requires-clause-reached c =
    let own = c.owned.ensures.owned.0 c.if-not-owned.false in
    let x = some_cursor (λ (y : KeptCursor). y.actor ≡ c.args.actor) (cursor_at c.self.inside.cursors c.args.k) own in
    let same =
    c.tell.ensures.told ∙ told-nothing c.self.inside.cursors c.args.k x.0 x.1
    (at_cursor (λ (y : KeptCursor). None ≡ option_map numbers_of y.untold) (cursor_at c.self.inside.cursors c.args.k) x.0 x.1 c.in_default-tell.ensures.value) in
    let at = ap (λ (cs : Places). cursor_at cs c.args.k) same ∙ x.1 in
    let position = at_cursor (λ (y : KeptCursor). c.position-position.result ≡ y.position) (cursor_at c.tell.new.self c.args.k) x.0 at c.position-position.ensures.value in
    let row = row_kept c.in-Some-first_meeting.row in
    let above = meets_above c.position-position.result c.feed.result.0 c.self.inside.products.rows row (sym c.in-Some-first_meeting.ensures) in
    subst (λ (o : Option KeptCursor). IfSome o (λ (y : KeptCursor). y.position ≤ row.number)) (sym at) (omega (arith, above, position))

pub invariant_of-self-in-Some-first_meeting : goal.invariant_of-self-in-Some-first_meeting
invariant_of-self-in-Some-first_meeting c =
    let inside = c.self.inside in
    let own = c.owned.ensures.owned.0 c.if-not-owned.false in
    let x = some_cursor (λ (y : KeptCursor). y.actor ≡ c.args.actor) (cursor_at c.self.inside.cursors c.args.k) own in
    let same =
    c.tell.ensures.told ∙ told-nothing c.self.inside.cursors c.args.k x.0 x.1
    (at_cursor (λ (y : KeptCursor). None ≡ option_map numbers_of y.untold) (cursor_at c.self.inside.cursors c.args.k) x.0 x.1 c.in_default-tell.ensures.value) in
    let at = ap (λ (cs : Places). cursor_at cs c.args.k) same ∙ x.1 in
    let position = at_cursor (λ (y : KeptCursor). c.position-position.result ≡ y.position) (cursor_at c.tell.new.self c.args.k) x.0 at c.position-position.ensures.value in
    let row = row_kept c.in-Some-first_meeting.row in
    let above = meets_above c.position-position.result c.feed.result.0 inside.products.rows row (sym c.in-Some-first_meeting.ensures) in
    let below =
    found_all (λ (k : Kept). k.number < inside.admitted) (awaits c.position-position.result c.feed.result.0) inside.products.rows row
    (timed_below inside.last inside.admitted inside.products.rows c.self.invariant.timed) (sym c.in-Some-first_meeting.ensures) in
    let there = found_there (awaits c.position-position.result c.feed.result.0) inside.products.rows row (sym c.in-Some-first_meeting.ensures) in
    let held = c.hold.ensures.held ∙ ap (λ (cs : Places). with_change cs c.args.k (after_hold row.number)) same in
    record {
      arena = c.self.invariant.arena;
      timed = c.self.invariant.timed;
      rising = c.self.invariant.rising;
      apart = c.self.invariant.apart;
      arena_small = c.self.invariant.arena_small;
      good_arena = c.self.invariant.good_arena;
      slots_small = c.self.invariant.slots_small;
      some_slot = c.self.invariant.some_slot;
      admitted_small = c.self.invariant.admitted_small;
      few = c.self.invariant.few;
      stored = c.self.invariant.stored;
      reserved = c.self.invariant.reserved;
      readers = subst (λ (cs : Places). AreReading inside.admitted inside.products.rows cs) (sym held)
          (reading-hold inside.admitted inside.products.rows inside.cursors c.args.k row.number x.0 c.self.invariant.readers x.1 (omega (arith, above, position)) below there);
    }

pub metadata_at-requires-clause-within : goal.metadata_at-requires-clause-within
metadata_at-requires-clause-within c =
    let inside = c.self.inside in
    let lie =
    lie_found inside.products.arena (awaits c.position-position.result c.feed.result.0) inside.products.rows inside.products.reservations (row_kept c.in-Some-first_meeting.row) c.self.invariant.apart
    (sym c.in-Some-first_meeting.ensures) in
    omega (arith, lie, inside.arena.ok.0, c.self.invariant.arena, c.deref.ensures.len)

pub metadata_at-requires-clause-some : goal.metadata_at-requires-clause-some
metadata_at-requires-clause-some c =
    let inside = c.self.inside in
    let row = row_kept c.in-Some-first_meeting.row in
    let there = found_of (HasMetadata inside.arena.items) (awaits c.position-position.result c.feed.result.0) inside.products.rows row c.self.invariant.stored (sym c.in-Some-first_meeting.ensures) in
    (there.info, subst (λ (bs : List ℕ). StandsAt bs row.place there.info) (sym c.deref.ensures.value) there.at)

pub returns-in-Some-first_meeting-clause-answers : goal.returns-in-Some-first_meeting-clause-answers
returns-in-Some-first_meeting-clause-answers c = λ s stands.
    let inside = c.self.inside in
    let own = c.owned.ensures.owned.0 c.if-not-owned.false in
    let x = some_cursor (λ (y : KeptCursor). y.actor ≡ c.args.actor) (cursor_at c.self.inside.cursors c.args.k) own in
    let same =
    c.tell.ensures.told ∙ told-nothing c.self.inside.cursors c.args.k x.0 x.1
    (at_cursor (λ (y : KeptCursor). None ≡ option_map numbers_of y.untold) (cursor_at c.self.inside.cursors c.args.k) x.0 x.1 c.in_default-tell.ensures.value) in
    let at = ap (λ (cs : Places). cursor_at cs c.args.k) same ∙ x.1 in
    let row = row_kept c.in-Some-first_meeting.row in
    let here = subst (λ (b : BookView). StandsFor b s) (sym c.self.view_is) stands in
    let is = is_cursor (view_of inside) s c.args.actor c.args.k here own in
    let there = ap (λ (cs : Places). cursor_at cs c.args.k) same ∙ is.kept in
    let position = at_cursor (λ (y : KeptCursor). c.position-position.result ≡ y.position) (cursor_at c.tell.new.self c.args.k) (kept_cursor is.cursor) there c.position-position.ensures.value in
    let feed = at_cursor (λ (y : KeptCursor). c.feed.result.0 ≡ y.feed) (cursor_at c.tell.new.self c.args.k) (kept_cursor is.cursor) there c.feed.ensures.value in
    let free = at_cursor (λ (y : KeptCursor). None ≡ y.held) (cursor_at inside.cursors c.args.k) (kept_cursor is.cursor) is.kept c.in_default.ensures.value in
    let none = at_cursor (λ (y : KeptCursor). None ≡ option_map numbers_of y.untold) (cursor_at inside.cursors c.args.k) (kept_cursor is.cursor) is.kept c.in_default-tell.ensures.value in
    let found : Some row ≡ find (awaits is.cursor.position is.cursor.feed) inside.products.rows = c.in-Some-first_meeting.ensures ∙ (λ i. find (awaits (position i) (feed i)) inside.products.rows) in
    let held = c.hold.ensures.held ∙ ap (λ (cs : Places). with_change cs c.args.k (after_hold row.number)) same in
    let reads = λ (q : Queued) (stored : IsStored inside.arena.items q) (same : kept q ≡ row).
    c.metadata_at.ensures q.product.info
    (subst (λ (bs : List ℕ). StandsAt bs row.place q.product.info) (sym c.deref.ensures.value)
    (subst (λ (place : ℕ). StandsAt inside.arena.items place q.product.info) (ap (λ (k : Kept). k.place) same) (metadata_stand inside.arena.items q stored))) in
    subst (λ (cs : Places). Follows (reply.Product row.number row.time c.metadata_at.result) (with_cursors (view_of inside) cs) (step s c.args.actor c.args.k)) (sym held)
    (step-product (view_of inside) s here c.args.actor c.args.k is row c.metadata_at.result (sym free) (sym none) found reads)

pub returns-in-None-clause-answers : goal.returns-in-None-clause-answers
returns-in-None-clause-answers c = λ s stands.
    let inside = c.self.inside in
    let own = c.owned.ensures.owned.0 c.if-not-owned.false in
    let x = some_cursor (λ (y : KeptCursor). y.actor ≡ c.args.actor) (cursor_at c.self.inside.cursors c.args.k) own in
    let same =
    c.tell.ensures.told ∙ told-nothing c.self.inside.cursors c.args.k x.0 x.1
    (at_cursor (λ (y : KeptCursor). None ≡ option_map numbers_of y.untold) (cursor_at c.self.inside.cursors c.args.k) x.0 x.1 c.in_default-tell.ensures.value) in
    let at = ap (λ (cs : Places). cursor_at cs c.args.k) same ∙ x.1 in
    let here = subst (λ (b : BookView). StandsFor b s) (sym c.self.view_is) stands in
    let is = is_cursor (view_of inside) s c.args.actor c.args.k here own in
    let there = ap (λ (cs : Places). cursor_at cs c.args.k) same ∙ is.kept in
    let position = at_cursor (λ (y : KeptCursor). c.position-position.result ≡ y.position) (cursor_at c.tell.new.self c.args.k) (kept_cursor is.cursor) there c.position-position.ensures.value in
    let feed = at_cursor (λ (y : KeptCursor). c.feed.result.0 ≡ y.feed) (cursor_at c.tell.new.self c.args.k) (kept_cursor is.cursor) there c.feed.ensures.value in
    let free = at_cursor (λ (y : KeptCursor). None ≡ y.held) (cursor_at inside.cursors c.args.k) (kept_cursor is.cursor) is.kept c.in_default.ensures.value in
    let none = at_cursor (λ (y : KeptCursor). None ≡ option_map numbers_of y.untold) (cursor_at inside.cursors c.args.k) (kept_cursor is.cursor) is.kept c.in_default-tell.ensures.value in
    let found : None ≡ find (awaits is.cursor.position is.cursor.feed) inside.products.rows = c.in-None.ensures ∙ (λ i. find (awaits (position i) (feed i)) inside.products.rows) in
    let moved = c.to_end.ensures.moved ∙ ap (λ (cs : Places). with_change cs c.args.k (after_move inside.admitted)) same in
    subst (λ (cs : Places). Follows (reply.End inside.admitted) (with_cursors (view_of inside) cs) (step s c.args.actor c.args.k)) (sym moved)
    (step-end (view_of inside) s here c.args.actor c.args.k is (sym free) (sym none) found)
