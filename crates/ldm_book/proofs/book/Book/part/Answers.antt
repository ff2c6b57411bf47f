use Rattle.std.proofs.Common.{◌≡◌, ◌∙◌, ◌+◌, true, Some, None, sym, ap, subst, arith}
use Rattle.std.specs.List.{between}
use Rattle.ldm_types.specs.Cursors.{KeptCursor}
use Rattle.ldm_cursor.specs.Places.{cursor_at}
use Rattle.ldm_model.specs.declared.event.Reply.TheVariants as reply
use Rattle.ldm_book.specs.View.{BookView}
use Rattle.ldm_book.specs.Sound.{view_of}
use Rattle.ldm_book.specs.Answers.{Follows}
use Rattle.ldm_book.specs.Stands.{StandsFor, kept_cursor}
use Rattle.ldm_book.proofs.CursorsLemmas.{is_cursor, no_cursor}
use Rattle.ldm_book.proofs.CallLemmas.{at_cursor, some_cursor}
use Rattle.ldm_book.specs.Products.{at_number}
use Rattle.ldm_model.specs.Answers.{asked_bytes}
use Rattle.ldm_model.specs.Read.{read}
use Rattle.ldm_book.specs.RowKept.{row_kept}
use Rattle.ldm_book.proofs.FoundLemmas.{lie_found}
use Rattle.ldm_book.proofs.ReadingLemmas.{found_any, held_at_there}
use Rattle.ldm_book.proofs.ReadLemmas.{part_read, read-none, read-free, read-bad, read-bytes}
use Rattle.ldm_book.proofs.book.Book.part.Goals as goal

pub returns-then-not-owned-clause-refused : goal.returns-then-not-owned-clause-refused
returns-then-not-owned-clause-refused c = λ into s stands.
    let here = subst (λ (b : BookView). StandsFor b s) (sym c.self.view_is) stands in
    let no : c.owned.result ≡ true → ⊥ = λ yes. absurd cc in
    let none = no_cursor (view_of c.self.inside) s c.args.actor c.args.k here (λ own. no (c.owned.ensures.owned.1 own)) in
    read-none c.args.self.now s stands c.args.actor c.args.k c.args.offset (asked_bytes c.args.len) none

pub returns-in_default-clause-refused : goal.returns-in_default-clause-refused
returns-in_default-clause-refused c = λ into s stands.
    let here = subst (λ (b : BookView). StandsFor b s) (sym c.self.view_is) stands in
    let is = is_cursor (view_of c.self.inside) s c.args.actor c.args.k here (c.owned.ensures.owned.0 c.if-not-owned.false) in
    let free = at_cursor (λ (x : KeptCursor). None ≡ x.held) (cursor_at c.self.inside.cursors c.args.k) (kept_cursor is.cursor) is.kept c.in_default.ensures.value in
    subst (λ (b : BookView). Follows reply.NotHeld b (read s c.args.actor c.args.k c.args.offset (asked_bytes c.args.len))) c.self.view_is
    (read-free (view_of c.self.inside) s here c.args.actor c.args.k c.args.offset (asked_bytes c.args.len) is (sym free))

pub unreachable-requires : goal.unreachable-requires
unreachable-requires c =
    let inside = c.self.inside in
    let x = some_cursor (λ (y : KeptCursor). y.actor ≡ c.args.actor) (cursor_at inside.cursors c.args.k) (c.owned.ensures.owned.0 c.if-not-owned.false) in
    let some = at_cursor (λ (y : KeptCursor). Some c.in-Some.n ≡ y.held) (cursor_at inside.cursors c.args.k) x.0 x.1 c.in-Some.ensures.value in
    found_any c.in-Some.n inside.products.rows (held_at_there inside.admitted inside.products.rows inside.cursors c.args.k c.in-Some.n x.0 c.self.invariant.readers x.1 (sym some))
    (sym c.in_default-first_row.ensures.first)

pub overflow_add-front : goal.overflow_add-front
overflow_add-front c =
    let row = row_kept c.in-Some-first_row.row in
    let lie =
    lie_found c.self.inside.products.arena (at_number c.in-Some.n) c.self.inside.products.rows c.self.inside.products.reservations row c.self.invariant.apart (sym c.in-Some-first_row.ensures.first) in
    omega (arith, lie, c.self.invariant.arena, c.self.invariant.arena_small)

pub overflow_add-front-2 : goal.overflow_add-front-2
overflow_add-front-2 c =
    let row = row_kept c.in-Some-first_row.row in
    let lie =
    lie_found c.self.inside.products.arena (at_number c.in-Some.n) c.self.inside.products.rows c.self.inside.products.reservations row c.self.invariant.apart (sym c.in-Some-first_row.ensures.first) in
    omega (arith, lie, c.self.invariant.arena, c.self.invariant.arena_small)

pub overflow_add-result : goal.overflow_add-result
overflow_add-result c =
    let row = row_kept c.in-Some-first_row.row in
    let lie =
    lie_found c.self.inside.products.arena (at_number c.in-Some.n) c.self.inside.products.rows c.self.inside.products.reservations row c.self.invariant.apart (sym c.in-Some-first_row.ensures.first) in
    omega (arith, lie, c.min-len.ensures, c.self.invariant.arena, c.self.invariant.arena_small)

pub slice_bounds-result-end : goal.slice_bounds-result-end
slice_bounds-result-end c =
    let row = row_kept c.in-Some-first_row.row in
    let lie =
    lie_found c.self.inside.products.arena (at_number c.in-Some.n) c.self.inside.products.rows c.self.inside.products.reservations row c.self.invariant.apart (sym c.in-Some-first_row.ensures.first) in
    let bytes = c.self.inside.arena.ok.0 in
    omega (arith, lie, bytes, c.min-len.ensures, c.self.invariant.arena, c.deref.ensures.len)

pub returns-then-offset-size-clause-refused : goal.returns-then-offset-size-clause-refused
returns-then-offset-size-clause-refused c = λ into s stands.
    let inside = c.self.inside in
    let here = subst (λ (b : BookView). StandsFor b s) (sym c.self.view_is) stands in
    let is = is_cursor (view_of inside) s c.args.actor c.args.k here (c.owned.ensures.owned.0 c.if-not-owned.false) in
    let some = at_cursor (λ (x : KeptCursor). Some c.in-Some.n ≡ x.held) (cursor_at inside.cursors c.args.k) (kept_cursor is.cursor) is.kept c.in-Some.ensures.value in
    let there = held_at_there inside.admitted inside.products.rows inside.cursors c.args.k c.in-Some.n (kept_cursor is.cursor) c.self.invariant.readers is.kept (sym some) in
    let row = row_kept c.in-Some-first_row.row in
    subst (λ (b : BookView). Follows (reply.BadOffset row.size) b (read s c.args.actor c.args.k c.args.offset (asked_bytes c.args.len))) c.self.view_is
    (read-bad (view_of inside) s here c.args.actor c.args.k c.args.offset (asked_bytes c.args.len) is c.in-Some.n there row (sym some) c.in-Some-first_row.ensures.first
    (omega (arith, c.if-offset-size.true)))

pub returns-clause-answers : goal.returns-clause-answers
returns-clause-answers c = λ s stands.
    let inside = c.self.inside in
    let here = subst (λ (b : BookView). StandsFor b s) (sym c.self.view_is) stands in
    let is = is_cursor (view_of inside) s c.args.actor c.args.k here (c.owned.ensures.owned.0 c.if-not-owned.false) in
    let some = at_cursor (λ (x : KeptCursor). Some c.in-Some.n ≡ x.held) (cursor_at inside.cursors c.args.k) (kept_cursor is.cursor) is.kept c.in-Some.ensures.value in
    let there = held_at_there inside.admitted inside.products.rows inside.cursors c.args.k c.in-Some.n (kept_cursor is.cursor) c.self.invariant.readers is.kept (sym some) in
    let row = row_kept c.in-Some-first_row.row in
    let front = c.in-Some-first_row.row.now.place + c.in-Some-first_row.row.now.head + c.args.offset in
    let arena = c.deref.result.now in
    let part = part_read inside.arena.items row front c.args.offset c.min-len.result (asked_bytes c.args.len)
    (omega arith) (omega (arith, c.min-len.ensures, c.if-offset-size.false)) (omega (arith, c.min-len.ensures, c.if-offset-size.false)) in
    subst (λ (b : BookView). Follows (reply.Bytes (between front (front + c.min-len.result) arena)) b
    (read s c.args.actor c.args.k c.args.offset (asked_bytes c.args.len))) c.self.view_is
    (read-bytes (view_of inside) s here c.args.actor c.args.k c.args.offset (asked_bytes c.args.len) is c.in-Some.n there row (sym some) c.in-Some-first_row.ensures.first
    (omega (arith, c.if-offset-size.false))
    (between front (front + c.min-len.result) arena) (ap (between front (front + c.min-len.result)) c.deref.ensures.value ∙ part))
