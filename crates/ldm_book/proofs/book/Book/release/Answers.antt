use Rattle.std.proofs.Common.{◌≡◌, true, Some, None, sym, subst}
use Rattle.ldm_types.specs.Cursors.{KeptCursor, Places}
use Rattle.ldm_cursor.specs.Places.{cursor_at}
use Rattle.ldm_model.specs.declared.event.Reply.TheVariants as reply
use Rattle.ldm_model.specs.Release.{release}
use Rattle.ldm_book.specs.View.{BookView}
use Rattle.ldm_book.specs.Sound.{view_of}
use Rattle.ldm_book.specs.Answers.{Follows}
use Rattle.ldm_book.specs.Stands.{StandsFor, kept_cursor}
use Rattle.ldm_book.proofs.CursorsLemmas.{is_cursor, no_cursor, with_cursors}
use Rattle.ldm_book.proofs.CallLemmas.{at_cursor, release-none, release-free, release-some}
use Rattle.ldm_book.proofs.book.Book.release.Goals as goal

pub returns-then-not-owned-clause-answers : goal.returns-then-not-owned-clause-answers
returns-then-not-owned-clause-answers c = λ s stands.
    let here = subst (λ (b : BookView). StandsFor b s) (sym c.self.view_is) stands in
    let no : c.owned.result ≡ true → ⊥ = λ yes. absurd cc in
    let none = no_cursor (view_of c.self.inside) s c.args.actor c.args.k here (λ own. no (c.owned.ensures.owned.1 own)) in
    release-none c.args.self.now s stands c.args.actor c.args.k none

pub returns-in_default-clause-answers : goal.returns-in_default-clause-answers
returns-in_default-clause-answers c = λ s stands.
    let here = subst (λ (b : BookView). StandsFor b s) (sym c.self.view_is) stands in
    let is = is_cursor (view_of c.self.inside) s c.args.actor c.args.k here (c.owned.ensures.owned.0 c.if-not-owned.false) in
    let free = at_cursor (λ (x : KeptCursor). None ≡ x.held) (cursor_at c.self.inside.cursors c.args.k) (kept_cursor is.cursor) is.kept c.in_default.ensures.value in
    subst (λ (b : BookView). Follows reply.NotHeld b (release s c.args.actor c.args.k)) c.self.view_is
    (release-free (view_of c.self.inside) s here c.args.actor c.args.k is (sym free))

pub returns-clause-answers : goal.returns-clause-answers
returns-clause-answers c = λ s stands.
    let here = subst (λ (b : BookView). StandsFor b s) (sym c.self.view_is) stands in
    let is = is_cursor (view_of c.self.inside) s c.args.actor c.args.k here (c.owned.ensures.owned.0 c.if-not-owned.false) in
    let some = at_cursor (λ (x : KeptCursor). Some c.in-Some.n ≡ x.held) (cursor_at c.self.inside.cursors c.args.k) (kept_cursor is.cursor) is.kept c.in-Some.ensures.value in
    subst (λ (cs : Places). Follows (reply.Released c.in-Some.n) (with_cursors (view_of c.self.inside) cs) (release s c.args.actor c.args.k)) (sym c.let_go.ensures.released)
    (release-some (view_of c.self.inside) s here c.args.actor c.args.k is c.in-Some.n (sym some))
