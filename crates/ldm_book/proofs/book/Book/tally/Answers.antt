use Rattle.std.proofs.Common.{◌≡◌, ◌∙◌, ℕ, true, sym, subst}
use Rattle.std.specs.Prelude.{count_by}
use Rattle.ldm_types.specs.Cursors.{KeptCursor}
use Rattle.ldm_cursor.specs.Places.{cursor_at}
use Rattle.ldm_model.specs.declared.event.Reply.TheVariants as reply
use Rattle.ldm_model.specs.Tally.{tally}
use Rattle.ldm_book.specs.View.{BookView}
use Rattle.ldm_book.specs.Sound.{view_of}
use Rattle.ldm_book.specs.Answers.{Follows}
use Rattle.ldm_book.specs.Stands.{StandsFor, kept_cursor}
use Rattle.ldm_book.specs.Products.{awaits}
use Rattle.ldm_book.proofs.CursorsLemmas.{is_cursor, no_cursor}
use Rattle.ldm_book.proofs.CallLemmas.{at_cursor, tally-none, tally-some}
use Rattle.ldm_book.proofs.book.Book.tally.Goals as goal

pub returns-then-not-owned-clause-answers : goal.returns-then-not-owned-clause-answers
returns-then-not-owned-clause-answers c = λ s stands.
    let here = subst (λ (b : BookView). StandsFor b s) (sym c.self.view_is) stands in
    let no : c.owned.result ≡ true → ⊥ = λ yes. absurd cc in
    let none = no_cursor (view_of c.self.inside) s c.args.actor c.args.k here (λ own. no (c.owned.ensures.owned.1 own)) in
    tally-none c.args.self.now s stands c.args.actor c.args.k none

pub returns-clause-answers : goal.returns-clause-answers
returns-clause-answers c = λ s stands.
    let inside = c.self.inside in
    let here = subst (λ (b : BookView). StandsFor b s) (sym c.self.view_is) stands in
    let is = is_cursor (view_of inside) s c.args.actor c.args.k here (c.owned.ensures.owned.0 c.if-not-owned.false) in
    let k : KeptCursor = kept_cursor is.cursor in
    let counts = at_cursor (λ (y : KeptCursor). c.counts-given.result ≡ (y.given, y.lost)) (cursor_at inside.cursors c.args.k) k is.kept c.counts-given.ensures.value in
    let position = at_cursor (λ (y : KeptCursor). c.position-position.result ≡ y.position) (cursor_at inside.cursors c.args.k) k is.kept c.position-position.ensures.value in
    let feed = at_cursor (λ (y : KeptCursor). c.feed.result.0 ≡ y.feed) (cursor_at inside.cursors c.args.k) k is.kept c.feed.ensures.value in
    let left = c.count_meeting.ensures ∙ (λ i. count_by (awaits (position i) (feed i)) inside.products.rows) in
    subst (λ (b : BookView). Follows (reply.Tally c.counts-given.result.0 c.counts-given.result.1 c.count_meeting.result) b (tally s c.args.actor c.args.k)) c.self.view_is
    (subst (λ (p : ℕ × ℕ). Follows (reply.Tally p.0 p.1 c.count_meeting.result) (view_of inside) (tally s c.args.actor c.args.k)) (sym counts)
    (tally-some (view_of inside) s here c.args.actor c.args.k is c.count_meeting.result left))
