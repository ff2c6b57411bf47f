use Rattle.std.proofs.Common.{◌≡◌, true, sym, subst}
use Rattle.ldm_types.specs.Cursors.{Places}
use Rattle.ldm_model.specs.declared.event.Reply.TheVariants as reply
use Rattle.ldm_model.specs.Release.{close}
use Rattle.ldm_book.specs.View.{BookView}
use Rattle.ldm_book.specs.Sound.{view_of}
use Rattle.ldm_book.specs.Answers.{Follows}
use Rattle.ldm_book.specs.Stands.{StandsFor}
use Rattle.ldm_book.proofs.CursorsLemmas.{is_cursor, no_cursor, with_cursors}
use Rattle.ldm_book.proofs.CallLemmas.{close-none, close-some}
use Rattle.ldm_book.proofs.book.Book.close.Goals as goal

pub returns-then-not-owned-clause-answers : goal.returns-then-not-owned-clause-answers
returns-then-not-owned-clause-answers c = λ s stands.
    let here = subst (λ (b : BookView). StandsFor b s) (sym c.self.view_is) stands in
    let no : c.owned.result ≡ true → ⊥ = λ yes. absurd cc in
    let none = no_cursor (view_of c.self.inside) s c.args.actor c.args.k here (λ own. no (c.owned.ensures.owned.1 own)) in
    close-none c.args.self.now s stands c.args.actor c.args.k none

pub returns-clause-answers : goal.returns-clause-answers
returns-clause-answers c = λ s stands.
    let here = subst (λ (b : BookView). StandsFor b s) (sym c.self.view_is) stands in
    let is = is_cursor (view_of c.self.inside) s c.args.actor c.args.k here (c.owned.ensures.owned.0 c.if-not-owned.false) in
    subst (λ (cs : Places). Follows reply.Closed (with_cursors (view_of c.self.inside) cs) (close s c.args.actor c.args.k)) (sym c.leave.ensures.left)
    (close-some (view_of c.self.inside) s here c.args.actor c.args.k is)
