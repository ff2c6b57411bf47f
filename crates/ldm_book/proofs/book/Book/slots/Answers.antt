use Rattle.std.proofs.Common.{sym, subst}
use Rattle.ldm_book.specs.View.{BookView}
use Rattle.ldm_book.specs.Restoring.{IsRestorable, all_closed}
use Rattle.ldm_book.specs.Stands.{StandsFor}
use Rattle.ldm_book.proofs.RestoringLemmas.{closed_restorable}
use Rattle.ldm_book.proofs.book.Book.slots.Goals as goal

pub returns-clause-restorable : goal.returns-clause-restorable
returns-clause-restorable c = λ s stands.
    let here = subst (λ (b : BookView). StandsFor b s) (sym c.self.view_is) stands in
    subst (λ (b : BookView). IsRestorable (all_closed b)) c.self.view_is
    (closed_restorable c.self.inside c.self.invariant s here c.slots.ensures.few c.slots.ensures.times c.slots.ensures.differ c.is_good_count.ensures.small)
