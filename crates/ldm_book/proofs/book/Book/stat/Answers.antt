use Rattle.std.proofs.Common.{◌∙◌, ◌+◌, ℕ, List, length, sym, ap, subst}
use Rattle.ldm_types.specs.Arena.{gaps, longest}
use Rattle.ldm_model.specs.Stat.{extents, stat}
use Rattle.ldm_cursor.specs.Places.{count_held}
use Rattle.ldm_book.specs.View.{BookView, Kept, open_kept}
use Rattle.ldm_book.specs.Readers.{occupied}
use Rattle.ldm_book.specs.Sound.{view_of}
use Rattle.ldm_book.specs.Stands.{StandsFor}
use Rattle.ldm_book.proofs.CountLemmas.{count-stands}
use Rattle.ldm_book.proofs.IsTimedLemmas.{timed_below}
use Rattle.ldm_book.proofs.StatLemmas.{stat-stands}
use Rattle.ldm_book.proofs.book.Book.stat.Goals as goal

pub returns-clause-answers : goal.returns-clause-answers
unfolding stat
returns-clause-answers c = λ s stands.
    let inside = c.self.inside in
    let here = subst (λ (b : BookView). StandsFor b s) (sym c.self.view_is) stands in
    let rows = ap (λ (b : BookView). b.rows) c.self.view_is in
    let arena = sym c.self.invariant.arena ∙ ap (λ (b : BookView). b.arena) c.self.view_is in
    record {
      reply = stat-stands c.args.self.now s stands _ _ _ _ _
          (ap (λ (b : BookView). b.admitted) c.self.view_is)
          (c.len.ensures.count ∙ ap (λ (ks : List Kept). length ks) rows)
          (c.count_held.ensures ∙ sym (ap (λ (b : BookView). count_held b.cursors + length (open_kept b.reservations)) c.self.view_is)
          ∙ count-stands (view_of inside) s here (timed_below inside.last inside.admitted inside.products.rows c.self.invariant.timed) c.self.invariant.readers)
          (c.used.ensures ∙ ap (λ (b : BookView). extents (occupied b)) c.self.view_is)
          (c.largest_free.ensures ∙ ap (λ (b : BookView). longest (gaps (occupied b) c.self.inside.products.arena)) c.self.view_is ∙ ap (λ (a : ℕ). longest (gaps (occupied c.args.self.now) a)) arena);
      state = stands;
    }
