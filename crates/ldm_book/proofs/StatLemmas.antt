-- How full the queue is, by what the book keeps.
use Rattle.std.proofs.Common.{◌≡◌, ℕ, List, length, ap, ◌∙◌}
use Rattle.std.proofs.lemmas.List.{length-map}
use Rattle.ldm_types.specs.Arena.{Region, gaps, longest}
use Rattle.ldm_model.specs.Figures.{figures}
use Rattle.ldm_model.specs.declared.event.Reply.TheVariants as reply
use Rattle.ldm_model.specs.State.{State, queued, end_of, occupied}
use Rattle.ldm_model.specs.Evict.{count_held}
use Rattle.ldm_model.specs.Stat.{extents, stat_reply}
use Rattle.ldm_book.specs.View.{BookView, Kept, kept}
use Rattle.ldm_book.specs.Products.{occupied_in}
use Rattle.ldm_book.specs.Readers.{products}
use Rattle.ldm_book.specs.Stands.{StandsFor}
use Rattle.ldm_book.proofs.UnheldLemmas.{occupied-stands}

-- numbers that count what is kept count what the state has
pub stat-stands : (book : BookView) (s : State) → StandsFor book s → (admitted count held used free : ℕ)
    → admitted ≡ book.admitted → count ≡ length book.rows → held ≡ count_held s → used ≡ extents (occupied_in (products book)) → free ≡ longest (gaps (occupied_in (products book)) book.arena)
    → reply.Stat (figures admitted count held used free) ≡ stat_reply s
stat-stands book s stands admitted count held used free admitted-is count-is held-is used-is free-is =
    let regions : occupied_in (products book) ≡ occupied s = occupied-stands book s stands in
    let number : admitted ≡ end_of s = admitted-is ∙ stands.admitted in
    let length_same : count ≡ length (queued s) = count-is ∙ ap (λ (ks : List Kept). length ks) stands.rows ∙ length-map (queued s) kept in
    let sum : used ≡ extents (occupied s) = used-is ∙ ap extents regions in
    let gap : free ≡ longest (gaps (occupied s) s.arena) =
    free-is ∙ ap (λ (rs : List Region). longest (gaps rs book.arena)) regions ∙ ap (λ (a : ℕ). longest (gaps (occupied s) a)) stands.arena in
    λ i. reply.Stat (figures (number i) (length_same i) (held-is i) (sum i) (gap i))
