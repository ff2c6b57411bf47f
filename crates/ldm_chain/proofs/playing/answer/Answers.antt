use Rattle.std.proofs.Common.{◌≡◌, ◌∙◌, refl, ap, subst, arith, ℕ, Ok, Err, Result}
use Rattle.std.proofs.lemmas.List.{get_or_default}
use Rattle.std.specs.Prelude.{set, slice_set, slice_index_or, List, OnOk, OnErr}
use Rattle.ldm_calls.specs.Lines.{AnswersLine}
use Rattle.ldm_calls.specs.OnBook.{BookAnswers}
use Rattle.ldm_script.specs.declared.order.LastPlaces.{LastPlaces}
use Rattle.ldm_script.specs.Order.{Order}
use Rattle.ldm_script.specs.OrderView.{order_of}
use Rattle.ldm_script.specs.Resolve.{Playing, no_places, answer_order}
use Rattle.ldm_play.specs.PlayerView.{PlayerView, StandsForPlay}
use Rattle.ldm_chain.specs.Steps.{Follows}
use Rattle.ldm_chain.proofs.PlayedLemmas.{answers_order}
use Rattle.ldm_chain.proofs.playing.answer.Goals as goal

-- a call that cannot fail
came : {A : Type 0} {E : Type 0} (result : Result (Unit {0}) E) → OnOk result A → OnErr result ⊥ → A
came (Ok done) made unmade = made
came (Err why) made unmade = absurd unmade

-- the actor's place is at its number
answers_at : (p : Playing) (order : Order) (old new : PlayerView) (last : LastPlaces) (text : List ℕ) (at : ℕ) → at ≡ order.actor
    → AnswersLine (BookAnswers order.actor) order.asked old.book (slice_index_or old.last at no_places) new.book last text
    → new.last ≡ set old.last at last → StandsForPlay old p → Follows p (answer_order p order).playing new
answers_at p order old new last text at is line noted stands =
    answers_order p order old new last text
    (subst (λ (n : ℕ). AnswersLine (BookAnswers order.actor) order.asked old.book (slice_index_or old.last n no_places) new.book last text) is line)
    (noted ∙ ap (λ (n : ℕ). set old.last n last) is) stands

pub returns : goal.returns
returns c = λ p stands.
    let order = order_of c.args.order.now in
    let last = c.args.last.now in
    let at = c.get-at.result in
    let here : slice_index_or last at c.index-last-at.result ≡ slice_index_or last at no_places =
    get_or_default last at c.index-last-at.result no_places (omega (arith, c.get-at.ensures.bound, c.told-last)) in
    let answered = came c.answer.result c.answer.ensures.answered c.answer.ensures.unmade in
    answers_at p order (record { book = c.args.book.now; last = last })
    (record { book = c.answer.new.queue; last = slice_set last at c.answer.new.last }) c.answer.new.last c.answer.new.self at c.get-at.ensures.value
    (subst (λ (places : LastPlaces). AnswersLine (BookAnswers order.actor) order.asked c.args.book.now places c.answer.new.queue c.answer.new.last c.answer.new.self) here answered) refl stands
