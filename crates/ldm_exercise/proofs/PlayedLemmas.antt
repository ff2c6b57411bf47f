-- Orders that are played one after another: for `Player::play` and the loops over it.
use Rattle.std.proofs.Common.{◌≡◌, ◌<◌, ◌+◌, ◌++◌, ◌∙◌, ℕ, suc, zero, List, [], ◌∷◌, Some, take, refl, sym, ap, subst, arith}
use Rattle.std.proofs.Math.Numerals.{add-one}
use Rattle.std.specs.Prelude.{slice_index_or}
use Rattle.ldm_model.specs.declared.event.Entry.{Entry}
use Rattle.ldm_model.specs.declared.event.Reply.{Reply}
use Rattle.ldm_model.specs.History.{IsLegal, after}
use Rattle.ldm_model.specs.Next.{next}
use Rattle.ldm_model.specs.State.{State, empty}
use Rattle.ldm_model.proofs.Appended.{after_entries-append, IsLegalFrom-append}
use Rattle.ldm_book.specs.View.{BookView}
use Rattle.ldm_book.specs.Stands.{StandsFor}
use Rattle.ldm_calls.specs.OnBook.{BookAnswers}
use Rattle.ldm_script.specs.Order.{Order}
use Rattle.ldm_script.specs.declared.order.LastPlaces.{LastPlaces}
use Rattle.ldm_script.specs.Resolve.{Playing, Answered, no_places, resolved, unresolved, after_outcome, answer_event, answer_order}
use Rattle.ldm_exercise.specs.declared.order.Request.{Request}
use Rattle.ldm_exercise.specs.declared.order.Request.TheVariants as request
use Rattle.ldm_exercise.specs.OrderView.{asked_of, event_of}
use Rattle.ldm_exercise.specs.Orders.{opening, openings, orders_drawn, with_next}
use Rattle.ldm_exercise.specs.Playing.{Exercised, arena, slots, and_played, played_on}

-- a request is for a known cursor, so it has an event
resolved-is : (last : LastPlaces) (actor : ℕ) (r : Request) → resolved last (asked_of actor r) ≡ Some (event_of actor r)
resolved-is last actor request.Open = refl
resolved-is last actor (request.Insert info byte) = refl
resolved-is last actor request.Step = refl
resolved-is last actor request.Read = refl
resolved-is last actor request.Release = refl

abbrev pub made_order : ℕ → Request → Order
made_order actor r = record { actor = actor; asked = asked_of actor r }

-- and is answered by what the queue answers to that event
answered-is : (p : Playing) (actor : ℕ) (r : Request) → answer_order p (made_order actor r) ≡ after_outcome p actor (event_of actor r) (next p.state actor (event_of actor r))
answered-is p actor r = ap (answer_event p actor (unresolved (asked_of actor r))) (resolved-is (slice_index_or p.last actor no_places) actor r)

-- what stands after a call that was made
pub record After (p : Playing) (answered : Answered) (reply : Reply) (new : BookView) : Type 0 where
  pub legal : IsLegal arena slots answered.playing.history
  pub state : answered.playing.state ≡ after arena slots answered.playing.history
  pub stands : StandsFor new answered.playing.state
  pub is_reply : reply ≡ answered.reply

pub after_call : (p : Playing) (actor : ℕ) (r : Request) (old new : BookView) (reply : Reply) → IsLegal arena slots p.history → p.state ≡ after arena slots p.history
    → StandsFor old p.state → BookAnswers actor old (event_of actor r) reply new → After p (answer_order p (made_order actor r)) reply new
after_call p actor r old new reply legal state stands made =
    let event = event_of actor r in
    let follows = made.answers p.state stands in
    let entry : Entry = record { actor = actor; event = event; reply = (next p.state actor event).reply } in
    let here : After p (after_outcome p actor event (next p.state actor event)) reply new = record {
      legal = (IsLegalFrom-append p.history (entry ∷ []) (empty arena slots)).1 (
        legal,
        (record { actor = made.actor; possible = made.possible; reply = ap (λ (s : State). (next s actor event).reply) state }, tt),
      );
      state = ap (λ (s : State). (next s actor event).state) state ∙ sym (after_entries-append p.history (entry ∷ []) (empty arena slots));
      stands = follows.state;
      is_reply = follows.reply;
    } in
    subst (λ (a : Answered). After p a reply new) (sym (answered-is p actor r)) here

-- one order more behind those that were played
pub played_on-more : (e : Exercised) (orders : List Order) (order : Order) → played_on e (orders ++ order ∷ []) ≡ and_played (played_on e orders) order
played_on-more e [] order = refl
played_on-more e (first ∷ orders) order = played_on-more (and_played e first) orders order

pub played_on-append : (e : Exercised) (orders behind : List Order) → played_on e (orders ++ behind) ≡ played_on (played_on e orders) behind
played_on-append e [] behind = refl
played_on-append e (first ∷ orders) behind = played_on-append (and_played e first) orders behind

-- the next of the openings
pub take-opening : (a : ℕ) → a < 4 → take (a + 1) openings ≡ take a openings ++ opening a ∷ []
take-opening zero less = refl
take-opening (suc zero) less = refl
take-opening (suc (suc zero)) less = refl
take-opening (suc (suc (suc zero))) less = refl
take-opening (suc (suc (suc (suc n)))) less = absurd (omega (arith, less))

-- the next of the orders that are drawn
pub orders_drawn-more : (number i : ℕ) → orders_drawn number (i + 1) ≡ with_next i (orders_drawn number i)
orders_drawn-more number i = ap (orders_drawn number) (add-one i)
