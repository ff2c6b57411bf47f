-- What a line plays, by what it was read as: for `play_line`.
use Rattle.std.proofs.Common.{◌≡◌, ◌<◌, ◌+◌, ℕ, Bool, List, [], ◌∷◌, Option, Result, Ok, Err, Some, None, cond, refl, sym, ap, subst, ◌∙◌}
use Rattle.std.proofs.lemmas.Bool.{lt-ltb}
use Rattle.std.proofs.lemmas.List.{set-get_or}
use Rattle.std.specs.Prelude.{set, slice_index_or, length}
use Rattle.ldm_outside.specs.Count.{Rose}
use Rattle.ldm_outside.specs.Io.{SinkRecord, Takes, WritesFront}
use Rattle.ldm_outside.proofs.CallerLemmas.{Takes-nothing}
use Rattle.ldm_model.specs.declared.event.Event.{Event}
use Rattle.ldm_model.specs.declared.event.Entry.{Entry}
use Rattle.ldm_model.specs.State.{State, empty}
use Rattle.ldm_model.specs.Next.{next}
use Rattle.ldm_model.specs.History.{IsPossible}
use Rattle.ldm_model.proofs.Appended.{after_entries-append, IsLegalFrom-append}
use Rattle.ldm_model.specs.declared.event.Reply.{Reply}
use Rattle.ldm_book.specs.View.{BookView}
use Rattle.ldm_book.specs.Stands.{StandsFor}
use Rattle.ldm_calls.specs.Lines.{AnswersLine, IsMadeBy}
use Rattle.ldm_calls.specs.OnBook.{BookAnswers}
use Rattle.ldm_script.specs.declared.line.TheConstants.{LONGEST_LINE}
use Rattle.ldm_script.specs.declared.order.LastPlaces.{LastPlaces}
use Rattle.ldm_script.specs.Order.{Order, Asked, Plain, OnCursor, OnReservation}
use Rattle.ldm_script.specs.Grammar.{read_line, read_order, is_comment, at_column}
use Rattle.ldm_answers.specs.Answer.{answer_line}
use Rattle.ldm_script.specs.Resolve.{Playing, no_places, resolved, unresolved, last_after, after_reply, answer_event, answer_order}
use Rattle.ldm_play.specs.Play.{Played, play_reading, play_line}
use Rattle.ldm_play.specs.declared.player.LineFault.TheVariants as stop
use Rattle.ldm_play.specs.Legal.{StaysLegal}
use Rattle.ldm_play.specs.PlayerView.{PlayerView, StandsForPlay, AnswersOrder}
use Rattle.ldm_play.specs.Step.{LineGives}

-- a line that is too long
pub read_line-long : (line : List ℕ) → LONGEST_LINE < length line → read_line 64 line ≡ Err (LONGEST_LINE + 1)
unfolding read_line
read_line-long line long =
    ap (λ (b : Bool). cond b (Err (LONGEST_LINE + 1)) (cond (is_comment line) (Ok None) (at_column (length line) (read_order 64 (Some line))))) (lt-ltb LONGEST_LINE (length line) long)

pub play_line-reading : (number : ℕ) (p : Playing) (line : List ℕ) (r : Result (Option Order) ℕ) → read_line 64 line ≡ r → play_line number p line ≡ play_reading number p r
unfolding play_line
play_line-reading number p line r is = ap (play_reading number p) is

-- a line that is skipped
pub skipped : (number : ℕ) (p : Playing) (line : List ℕ) (player : PlayerView) (sink : SinkRecord) → read_line 64 line ≡ Ok None → StandsForPlay player p
    → LineGives (Ok tt) p (play_line number p line) player sink sink
skipped number p line player sink is stands =
    subst (λ (x : Played). LineGives (Ok tt) p x player sink sink) (sym (play_line-reading number p line (Ok None) is))
    (refl, stands, Takes-nothing sink sink refl, λ arena slots legal. legal)

-- a line at which the play stops
pub stops_at : (number : ℕ) (p : Playing) (line : List ℕ) (column : ℕ) → read_line 64 line ≡ Err column → (play_line number p line).stop ≡ Some (record { line = number; column = column })
stops_at number p line column is = ap (λ (x : Played). x.stop) (play_line-reading number p line (Err column) is)

-- one call more that can be made
stays_legal : (p : Playing) (actor : ℕ) (event : Event) → actor < 64 → IsPossible event → (without : Reply) → StaysLegal p (answer_event p actor without (Some event)).playing
stays_legal p actor event actor_is possible without arena slots legal =
    let entry : Entry = record { actor = actor; event = event; reply = (next p.state actor event).reply } in
    record {
      legal = (IsLegalFrom-append p.history (entry ∷ []) (empty arena slots)).1 (
        legal.legal,
        (record { actor = actor_is; possible = possible; reply = ap (λ (s : State). (next s actor event).reply) legal.state }, tt),
      );
      state = ap (λ (s : State). (next s actor event).state) legal.state ∙ sym (after_entries-append p.history (entry ∷ []) (empty arena slots));
    }

-- what follows in a play, by the call that was made
record Following (p : Playing) (actor : ℕ) (without : Reply) (o : Option Event) (answer : Reply) (new : BookView) : Type 0 where
  reply : answer ≡ (answer_event p actor without o).reply
  state : StandsFor new (answer_event p actor without o).playing.state
  last : after_reply p.last actor answer ≡ (answer_event p actor without o).playing.last
  legal : StaysLegal p (answer_event p actor without o).playing

-- what is answered without a call names no place
unresolved_last : (asked : Asked) (last : LastPlaces) → last_after last (unresolved asked) ≡ last
unresolved_last (Plain event) last = refl
unresolved_last (OnCursor place event) last = refl
unresolved_last (OnReservation place event) last = refl

follows_in : (p : Playing) (actor : ℕ) (asked : Asked) (o : Option Event) (answer : Reply) (old new : BookView) → StandsFor old p.state → IsMadeBy (BookAnswers actor) (unresolved asked) o answer old new → Following p actor (unresolved asked) o answer new
follows_in p actor asked None answer old new stands made = record {
  reply = made.0;
  state = subst (λ (b : BookView). StandsFor b p.state) (sym made.1) stands;
  last = ap (after_reply p.last actor) made.0 ∙ ap (set p.last actor) (unresolved_last asked (slice_index_or p.last actor no_places)) ∙ set-get_or p.last actor no_places;
  legal = λ arena slots legal. legal;
}
follows_in p actor asked (Some event) answer old new stands made =
    let follows = made.answers p.state stands in
    record {
      reply = follows.reply;
      state = follows.state;
      last = ap (after_reply p.last actor) follows.reply;
      legal = stays_legal p actor event made.actor made.possible (unresolved asked);
    }

-- the order of an actor was answered
pub answers_order : (p : Playing) (order : Order) (old new : PlayerView) (last : LastPlaces) (text : List ℕ)
    → AnswersLine (BookAnswers order.actor) order.asked old.book (slice_index_or old.last order.actor no_places) new.book last text
    → new.last ≡ set old.last order.actor last → StandsForPlay old p → AnswersOrder p (answer_order p order) new text
answers_order p order old new last text line noted stands =
    let known = follows_in p order.actor order.asked (resolved (slice_index_or p.last order.actor no_places) order.asked) line.reply old.book new.book stands.state
    (subst (λ (ls : List LastPlaces). IsMadeBy (BookAnswers order.actor) (unresolved order.asked) (resolved (slice_index_or ls order.actor no_places) order.asked) line.reply old.book new.book) stands.last line.call) in
    record {
      stands = record {
        state = known.state;
        last = noted ∙ ap (set old.last order.actor) line.last ∙ ap (λ (ls : List LastPlaces). after_reply ls order.actor line.reply) stands.last ∙ known.last;
      };
      legal = known.legal;
      written = line.written ∙ ap answer_line known.reply;
    }

-- a line whose order was answered
module _ (number : ℕ) (p : Playing) (line : List ℕ) (order : Order) (is : read_line 64 line ≡ Ok (Some order)) (player : PlayerView) (piece : List ℕ)
    (answers : AnswersOrder p (answer_order p order) player piece) (old new : SinkRecord) where
  pub answered_whole : Takes old piece new → LineGives (Ok tt) p (play_line number p line) player old new
  answered_whole taken =
      subst (λ (x : Played). LineGives (Ok tt) p x player old new) (sym (play_line-reading number p line (Ok (Some order)) is))
      (refl, answers.stands, subst (λ (t : List ℕ). Takes old t new) answers.written taken, answers.legal)

  pub answered_front : Rose old.faults new.faults → WritesFront old piece new → LineGives (Err stop.SinkFault) p (play_line number p line) player old new
  answered_front failed front =
      subst (λ (x : Played). LineGives (Err stop.SinkFault) p x player old new) (sym (play_line-reading number p line (Ok (Some order)) is))
      (refl, failed, subst (λ (t : List ℕ). WritesFront old t new) answers.written front, answers.legal)
