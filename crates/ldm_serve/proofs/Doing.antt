-- Steps, one behind the other.
use Rattle.std.proofs.Common.{◌≡◌, ℕ, Bool, List, [], ◌∷◌, ◌++◌, Option, Some, None, refl, sym, ap, subst, ◌∙◌, inl, inr, append_assoc, append-nil}
use Rattle.std.proofs.lemmas.List.{map-append}
use Rattle.std.proofs.lemmas.List.Concat.{flat_map-append}
use Rattle.std.proofs.lemmas.List.Folds.{list_all-append}
use Rattle.std.specs.Prelude.{◌&&◌}
use Rattle.std.specs.List.{list_all}
use Rattle.std.specs.Option.{option_map}
use Rattle.ldm_model.specs.declared.event.Entry.{Entry}
use Rattle.ldm_outside.specs.Clock.{ClockRecord}
use Rattle.ldm_outside.specs.Told.{TellsMore}
use Rattle.ldm_relay.specs.Sent.{Sent}
use Rattle.ldm_relay.specs.Spelling.{written, record_of, records_of}
use Rattle.ldm_rpc.specs.Streams.{Placed}
use Rattle.ldm_session.specs.Exchange.{AnsweredAll}
use Rattle.ldm_shared.specs.Passes.{Calls}
use Rattle.ldm_shared.proofs.Made.{calls_none, calls_trans}
use Rattle.ldm_intake.specs.Course.{Leads}
use Rattle.ldm_serve.specs.Answering.{answering}
use Rattle.ldm_serve.specs.Respond.{respond}
use Rattle.ldm_serve.specs.Response.{Response, Says, Puts, Figures, Feeds, Receives, Notifies, Refuses, Denies}
use Rattle.ldm_serve.specs.Responds.{AsksClock, IsGiven, Standing}
use Rattle.ldm_serve.specs.Client.{Client}
use Rattle.ldm_serve.specs.Steps.{AreSteps, Does, Step, asked_for, entries_of, instants_of, is_outlived, messages_of, placed_of, response_of}
use Rattle.ldm_serve.specs.Turns.{AnswersAll}

-- ---- the clock

answers_none : (answers : Option (List ℕ)) → answers ≡ option_map (λ (before : List ℕ). before ++ []) answers
answers_none None = refl
answers_none (Some before) = ap (λ (x : List ℕ). Some x) (sym (append-nil before))

answers_more : (instants more : List ℕ) (answers : Option (List ℕ))
    → option_map (λ (before : List ℕ). before ++ more) (option_map (λ (before : List ℕ). before ++ instants) answers) ≡ option_map (λ (before : List ℕ). before ++ (instants ++ more)) answers
answers_more instants more None = refl
answers_more instants more (Some before) = ap (λ (x : List ℕ). Some x) (append_assoc before instants more)

tells_then : (instants more : List ℕ) (a b c : Option (List ℕ)) → TellsMore (λ (before : List ℕ). before ++ instants) a b → TellsMore (λ (before : List ℕ). before ++ more) b c
    → TellsMore (λ (before : List ℕ). before ++ (instants ++ more)) a c
tells_then instants more a b c one (inr silent) = inr silent
tells_then instants more a b c (inl one) (inl two) = inl (two ∙ ap (option_map (λ (before : List ℕ). before ++ more)) one ∙ answers_more instants more a)
tells_then instants more a b c (inr silent) (inl two) = inr (two ∙ ap (option_map (λ (before : List ℕ). before ++ more)) silent)

answered_none : (clock : ClockRecord) → AnsweredAll [] clock clock
answered_none clock = inl (answers_none clock.answers)

answered_then : (instants more : List ℕ) (a b c : ClockRecord) → AnsweredAll instants a b → AnsweredAll more b c → AnsweredAll (instants ++ more) a c
answered_then instants more a b c one two = tells_then instants more a.answers b.answers c.answers one two

not_asked : (old new : ClockRecord) → new ≡ old → AnsweredAll [] old new
not_asked old new same = subst (λ (clock : ClockRecord). AnsweredAll [] old clock) (sym same) (answered_none old)

-- what one response asked of the clock
asked-answered : (response : Response) (now : ℕ) (old new : ClockRecord) → AsksClock response now old new → AnsweredAll (asked_for response now) old new
asked-answered (Puts xid info body) now old new asks = asks
asked-answered (Says messages) now old new asks = not_asked old new asks
asked-answered (Figures xid) now old new asks = not_asked old new asks
asked-answered (Feeds xid class max_hereis) now old new asks = not_asked old new asks
asked-answered (Receives class messages) now old new asks = not_asked old new asks
asked-answered (Notifies xid class) now old new asks = not_asked old new asks
asked-answered (Refuses messages) now old new asks = not_asked old new asks
asked-answered (Denies rule messages) now old new asks = not_asked old new asks

-- ---- no step, and steps behind others

module _ (client : Client) where
  pub does-none : (here : Standing) → here.pass.actor ≡ client.actor → Does client [] here here
  does-none here by = record { by = by; are = tt; calls = calls_none here.pass; clock = answered_none here.clock; sends = sym (append-nil here.out) }

  are-append : (xs ys : List Step) → AreSteps client xs → AreSteps client ys → AreSteps client (xs ++ ys)
  are-append [] ys first second = second
  are-append (x ∷ xs) ys first second = (first.0, are-append xs ys first.1 second)

  pub does-then : (xs ys : List Step) (a b c : Standing) → Does client xs a b → Does client ys b c → Does client (xs ++ ys) a c
  does-then xs ys a b c first second = record {
    by = first.by;
    are = are-append xs ys first.are second.are;
    calls = subst (λ (made : List Entry). Calls a.pass c.pass made) (sym (flat_map-append (λ (step : Step). step.made) xs ys))
        (calls_trans a.pass b.pass c.pass (entries_of xs) (entries_of ys) first.calls second.calls);
    clock = subst (λ (instants : List ℕ). AnsweredAll instants a.clock c.clock) (sym (flat_map-append (λ (step : Step). asked_for (response_of client step) step.now) xs ys))
        (answered_then (instants_of client xs) (instants_of client ys) a.clock b.clock c.clock first.clock second.clock);
    sends = second.sends ∙ ap (λ (out : List ℕ). out ++ records_of (messages_of ys)) first.sends
        ∙ append_assoc a.out (records_of (messages_of xs)) (records_of (messages_of ys))
        ∙ ap (λ (records : List ℕ). a.out ++ records) (sym (flat_map-append (λ (m : Sent). record_of (written m)) (messages_of xs) (messages_of ys))
        ∙ ap records_of (sym (flat_map-append (λ (step : Step). step.messages) xs ys)));
  }

  pub answers-none : (here : Standing) → here.pass.actor ≡ client.actor → AnswersAll client [] here here
  answers-none here by = record { steps = []; placed = refl; outlived = refl; does = does-none here by }

  pub answers-then : (xs ys : List Placed) (a b c : Standing) → AnswersAll client xs a b → AnswersAll client ys b c → AnswersAll client (xs ++ ys) a c
  answers-then xs ys a b c first second = record {
    steps = first.steps ++ second.steps;
    placed = map-append (λ (step : Step). step.placed) first.steps second.steps
        ∙ ap (λ (front : List Placed). front ++ placed_of second.steps) first.placed ∙ ap (λ (rest : List Placed). xs ++ rest) second.placed;
    outlived = list_all-append (is_outlived client) first.steps second.steps
        ∙ ap (λ (b : Bool). b && list_all (is_outlived client) second.steps) first.outlived ∙ second.outlived;
    does = does-then first.steps second.steps a b c first.does second.does;
  }

  -- ---- one step

  abbrev pub step_of : (placed : Placed) (old new : Standing) → IsGiven (respond client placed.content) old new → Step
  step_of placed old new given = record { placed = placed; now = given.now; made = given.made; messages = given.messages }

  pub does-given : (placed : Placed) (old new : Standing) (given : IsGiven (respond client placed.content) old new)
      → old.pass.actor ≡ client.actor → Does client (step_of placed old new given ∷ []) old new
  does-given placed old new given by =
      let response = respond client placed.content in
      record {
        by = by;
        are = (subst (λ (actor : ℕ). Leads actor (answering response given.now) given.made given.messages) by given.leads, tt);
        calls = subst (λ (made : List Entry). Calls old.pass new.pass made) (sym (append-nil given.made)) given.calls;
        clock = subst (λ (instants : List ℕ). AnsweredAll instants old.clock new.clock) (sym (append-nil (asked_for response given.now)))
            (asked-answered response given.now old.clock new.clock given.asks_clock);
        sends = given.sends ∙ ap (λ (messages : List Sent). old.out ++ records_of messages) (sym (append-nil given.messages));
      }
