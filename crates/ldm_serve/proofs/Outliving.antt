-- Records that were answered, behind others: those that the session outlived, and the one that it does not outlive.
use Rattle.std.proofs.Common.{◌≡◌, ℕ, Bool, true, false, List, [], ◌∷◌, ◌++◌, refl, ap, sym, ◌∙◌, append_assoc, append-nil}
use Rattle.std.specs.Prelude.{◌&&◌, map}
use Rattle.std.specs.List.{list_all}
use Rattle.std.proofs.lemmas.Bool.{false≢true}
use Rattle.std.proofs.lemmas.List.{map-append}
use Rattle.std.proofs.lemmas.List.Concat.{flat_map-append}
use Rattle.ldm_types.specs.declared.class.ClassSpec.{ClassSpec}
use Rattle.ldm_relay.specs.Sent.{Sent}
use Rattle.ldm_serve.specs.Client.{Client}
use Rattle.ldm_serve.specs.Steps.{AllOutlived, AreSteps, IsStep, Step, asked_for, instants_of, is_outlived, messages_of, response_of}
use Rattle.ldm_serve.specs.Outlived.{Answered, AreOutlived, IsNarrowedTo, Narrowed, Outlived, instants_for, instants_for_all, messages_for, messages_for_all, narrower, step_of}
use Rattle.ldm_serve.specs.Connection.{Answers, instants_in, messages_in, steps_in}
use Rattle.ldm_serve.specs.Rounds.{outliving}

-- ---- lists

module _ {A : Type 0} where
  -- a front and what is behind it, with an empty list at the end of either
  behind-nil : (whole front more last all : List A) → whole ≡ front ++ more → all ≡ more ++ last → whole ++ last ≡ (front ++ []) ++ all
  behind-nil whole front more last all is all_is =
      ap (λ (xs : List A). xs ++ last) is ∙ append_assoc front more last ∙ ap (λ (xs : List A). front ++ xs) (sym all_is)
      ∙ ap (λ (xs : List A). xs ++ all) (sym (append-nil front))

  within-nil : (front said more : List A) → (front ++ ((said ++ more) ++ [])) ++ [] ≡ (front ++ (said ++ [])) ++ more
  within-nil front said more =
      append-nil (front ++ ((said ++ more) ++ [])) ∙ ap (λ (xs : List A). front ++ xs) (append-nil (said ++ more)) ∙ sym (append_assoc front said more)
      ∙ ap (λ (xs : List A). (front ++ xs) ++ more) (sym (append-nil said))

-- ---- records that the session outlived

abbrev pub answered : List Step → List Outlived
answered steps = map (λ (step : Step). Answered step) steps

steps-answered : (steps : List Step) → map step_of (answered steps) ≡ steps
steps-answered [] = refl
steps-answered (step ∷ steps) = ap (λ (rest : List Step). step ∷ rest) (steps-answered steps)

both-true : (a b : Bool) → a && b ≡ true → (a ≡ true) × (b ≡ true)
both-true true b is = (refl, is)
both-true false b is = absurd (false≢true is)

module _ (client : Client) where
  messages-answered : (steps : List Step) → messages_for_all client (answered steps) ≡ messages_of steps
  messages-answered [] = refl
  messages-answered (step ∷ steps) = ap (λ (rest : List Sent). step.messages ++ rest) (messages-answered steps)

  instants-answered : (steps : List Step) → instants_for_all client (answered steps) ≡ instants_of client steps
  instants-answered [] = refl
  instants-answered (step ∷ steps) = ap (λ (rest : List ℕ). asked_for (response_of client step) step.now ++ rest) (instants-answered steps)

  outlived-answered : (steps : List Step) → AreSteps client steps → AllOutlived client steps → AreOutlived client (answered steps)
  outlived-answered [] are all = tt
  outlived-answered (step ∷ steps) are all =
      let both = both-true (is_outlived client step) (list_all (is_outlived client) steps) all in
      ((are.0, both.0), outlived-answered steps are.1 both.1)

  outlived-append : (xs ys : List Outlived) → AreOutlived client xs → AreOutlived client ys → AreOutlived client (xs ++ ys)
  outlived-append [] ys first second = second
  outlived-append (x ∷ xs) ys first second = (first.0, outlived-append xs ys first.1 second)

  -- ---- answers, and then more

  -- The answers, and behind them those to these steps, with these messages and instants.
  pub record Extends (a b : Answers) (steps : List Step) (messages : List Sent) (instants : List ℕ) : Type 0 where
    pub outlived : AreOutlived client b.outlived
    pub last : AreSteps client b.last
    pub steps_are : steps_in b ≡ steps_in a ++ steps
    pub messages_are : messages_in client b ≡ messages_in client a ++ messages
    pub instants_are : instants_in client b ≡ instants_in client a ++ instants
    pub more : List Outlived
    pub grows : b.outlived ≡ a.outlived ++ more

  module _ (before : List Outlived) (outlived : AreOutlived client before) where
    steps-behind : (steps : List Step) → map step_of (before ++ answered steps) ≡ map step_of before ++ steps
    steps-behind steps = map-append step_of before (answered steps) ∙ ap (λ (xs : List Step). map step_of before ++ xs) (steps-answered steps)

    messages-behind : (steps : List Step) → messages_for_all client (before ++ answered steps) ≡ messages_for_all client before ++ messages_of steps
    messages-behind steps =
        flat_map-append (messages_for client) before (answered steps)
        ∙ ap (λ (xs : List Sent). messages_for_all client before ++ xs) (messages-answered steps)

    instants-behind : (steps : List Step) → instants_for_all client (before ++ answered steps) ≡ instants_for_all client before ++ instants_of client steps
    instants-behind steps =
        flat_map-append (instants_for client) before (answered steps)
        ∙ ap (λ (xs : List ℕ). instants_for_all client before ++ xs) (instants-answered steps)

    -- more records that the session outlived
    pub extends-answered : (steps : List Step) → AreSteps client steps → AllOutlived client steps
        → Extends (outliving before) (outliving (before ++ answered steps)) steps (messages_of steps) (instants_of client steps)
    extends-answered steps are all = record {
      outlived = outlived-append before (answered steps) outlived (outlived-answered steps are all);
      last = tt;
      steps_are = behind-nil (map step_of (before ++ answered steps)) (map step_of before) steps [] steps (steps-behind steps) (sym (append-nil steps));
      messages_are = behind-nil (messages_for_all client (before ++ answered steps)) (messages_for_all client before) (messages_of steps) [] (messages_of steps)
          (messages-behind steps) (sym (append-nil (messages_of steps)));
      instants_are = behind-nil (instants_for_all client (before ++ answered steps)) (instants_for_all client before) (instants_of client steps) [] (instants_of client steps)
          (instants-behind steps) (sym (append-nil (instants_of client steps)));
      more = answered steps;
      grows = refl;
    }

    -- the same, and one that it does not outlive
    pub extends-ended : (steps : List Step) (last : Step) → AreSteps client steps → AllOutlived client steps → IsStep client last
        → Extends (outliving before) (record { outlived = before ++ answered steps; last = last ∷ [] }) (steps ++ last ∷ []) (messages_of (steps ++ last ∷ []))
        (instants_of client (steps ++ last ∷ []))
    extends-ended steps last are all is_last = record {
      outlived = outlived-append before (answered steps) outlived (outlived-answered steps are all);
      last = (is_last, tt);
      steps_are = behind-nil (map step_of (before ++ answered steps)) (map step_of before) steps (last ∷ []) (steps ++ last ∷ []) (steps-behind steps) refl;
      messages_are = behind-nil (messages_for_all client (before ++ answered steps)) (messages_for_all client before) (messages_of steps) (messages_of (last ∷ []))
          (messages_of (steps ++ last ∷ [])) (messages-behind steps) (flat_map-append (λ (step : Step). step.messages) steps (last ∷ []));
      instants_are = behind-nil (instants_for_all client (before ++ answered steps)) (instants_for_all client before) (instants_of client steps) (instants_of client (last ∷ []))
          (instants_of client (steps ++ last ∷ [])) (instants-behind steps)
          (flat_map-append (λ (step : Step). asked_for (response_of client step) step.now) steps (last ∷ []));
      more = answered steps;
      grows = refl;
    }

    -- the last one is a request for a class of which a part is left to the host
    pub extends-narrowed : (last : Step) (fewer : ClassSpec) (at : ℕ) → IsStep client last → IsNarrowedTo client (response_of client last) fewer
        → Extends (record { outlived = before; last = last ∷ [] }) (outliving (before ++ Narrowed last fewer at ∷ [])) []
        (narrower (response_of client last) fewer) (at ∷ [])
    extends-narrowed last fewer at is_last narrowed =
        let now = Narrowed last fewer at in
        record {
          outlived = outlived-append before (now ∷ []) outlived ((is_last, narrowed), tt);
          last = tt;
          steps_are = ap (λ (xs : List Step). xs ++ []) (map-append step_of before (now ∷ []));
          messages_are = ap (λ (xs : List Sent). xs ++ []) (flat_map-append (messages_for client) before (now ∷ []))
              ∙ within-nil (messages_for_all client before) last.messages (narrower (response_of client last) fewer);
          instants_are = ap (λ (xs : List ℕ). xs ++ []) (flat_map-append (instants_for client) before (now ∷ []))
              ∙ within-nil (instants_for_all client before) (asked_for (response_of client last) last.now) (at ∷ []);
          more = now ∷ [];
          grows = refl;
        }
