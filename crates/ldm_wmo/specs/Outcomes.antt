-- What was met first of what tells in the status.
use Rattle.std.specs.Prelude.{ℕ, Bool, cond, List, [], ◌∷◌, Option, Some, None}
use Rattle.ldm_relay.specs.declared.message.PutAnswer.{PutAnswer}
use Rattle.ldm_tools.specs.Lines.{is_refused}
use Rattle.ldm_wmo.specs.Items.{Found, Bulletin, Bad}
use Rattle.ldm_wmo.specs.declared.outcome.Outcome.{Outcome}
use Rattle.ldm_wmo.specs.declared.outcome.Outcome.TheVariants as outcome

-- What an item came to: a PUT with this arrival, and this answer; or a line of the log.
pub data Step : Type 0 where
  Put : (arrival : ℕ) → (answer : PutAnswer) → Step
  Logged : Step

-- one, and what was met behind it
abbrev pub then_of : Outcome → Outcome → Outcome
then_of outcome.Clean behind = behind
then_of outcome.Bad behind = outcome.Bad
then_of outcome.Refused behind = outcome.Refused

-- what is met with a bulletin that the queue refused, or did not
abbrev pub outcome_of : Bool → Outcome
outcome_of refused = cond refused outcome.Refused outcome.Clean

abbrev pub outcome_in : Step → Outcome
outcome_in (Put arrival answer) = outcome_of (is_refused answer)
outcome_in Logged = outcome.Bad

-- what was met first
abbrev pub first_of : List Step → Outcome
first_of [] = outcome.Clean
first_of (step ∷ steps) = then_of (outcome_in step) (first_of steps)

-- the same of a stream that may end within a candidate
abbrev pub cut_outcome : Option ℕ → Outcome
cut_outcome None = outcome.Clean
cut_outcome (Some at) = outcome.Bad

-- what is met first of these items, where these are the answers, in order
abbrev pub owed_of : List Found → List PutAnswer → Outcome
owed_of [] answers = outcome.Clean
owed_of (Bad at ∷ items) answers = outcome.Bad
owed_of (Bulletin at seqno heading bytes ∷ items) [] = outcome.Clean
owed_of (Bulletin at seqno heading bytes ∷ items) (answer ∷ answers) = then_of (outcome_of (is_refused answer)) (owed_of items answers)
