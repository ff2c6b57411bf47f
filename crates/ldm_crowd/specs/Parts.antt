-- How far an actor comes with its lines, and what its gate is asked and told.
use Rattle.std.specs.Prelude.{◌≡◌, ◌⊎◌, ℕ, zero, suc, List, [], ◌∷◌, ◌++◌, length, take}
use Rattle.ldm_outside.specs.declared.gate.GateCall.{GateCall}
use Rattle.ldm_outside.specs.declared.gate.GateCall.TheVariants.{Before, After}
use Rattle.ldm_outside.specs.Gate.{GateRecord, HasCalls}
use Rattle.ldm_model.specs.declared.event.Entry.{Entry}
use Rattle.ldm_script.specs.Order.{Asked}
use Rattle.ldm_script.specs.Resolve.{no_places}
use Rattle.ldm_crowd.specs.Lines.{AreEntriesOf}
use Rattle.ldm_crowd.specs.Interleaving.{IsFront, actor_text}

-- the gate is asked before the line of that number, and told after it
abbrev pub passing : ℕ → ℕ → List GateCall
passing actor i = Before actor i ∷ After actor i ∷ []

-- so for the first lines of an actor, in order
abbrev pub passings : ℕ → ℕ → List GateCall
passings actor zero = []
passings actor (suc i) = passings actor i ++ passing actor i

-- and then it let one more line pass, whose call was not made
abbrev pub passings_and_one : ℕ → ℕ → List GateCall
passings_and_one actor count = passings actor count ++ Before actor count ∷ []

-- what is seen of one actor of a crowd
pub record Part : Type 0 where
  -- its entries in the history
  pub entries : List Entry
  -- what was answered to its lines
  pub text : List ℕ
  -- what its gate told before, and what it tells now
  pub gate_before : GateRecord
  pub gate : GateRecord

-- An actor played the first of its lines: the text is the answers to them, and the gate was asked and told the calls that belong to so
-- many lines.
pub record Played (calls : ℕ → List GateCall) (actor : ℕ) (lines : List Asked) (part : Part) : Type 0 where
  pub front : IsFront lines part.entries
  pub answered : part.text ≡ actor_text actor (take front.count lines) part.entries
  pub asked : HasCalls (calls front.count) part.gate_before part.gate

-- An actor came so far: its gate was asked before and told after each line that it played, and let at most one more pass.
abbrev pub Came : ℕ → List Asked → Part → Type 0
Came actor lines part = Played (passings actor) actor lines part ⊎ Played (passings_and_one actor) actor lines part

-- an actor played all its lines
pub record PlayedAll (actor : ℕ) (lines : List Asked) (part : Part) : Type 0 where
  pub made : AreEntriesOf no_places lines part.entries
  pub answered : part.text ≡ actor_text actor lines part.entries
  pub asked : HasCalls (passings actor (length lines)) part.gate_before part.gate
