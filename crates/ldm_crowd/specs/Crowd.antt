-- How a crowd ends.
use Rattle.std.specs.Prelude.{◌≡◌, ℕ, ◌<◌, ◌≤◌, List, [], length, slice_index_or, None}
use Rattle.ldm_outside.specs.Count.{Rose}
use Rattle.ldm_outside.specs.Gate.{GateRecord, HasCalls}
use Rattle.ldm_model.specs.declared.event.Entry.{Entry}
use Rattle.ldm_script.specs.Order.{Asked}
use Rattle.ldm_shared.specs.Own.{own, AreBelow}
use Rattle.ldm_shared.specs.declared.steps.TheConstants.{MOST_TURNS}
use Rattle.ldm_crowd.specs.declared.outcome.CrowdEnd.{CrowdEnd}
use Rattle.ldm_crowd.specs.declared.outcome.CrowdEnd.TheVariants as crowd_end
use Rattle.ldm_crowd.specs.Interleaving.{IsInterleaving, lines_of_actor, texts_from}
use Rattle.ldm_crowd.specs.Parts.{Part, Came, passings}

-- What a crowd comes to: the history of all calls, the answers to each actor, and what its gates told before and tell now.
pub record Outcome : Type 0 where
  pub history : List Entry
  pub answers : List (List ℕ)
  pub gates_before : List GateRecord
  pub gates : List GateRecord

-- what the gate of an actor tells
abbrev pub gate_of : List GateRecord → ℕ → GateRecord
gate_of gates actor = slice_index_or gates actor (record { stops = 0; idles = None; calls = None })

-- what is seen of an actor
abbrev pub part_of : Outcome → ℕ → Part
part_of outcome actor = record {
  entries = own actor outcome.history;
  text = slice_index_or outcome.answers actor [];
  gate_before = gate_of outcome.gates_before actor;
  gate = gate_of outcome.gates actor;
}

-- Each gate was asked before each line of its actor, and told after it, in order.
abbrev pub AllAsked : List (List Asked) → Outcome → Type 0
AllAsked script outcome =
    (actor : ℕ) → actor < length script → HasCalls (passings actor (length (lines_of_actor script actor))) (gate_of outcome.gates_before actor) (gate_of outcome.gates actor)

-- Each actor played the first of its lines, and nobody else made a call.
pub record HasCome (script : List (List Asked)) (outcome : Outcome) : Type 0 where
  pub below : AreBelow (length script) outcome.history
  pub each : (actor : ℕ) → actor < length script → Came actor (lines_of_actor script actor) (part_of outcome actor)

-- By its end, what a crowd comes to with a script.
abbrev pub CrowdEnds : CrowdEnd → List (List Asked) → Outcome → Type 0
-- all lines were played: the history is an interleaving of the script, and the answers are those of it
CrowdEnds crowd_end.Done script outcome =
    IsInterleaving script outcome.history × (outcome.answers ≡ texts_from 0 script outcome.history) × AllAsked script outcome
-- some gate stopped
CrowdEnds crowd_end.Stopped script outcome =
    HasCome script outcome × ((actor : ℕ) × (actor < length script) × Rose (gate_of outcome.gates_before actor).stops (gate_of outcome.gates actor).stops)
-- the queue has had all its calls
CrowdEnds crowd_end.Worn script outcome = HasCome script outcome × (length outcome.history ≡ MOST_TURNS)
-- there is no memory
CrowdEnds crowd_end.OutOfMemory script outcome = HasCome script outcome

-- there are as many gates as before, and no gate's count fell
pub record StopsKept (old new : List GateRecord) : Type 0 where
  pub count : length new ≡ length old
  pub kept : (actor : ℕ) → actor < length old → (gate_of old actor).stops ≤ (gate_of new actor).stops
