-- How far a player came with the lines of its actor.
use Rattle.std.specs.Prelude.{◌≡◌, ℕ, ◌<◌, ◌≤◌, List, [], ◌∷◌, ◌++◌, length, take, Result, Ok, Err}
use Rattle.ldm_outside.specs.Count.{Rose}
use Rattle.ldm_outside.specs.declared.gate.GateCall.TheVariants.{Before}
use Rattle.ldm_outside.specs.Gate.{GateRecord, HasCalls}
use Rattle.ldm_model.specs.declared.event.Reply.{Reply}
use Rattle.ldm_script.specs.Order.{Asked}
use Rattle.ldm_script.specs.declared.order.LastPlaces.{LastPlaces}
use Rattle.ldm_script.specs.Resolve.{no_places, resolved, unresolved, last_after}
use Rattle.ldm_shared.specs.Own.{own}
use Rattle.ldm_shared.specs.Passes.{PassView, FindsWorn}
use Rattle.ldm_shared.specs.declared.steps.TheConstants.{MOST_TURNS}
use Rattle.ldm_crowd.specs.declared.outcome.CrowdEnd.{CrowdEnd}
use Rattle.ldm_crowd.specs.declared.outcome.CrowdEnd.TheVariants as crowd_end
use Rattle.ldm_crowd.specs.declared.player.Player.{Player}
use Rattle.ldm_crowd.specs.declared.player.Worker.{Worker}
use Rattle.ldm_crowd.specs.Calls.{GrowsBy}
use Rattle.ldm_crowd.specs.Lines.{AreEntriesOf, last_of}
use Rattle.ldm_crowd.specs.Interleaving.{actor_text, crowd_line, lines_of_actor}
use Rattle.ldm_crowd.specs.Parts.{Part, Played, PlayedAll, passing, passings, passings_and_one}

-- the first lines were played: the pass has their entries, the answers are those to them, and the places that were opened and reserved last are
-- known
pub record HasPlayed (lines : List Asked) (count : ℕ) (pass : PassView) (last : LastPlaces) (answers : List ℕ) : Type 0 where
  pub within : count ≤ length lines
  pub made : AreEntriesOf no_places (take count lines) (own pass.actor pass.seen)
  pub last_is : last ≡ last_of no_places (take count lines) (own pass.actor pass.seen)
  pub answered : answers ≡ actor_text pass.actor (take count lines) (own pass.actor pass.seen)

-- what is seen of the actor of a pass
abbrev pub part_seen : PassView → List ℕ → GateRecord → GateRecord → Part
part_seen pass answers old new = record { entries = own pass.actor pass.seen; text = answers; gate_before = old; gate = new }

-- How a player ended, with what its pass has seen and what it was answered.
abbrev pub PlayerEnds : CrowdEnd → List Asked → PassView → List ℕ → GateRecord → GateRecord → Type 0
-- all lines were played
PlayerEnds crowd_end.Done lines pass answers old new = PlayedAll pass.actor lines (part_seen pass answers old new)
-- the gate stopped
PlayerEnds crowd_end.Stopped lines pass answers old new =
    Rose old.stops new.stops × Played (passings pass.actor) pass.actor lines (part_seen pass answers old new)
-- the queue has had all its calls
PlayerEnds crowd_end.Worn lines pass answers old new =
    (length pass.seen ≡ MOST_TURNS) × Played (passings_and_one pass.actor) pass.actor lines (part_seen pass answers old new)
-- there is no memory
PlayerEnds crowd_end.OutOfMemory lines pass answers old new = Played (passings pass.actor) pass.actor lines (part_seen pass answers old new)

-- what a call ends as that may fail
abbrev pub end_of_result : Result (Unit {0}) CrowdEnd → CrowdEnd
end_of_result (Ok _) = crowd_end.Done
end_of_result (Err end) = end

-- A line was played: its call was made, where it has one; the place is noted that this opened or reserved, the answer is written, and the gate was
-- asked before and told after.
pub record PlaysLine {G : Type 0} (tells : G → GateRecord) (i : ℕ) (asked : Asked) (old_pass : PassView) (old : Player G) (new_pass : PassView) (new : Player G) : Type 0 where
  pub reply : Reply
  pub grows : GrowsBy (unresolved asked) (resolved old.last asked) reply old_pass new_pass
  pub last_is : new.last ≡ last_after old.last reply
  pub answered : new.answers.items ≡ old.answers.items ++ crowd_line old_pass.actor reply
  pub passed : HasCalls (passing old_pass.actor i) (tells old.gate) (tells new.gate)

-- how the play of a line failed: no call was made
abbrev pub LineFails : {G : Type 0} → (G → GateRecord) → CrowdEnd → ℕ → PassView → Player G → PassView → Player G → Type 0
LineFails tells crowd_end.Done i old_pass old new_pass new = ⊥
-- the gate stopped
LineFails tells crowd_end.Stopped i old_pass old new_pass new =
    (new_pass ≡ old_pass) × HasCalls [] (tells old.gate) (tells new.gate) × Rose (tells old.gate).stops (tells new.gate).stops
-- the gate let it pass, but the queue has had all its calls
LineFails tells crowd_end.Worn i old_pass old new_pass new =
    ((turns : ℕ) × FindsWorn old_pass new_pass turns) × HasCalls (Before old_pass.actor i ∷ []) (tells old.gate) (tells new.gate)
-- there is no memory for an answer
LineFails tells crowd_end.OutOfMemory i old_pass old new_pass new = (new_pass ≡ old_pass) × HasCalls [] (tells old.gate) (tells new.gate)

-- A player begins: it plays an actor of the script with a pass with which no call was made, and has no answers.
pub record Begins {G : Type 0} (script : List (List Asked)) (pass : PassView) (player : Player G) : Type 0 where
  pub unseen : pass.seen ≡ []
  pub actor : pass.actor < length script
  pub unopened : player.last ≡ no_places
  pub unanswered : player.answers.items ≡ []

-- a player played, up to its end
pub record Plays {G : Type 0} (tells : G → GateRecord) (script : List (List Asked)) (old_pass : PassView) (old : Player G) (new_pass : PassView) (new : Player G) : Type 0 where
  pub ended : PlayerEnds new.end (lines_of_actor script old_pass.actor) new_pass new.answers.items (tells old.gate) (tells new.gate)
  pub stops_kept : (tells old.gate).stops ≤ (tells new.gate).stops

-- a player that was answered nothing yet
abbrev pub IsNew : {G : Type 0} → Worker G → Type 0
IsNew worker = (worker.player.last ≡ no_places) × (worker.player.answers.items ≡ [])
