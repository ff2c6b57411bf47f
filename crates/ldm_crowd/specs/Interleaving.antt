-- Histories in which each actor makes the calls of its lines, and what is written for one.
use Rattle.std.specs.Prelude.{ℕ, ◌+◌, ◌<◌, ◌≤◌, List, [], ◌∷◌, ◌++◌, length, map, take, slice_index_or, decimal}
use Rattle.std.specs.List.{concat}
use Rattle.ldm_model.specs.declared.event.Event.TheVariants as event
use Rattle.ldm_model.specs.declared.event.Reply.{Reply}
use Rattle.ldm_model.specs.declared.event.Entry.{Entry}
use Rattle.ldm_model.specs.History.{after}
use Rattle.ldm_model.specs.Next.{next}
use Rattle.ldm_answers.specs.Answer.{answer_line}
use Rattle.ldm_script.specs.Order.{Asked}
use Rattle.ldm_script.specs.Resolve.{no_places}
use Rattle.ldm_shared.specs.Own.{own, AreBelow}
use Rattle.ldm_crowd.specs.Lines.{AreEntriesOf, replies_of}

-- A script has, for each actor, what its lines ask for, in order.
abbrev pub lines_of_actor : List (List Asked) → ℕ → List Asked
lines_of_actor script actor = slice_index_or script actor []

-- A history is an interleaving of a script: its entries of each actor are those of the actor's lines, in order, and it has no others.
pub record IsInterleaving (script : List (List Asked)) (history : List Entry) : Type 0 where
  pub below : AreBelow (length script) history
  pub each : (actor : ℕ) → actor < length script → AreEntriesOf no_places (lines_of_actor script actor) (own actor history)

-- an actor has made the calls of its first lines
pub record IsFront (lines : List Asked) (entries : List Entry) : Type 0 where
  pub count : ℕ
  pub within : count ≤ length lines
  pub made : AreEntriesOf no_places (take count lines) entries

-- In a history the entries of each actor are those of its first lines, and it has no others.
pub record IsBegun (script : List (List Asked)) (history : List Entry) : Type 0 where
  pub below : AreBelow (length script) history
  pub each : (actor : ℕ) → actor < length script → IsFront (lines_of_actor script actor) (own actor history)

-- the line that is written for a reply: the actor, a blank, and the answer line with its newline
abbrev pub crowd_line : ℕ → Reply → List ℕ
crowd_line actor reply = decimal actor ++ 32 ∷ answer_line reply

-- what is written for an actor, by its entries
abbrev pub actor_text : ℕ → List Asked → List Entry → List ℕ
actor_text actor lines entries = concat (map (crowd_line actor) (replies_of no_places lines entries))

-- what is written for each actor, of which the first has that number
abbrev pub texts_from : ℕ → List (List Asked) → List Entry → List (List ℕ)
texts_from actor [] history = []
texts_from actor (lines ∷ script) history = actor_text actor lines (own actor history) ∷ texts_from (actor + 1) script history

-- the reply to `stat` after a history
abbrev pub last_stat : ℕ → ℕ → List Entry → Reply
last_stat arena slots history = (next (after arena slots history) 0 event.Stat).reply

-- What is written for a script and a history: actor by actor the answers to its lines, and last the answer to `stat`.
abbrev pub crowd_text : ℕ → ℕ → List (List Asked) → List Entry → List ℕ
crowd_text arena slots script history = concat (texts_from 0 script history) ++ answer_line (last_stat arena slots history)
