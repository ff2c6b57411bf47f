-- What contracts see of a shared queue and of its passes, and how a pass grows.
use Rattle.std.specs.Prelude.{◌≡◌, ℕ, ◌<◌, ◌≤◌, ◌++◌, ◌⊎◌, List, [], ◌∷◌, length, map, Option, Some, None}
use Rattle.std.specs.List.{All, Contains}
use mathlib.Core.List.{IsPrefix}
use Rattle.atomic_table.specs.Seated.{TableId}
use Rattle.ldm_model.specs.declared.event.Event.{Event}
use Rattle.ldm_model.specs.declared.event.Reply.{Reply}
use Rattle.ldm_model.specs.declared.event.Entry.{Entry}
use Rattle.ldm_model.specs.History.{IsLegal}
use Rattle.ldm_shared.specs.Own.{AreBelow, Adds}
use Rattle.ldm_shared.specs.declared.steps.TheConstants.{MOST_TURNS}

-- Which queue it is, and how large: bytes of the arena, product slots, and passes.
pub record SharedView : Type 0 where
  pub queue : TableId
  pub arena : ℕ
  pub slots : ℕ
  pub passes : ℕ

pub record PassView : Type 0 where
  -- its queue, while that lasts
  pub queue : Option TableId
  pub arena : ℕ
  pub slots : ℕ
  pub passes : ℕ
  pub actor : ℕ
  -- the history that it has seen
  pub seen : List Entry

-- a pass is of a queue
pub record IsPassOf (shared : SharedView) (pass : PassView) : Type 0 where
  pub queue : pass.queue ≡ Some shared.queue
  pub arena : pass.arena ≡ shared.arena
  pub slots : pass.slots ≡ shared.slots
  pub passes : pass.passes ≡ shared.passes

-- a pass that has seen nothing
abbrev pub new_pass : SharedView → ℕ → PassView
new_pass shared actor = record {
  queue = Some shared.queue;
  arena = shared.arena;
  slots = shared.slots;
  passes = shared.passes;
  actor = actor;
  seen = [];
}

-- The pass has seen a history that a queue of its sizes can have, with calls of its passes alone.
pub record HasSeen (pass : PassView) : Type 0 where
  pub legal : IsLegal pass.arena pass.slots pass.seen
  pub below : AreBelow pass.passes pass.seen
  pub few : length pass.seen ≤ MOST_TURNS

-- the same pass, which may have seen more
abbrev pub IsSamePass : PassView → PassView → Type 0
IsSamePass old new = new ≡ record old { seen = new.seen }

-- From an old pass to a new one just these calls were made with it, in order: each is an entry, with its event and its reply.
pub record Makes (old new : PassView) (made : List Entry) : Type 0 where
  pub same : IsSamePass old new
  pub adds : Adds old.actor old.seen new.seen made
  pub has_seen : HasSeen new

-- From an old pass to a new one just these calls were made with it, in order, perhaps none. Where none was made, and it did not look
-- either, nothing is known of what it had seen.
pub record Calls (old new : PassView) (made : List Entry) : Type 0 where
  pub same : IsSamePass old new
  pub adds : Adds old.actor old.seen new.seen made
  pub has_seen : (new ≡ old) ⊎ HasSeen new

-- the entry of a call of a pass
abbrev pub entry_of : PassView → Event → Reply → Entry
entry_of pass event reply = record { actor = pass.actor; event = event; reply = reply }

-- A pass grows by a call: just this call was made with it, and its entry is the last that the pass has seen.
pub record Grows (old new : PassView) (event : Event) (reply : Reply) : Type 0 where
  pub makes : Makes old new (entry_of old event reply ∷ [])
  pub before : List Entry
  pub last : new.seen ≡ before ++ entry_of old event reply ∷ []

-- A pass finds that the queue has had all its calls, and that it can have no more: no call was made with it.
pub record FindsWorn (old new : PassView) (turns : ℕ) : Type 0 where
  pub turns_are : turns ≡ MOST_TURNS
  pub makes : Makes old new []
  pub long : length new.seen ≡ turns

-- A pass has met another one: it has seen all that either had seen, and no call was made with it.
pub record HasMet (old other new : PassView) : Type 0 where
  pub makes : Makes old new []
  pub its : IsPrefix other.seen new.seen

-- of two histories one begins the other
abbrev pub AreInLine : List Entry → List Entry → Type 0
AreInLine xs ys = IsPrefix xs ys ⊎ IsPrefix ys xs

-- these passes are of a queue, and are all that it was made with
pub record AreAllOf (shared : SharedView) (passes : List PassView) : Type 0 where
  pub of : All (IsPassOf shared) passes
  pub all : (actor : ℕ) → actor < shared.passes → Contains (map (λ (pass : PassView). pass.actor) passes) actor

-- The pass that is left at the end of a queue: it is of no queue, and has seen a history of this one.
pub record IsLast (shared : SharedView) (last : PassView) : Type 0 where
  pub ended : last ≡ record { queue = None; arena = shared.arena; slots = shared.slots; passes = shared.passes; actor = last.actor; seen = last.seen }
  pub has_seen : HasSeen last

-- what the last pass has seen begins with what a pass had seen, and has no other entries of its actor
abbrev pub HasAllOf : PassView → PassView → Type 0
HasAllOf last pass = Adds pass.actor pass.seen last.seen []
