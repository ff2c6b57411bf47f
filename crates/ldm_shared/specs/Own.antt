-- The entries of actors in a history.
use Rattle.std.specs.Prelude.{◌≡◌, ℕ, ◌<◌, ◌==◌, ◌++◌, List, [], ◌∷◌, filter}
use mathlib.Core.List.{IsPrefix}
use Rattle.ldm_model.specs.declared.event.Entry.{Entry}

-- the entries of an actor
abbrev pub own : ℕ → List Entry → List Entry
own actor history = filter (λ (entry : Entry). entry.actor == actor) history

-- all actors of a history are below a number
abbrev pub AreBelow : ℕ → List Entry → Type 0
AreBelow passes [] = Unit {0}
AreBelow passes (entry ∷ entries) = (entry.actor < passes) × AreBelow passes entries

-- A history goes on, and the entries of an actor in it are those that it had, and then these.
pub record Adds (actor : ℕ) (old new made : List Entry) : Type 0 where
  pub begins : IsPrefix old new
  pub own : own actor new ≡ own actor old ++ made
