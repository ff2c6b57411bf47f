-- Plays whose calls are a legal history of the queue.
use Rattle.std.specs.Prelude.{◌≡◌, ℕ}
use Rattle.ldm_model.specs.History.{IsLegal, after}
use Rattle.ldm_script.specs.Resolve.{Playing}

-- The calls of a play so far are a legal history of a queue of that size, and lead to the state of the play.
pub record IsLegalPlay (arena slots : ℕ) (p : Playing) : Type 0 where
  pub legal : IsLegal arena slots p.history
  pub state : p.state ≡ after arena slots p.history

-- Where the calls of one play are a legal history, those of a later one are too.
abbrev pub StaysLegal : Playing → Playing → Type 0
StaysLegal p later = (arena slots : ℕ) → IsLegalPlay arena slots p → IsLegalPlay arena slots later
