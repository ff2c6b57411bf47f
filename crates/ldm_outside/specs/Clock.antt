-- What a clock answers.
use Rattle.std.specs.Prelude.{ℕ, List, [], ◌∷◌, ◌++◌, Option}
use Rattle.ldm_outside.specs.Told.{TellsMore}

-- What a clock tells at a moment.
pub record ClockRecord : Type 0 where
  -- all instants that it answered, in order, where it tells them
  pub answers : Option (List ℕ)

-- A clock answered an instant.
abbrev pub Answers : ℕ → ClockRecord → ClockRecord → Type 0
Answers instant old new = TellsMore (λ before. before ++ instant ∷ []) old.answers new.answers
