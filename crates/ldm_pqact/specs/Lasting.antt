-- The signature of the last product that a cursor gave.
use Rattle.std.specs.Prelude.{◌≡◌, ℕ, List, [], ◌∷◌, map, Option, Some, None}
use Rattle.ldm_model.specs.declared.event.Reply.{Reply}
use Rattle.ldm_model.specs.declared.event.Reply.TheVariants as reply
use Rattle.ldm_model.specs.declared.event.Entry.{Entry}
use Rattle.ldm_shared.specs.Givens.{Turn, turn_reply}
use Rattle.ldm_shared.specs.Passes.{PassView, Calls}
use Rattle.ldm_shared.specs.Uses.{step_answers}

-- behind an answer: that of its product, where it gives one
abbrev pub last_behind : Option (List ℕ) → Reply → Option (List ℕ)
last_behind last (reply.Product n time info) = Some info.signature
last_behind last _ = last

-- behind these answers
abbrev pub last_from : Option (List ℕ) → List Reply → Option (List ℕ)
last_from last [] = last
last_from last (answer ∷ answers) = last_from (last_behind last answer) answers

-- that of the last product that these turns gave
abbrev pub last_of : List Turn → Option (List ℕ)
last_of turns = last_from None (map turn_reply turns)

-- Just these calls were made with the pass, and the last product is the one that their steps gave last, if they gave one.
pub record LastGiven (old new : PassView) (last after : Option (List ℕ)) : Type 0 where
  pub called : List Entry
  pub calls : Calls old new called
  pub is_last : after ≡ last_from last (step_answers called)
