-- How many products are left to be given, where there is a count: those that the cursor gave are counted off.
use Rattle.std.specs.Prelude.{◌≡◌, ℕ, ◌-◌, List, [], ◌∷◌, length, Option, Some, None}
use Rattle.std.specs.List.{flat_map}
use Rattle.ldm_model.specs.declared.event.Reply.{Reply}
use Rattle.ldm_model.specs.declared.event.Reply.TheVariants as reply
use Rattle.ldm_model.specs.declared.event.Entry.{Entry}
use Rattle.ldm_shared.specs.Passes.{PassView, Calls}
use Rattle.ldm_shared.specs.Uses.{step_answers}

-- what is left behind so many products
abbrev pub left_behind : Option ℕ → ℕ → Option ℕ
left_behind None n = None
left_behind (Some left) n = Some (left - n)

-- the number of the product, where the answer gives one
abbrev pub given_by : Reply → List ℕ
given_by (reply.Product n time info) = n ∷ []
given_by _ = []

-- how many products these answers give
abbrev pub count_given : List Reply → ℕ
count_given answers = length (flat_map given_by answers)

-- Just these calls were made with the pass, and each product that a step among them gave was counted off.
pub record CountsGiven (old new : PassView) (left after : Option ℕ) : Type 0 where
  pub called : List Entry
  pub calls : Calls old new called
  pub counted : after ≡ left_behind left (count_given (step_answers called))
