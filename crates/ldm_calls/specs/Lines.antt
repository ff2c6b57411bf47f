-- What a line is answered, for whoever makes its call.
use Rattle.std.specs.Prelude.{◌≡◌, ℕ, List, Option, Some, None}
use Rattle.ldm_model.specs.declared.event.Event.{Event}
use Rattle.ldm_model.specs.declared.event.Reply.{Reply}
use Rattle.ldm_answers.specs.Answer.{answer_line}
use Rattle.ldm_script.specs.Order.{Asked}
use Rattle.ldm_script.specs.declared.order.LastPlaces.{LastPlaces}
use Rattle.ldm_script.specs.Resolve.{resolved, unresolved, last_after}

-- The call of an event was made. Without an event no call is made, and the answer is this.
abbrev pub IsMadeBy : {Q : Type 0} → (Q → Event → Reply → Q → Type 0) → Reply → Option Event → Reply → Q → Q → Type 0
IsMadeBy made without None answer old new = (answer ≡ without) × (new ≡ old)
IsMadeBy made without (Some event) answer old new = made old event answer new

-- The call of a line was made, its answer is written, and the place is noted that this opened or reserved.
pub record AnswersLine {Q : Type 0} (made : Q → Event → Reply → Q → Type 0) (asked : Asked) (old : Q) (old_last : LastPlaces) (new : Q) (new_last : LastPlaces) (text : List ℕ) : Type 0 where
  pub reply : Reply
  pub call : IsMadeBy made (unresolved asked) (resolved old_last asked) reply old new
  pub last : new_last ≡ last_after old_last reply
  pub written : text ≡ answer_line reply
