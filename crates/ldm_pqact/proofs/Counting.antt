-- A product that a cursor gives is counted off, and what becomes of it gives no other.
use Rattle.std.proofs.Common.{◌≡◌, ℕ, List, [], ◌∷◌, Option, Ok, Err, Result}
use Rattle.ldm_model.specs.declared.event.Event.TheVariants as event
use Rattle.ldm_shared.specs.Passes.{PassView, Grows}
use Rattle.ldm_shared.specs.Counting.{CountsGiven, left_behind}
use Rattle.ldm_shared.specs.Givens.{Gave, Given, turn_reply}
use Rattle.ldm_shared.specs.Uses.{Uses}
use Rattle.ldm_shared.proofs.Counting.{counts_then, counts_uses, left_behind-none}
use Rattle.ldm_shared.proofs.Using.{uses_step}
use Rattle.ldm_actions.specs.Effects.{Action}
use Rattle.ldm_pqact.specs.declared.end.ActEnd.{ActEnd}
use Rattle.ldm_pqact.specs.Acting.{HandlesBy, Sight}
use Rattle.ldm_pqact.specs.Work.{product_work}

-- what becomes of a product gives no other
pub handled_uses : (result : Result (Unit {0}) ActEnd) (k : ℕ) (deeds : List (Action × List ℕ)) (lines : List ℕ) (old new : Sight)
    → HandlesBy result k (product_work deeds lines) old new → Uses k old.pass new.pass []
handled_uses (Ok gone) k deeds lines old new handled = handled.does.uses
handled_uses (Err why) k deeds lines old new handled = handled.uses

pub counts_product : (result : Result (Unit {0}) ActEnd) (k : ℕ) (given : Given) (deeds : List (Action × List ℕ)) (lines : List ℕ) (old : PassView) (mid new : Sight)
    (left after : Option ℕ) → Grows old mid.pass (event.Step k) (turn_reply (Gave given)) → HandlesBy result k (product_work deeds lines) mid new
    → after ≡ left_behind left 1 → CountsGiven old new.pass left after
counts_product result k given deeds lines old mid new left after grows handled is =
    counts_then old mid.pass new.pass left after after
    (counts_uses k old mid.pass (turn_reply (Gave given) ∷ []) left after (uses_step k old mid.pass (turn_reply (Gave given)) grows) is)
    (counts_uses k mid.pass new.pass [] after after (handled_uses result k deeds lines mid new handled) (left_behind-none after))
