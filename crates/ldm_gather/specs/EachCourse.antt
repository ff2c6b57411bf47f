-- What was done over a whole gathering with each product: which products these are, of which calls on the queue.
use Rattle.std.specs.Prelude.{◌≡◌, ◌⊎◌, ℕ, List, [], ◌∷◌, ◌++◌, map, Option, Some}
use Rattle.std.specs.List.{flat_map}
use Rattle.ldm_model.specs.declared.event.Reply.{Reply}
use Rattle.ldm_model.specs.declared.event.Reply.TheVariants as reply
use Rattle.ldm_model.specs.declared.event.Entry.{Entry}
use Rattle.ldm_shared.specs.Passes.{PassView, Calls}
use Rattle.ldm_gather.specs.declared.end.GatherEnd.{GatherEnd}
use Rattle.ldm_gather.specs.declared.end.GatherEnd.TheVariants.{Received, Enough, Stopped}
use Rattle.ldm_gather.specs.declared.taker.EachStop.{EachStop}
use Rattle.ldm_gather.specs.declared.taker.Taken.{Taken}
use Rattle.ldm_shared.specs.Givens.{Given, Turn, count_of, products_of, turn_reply}
use Rattle.ldm_gather.specs.Quiet.{IsQuiet}
use Rattle.ldm_gather.specs.Stepping.{CountsOff}
use Rattle.ldm_gather.specs.Taking.{Hands, TakesAll, TakesLast}
use Rattle.ldm_shared.specs.Uses.{AreRows, IsUse, step_answers}

-- calls of the receiving, which are about no cursor, and uses of the cursor at that place
abbrev pub AreCallsOf : ℕ → List Entry → Type 0
AreCallsOf k [] = Unit {0}
AreCallsOf k (entry ∷ called) = (IsQuiet entry.event ⊎ IsUse k entry.event) × AreCallsOf k called

-- an answer that gives a product or tells a loss: not that the cursor is at the end
abbrev pub told_by : Reply → List Reply
told_by (reply.End at) = []
told_by answer = answer ∷ []

abbrev pub told : List Reply → List Reply
told answers = flat_map told_by answers

-- Just these calls were made with the pass, and the steps of the cursor gave and told just these turns. Each product is the one that was
-- admitted under its number.
pub record Gives (k : ℕ) (turns : List Turn) (old new : PassView) : Type 0 where
  pub called : List Entry
  pub calls : Calls old new called
  pub are_calls : AreCallsOf k called
  pub answered : told (step_answers called) ≡ map turn_reply turns
  pub rows : AreRows new (products_of turns)

-- as many products were taken as were to be; or fewer, where there is a count
abbrev pub IsCounted : GatherEnd → Option ℕ → ℕ → Type 0
IsCounted Enough count n = count ≡ Some n
IsCounted (Received end) count n = (left : Option ℕ) × CountsOff count n left
IsCounted Stopped count n = (left : Option ℕ) × CountsOff count n left

-- A moment of a gathering, for the cursor at one place: how many products are left to be given, the taker with what it is lent, why it
-- stopped, and the pass.
pub record Stage (T A : Type 0) : Type 0 where
  pub left : Option ℕ
  pub hands : Hands T A
  pub why : Option EachStop
  pub pass : PassView

abbrev pub stage_of : {T A : Type 0} → Option ℕ → Hands T A → Option EachStop → PassView → Stage T A
stage_of left hands why pass = record { left = left; hands = hands; why = why; pass = pass }

module _ {T A : Type 0} (takes : Taken → Given → Hands T A → Hands T A → Type 0) where
  -- only where it stopped a turn may be in hand
  abbrev pub EndsInHand : GatherEnd → List Turn → Hands T A → Stage T A → Type 0
  EndsInHand (Received end) in_hand mid new = (in_hand ≡ []) × (new.hands ≡ mid)
  EndsInHand Enough in_hand mid new = (in_hand ≡ []) × (new.hands ≡ mid)
  EndsInHand Stopped in_hand mid new = (why : EachStop) × (new.why ≡ Some why) × TakesLast takes why in_hand mid new.hands

  -- Each product that the cursor gave was taken, whole and in order; and then the turn in hand, if there is one, as far as it came.
  pub record TakesEach (end : GatherEnd) (k : ℕ) (old new : Stage T A) : Type 0 where
    pub turns : List Turn
    pub in_hand : List Turn
    pub mid : Hands T A
    pub gives : Gives k (turns ++ in_hand) old.pass new.pass
    pub taken : TakesAll takes (products_of turns) old.hands mid
    pub ends : EndsInHand end in_hand mid new
    pub counted : IsCounted end old.left (count_of turns)
