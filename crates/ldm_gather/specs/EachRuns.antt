-- What gathering products for a taker does, from its beginning to its end.
use Rattle.std.specs.Prelude.{◌≡◌, ◌≤◌, ◌⊎◌, ℕ, List, [], Option, Some, None}
use Rattle.std.proofs.Common.{inl, inr}
use Rattle.ldm_outside.specs.Clock.{ClockRecord}
use Rattle.ldm_outside.specs.Dial.{DialRecord}
use Rattle.ldm_outside.specs.Io.{SinkRecord}
use Rattle.ldm_shared.specs.declared.fault.CreateFault.{CreateFault}
use Rattle.ldm_shared.specs.Limits.{IsFaultOf}
use Rattle.ldm_shared.specs.Passes.{PassView}
use Rattle.ldm_gather.specs.declared.each.Each.{Each}
use Rattle.ldm_gather.specs.declared.each_end.EachEnd.{EachEnd}
use Rattle.ldm_gather.specs.declared.each_end.EachEnd.TheVariants.{NotMade}
use Rattle.ldm_gather.specs.declared.end.GatherEnd.{GatherEnd}
use Rattle.ldm_gather.specs.declared.limits.TheConstants.{PASSES}
use Rattle.ldm_gather.specs.declared.order.Asking.{Asking}
use Rattle.ldm_gather.specs.declared.taker.Taken.{Taken}
use Rattle.ldm_gather.specs.EachCourse.{Stage, TakesEach, stage_of}
use Rattle.ldm_gather.specs.EachEnds.{IsEndOf}
use Rattle.ldm_gather.specs.EachHandling.{EachHandles}
use Rattle.ldm_shared.specs.Givens.{Given, products_of}
use Rattle.ldm_gather.specs.Orders.{IsAsking, OrderView, order_view}
use Rattle.ldm_gather.specs.Queue.{Opens}
use Rattle.ldm_gather.specs.Runs as runs
use Rattle.ldm_gather.specs.Scene.{scene_of}
use Rattle.ldm_gather.specs.Taking.{Hands, hands_of}

-- The taker with what it is lent, and what is used of the outside.
pub record Situation (T A : Type 0) : Type 0 where
  pub hands : Hands T A
  pub net : DialRecord
  pub log : SinkRecord
  pub clock : ClockRecord

abbrev pub situation_of : {T A : Type 0} → Hands T A → DialRecord → SinkRecord → ClockRecord → Situation T A
situation_of hands net log clock = record { hands = hands; net = net; log = log; clock = clock }

-- the handler before the first product
abbrev pub each_at : {T : Type 0} → Asking → ℕ → T → Each T
each_at asking k taker = record { reader = record { k = k }; left = asking.order.count; taker = taker; why = None; asking = asking }

-- the same with that handler and that pass, as the gathering has it
abbrev pub within : {T A : Type 0} → Each T → PassView → Situation T A → runs.Situation (Each T) A (Unit {0})
within each pass now = runs.situation_of (scene_of each now.hands.lent tt pass now.log) now.net now.clock

abbrev pub stage_in : {T A : Type 0} → Each T → PassView → Situation T A → Stage T A
stage_in each pass now = stage_of each.left (hands_of each.taker now.hands.lent) each.why pass

-- No count fell.
pub record CountsStand {T A : Type 0} (old new : Situation T A) : Type 0 where
  pub net : old.net.faults ≤ new.net.faults
  pub ended : old.net.links.ended ≤ new.net.links.ended
  pub failed : old.net.links.failed ≤ new.net.links.failed
  pub log : old.log.faults ≤ new.log.faults

-- No queue was made, for that fault of its sizes or for want of memory, and nothing was touched.
pub record MakesNone {T A : Type 0} (end : EachEnd) (order : OrderView) (old new : Situation T A) : Type 0 where
  pub fault : CreateFault
  pub is : end ≡ NotMade fault
  pub cause : IsFaultOf order.arena order.slots PASSES fault
  pub others : new ≡ old

module _ {T A : Type 0} (takes : Taken → Given → Hands T A → Hands T A → Type 0) where
  -- what was taken over a whole gathering, if a link was connected
  abbrev pub TakesIf : Option GatherEnd → ℕ → Stage T A → Stage T A → Type 0
  TakesIf (Some end) k old new = TakesEach takes end k old new
  TakesIf None k old new = Unit {0}

  -- With a queue and its cursor at a place, it connected, gathered and gave the link back, as `Connects` says.
  pub record Collects (end : EachEnd) (each : Each T) (first : PassView) (old new : Situation T A) : Type 0 where
    -- how the gathering ended, and what it left
    pub gathered : Option GatherEnd
    pub left : Each T
    pub last : PassView
    pub connects : runs.Connects (EachHandles takes) gathered (order_view each.asking.order) (within each first old) (within left last new)
    -- what was taken over all pieces
    pub took : TakesIf gathered each.reader.k (stage_in each first old) (stage_in left last new)
    pub taker : new.hands.taker ≡ left.taker
    pub is_end : IsEndOf end gathered left.why

  -- It made a queue of its own, opened a cursor of it, and gathered.
  pub record Makes (end : EachEnd) (order : OrderView) (name : List ℕ) (old new : Situation T A) : Type 0 where
    pub asking : Asking
    pub is_asking : IsAsking order name asking
    pub k : ℕ
    pub first : PassView
    pub opened : Opens order k first
    pub collects : Collects end (each_at asking k old.hands.taker) first old new

  -- No queue was made; or it was. Losses are logged by that name.
  abbrev pub GathersEach : EachEnd → OrderView → (name : List ℕ) → Situation T A → Situation T A → Type 0
  GathersEach end order name old new = MakesNone end order old new ⊎ Makes end order name old new

  -- the products that were taken, in order
  abbrev pub given_if : (gathered : Option GatherEnd) (k : ℕ) (old new : Stage T A) → TakesIf gathered k old new → List Given
  given_if (Some end) k old new took = products_of took.turns
  given_if None k old new took = []

  -- the product in hand, where it stopped at one
  abbrev pub in_hand_if : (gathered : Option GatherEnd) (k : ℕ) (old new : Stage T A) → TakesIf gathered k old new → List Given
  in_hand_if (Some end) k old new took = products_of took.in_hand
  in_hand_if None k old new took = []

  abbrev pub given_by : {end : EachEnd} {order : OrderView} {name : List ℕ} {old new : Situation T A} → GathersEach end order name old new → List Given
  given_by (inl none) = []
  given_by (inr makes) = given_if makes.collects.gathered _ _ _ makes.collects.took

  abbrev pub in_hand_by : {end : EachEnd} {order : OrderView} {name : List ℕ} {old new : Situation T A} → GathersEach end order name old new → List Given
  in_hand_by (inl none) = []
  in_hand_by (inr makes) = in_hand_if makes.collects.gathered _ _ _ makes.collects.took
