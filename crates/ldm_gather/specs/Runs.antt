-- What a gathering does, with its connection: from the dial to the giving back of the link.
use Rattle.std.specs.Prelude.{◌≡◌, ◌≤◌, Option, Some, None}
use Rattle.ldm_outside.specs.declared.dial.Dialled.TheVariants.{Linked, Failed}
use Rattle.ldm_outside.specs.Clock.{ClockRecord}
use Rattle.ldm_outside.specs.Dial.{DialRecord, ConnectGives, DialTakesBack}
use Rattle.ldm_outside.specs.Link.{LinkRecord, IsNotClosed}
use Rattle.ldm_intake.specs.Receiving.{Receiving}
use Rattle.ldm_gather.specs.declared.end.GatherEnd.{GatherEnd}
use Rattle.ldm_gather.specs.declared.end.Handled.{Handled}
use Rattle.ldm_gather.specs.Causes.{HasCause}
use Rattle.ldm_gather.specs.Complete.{Completes}
use Rattle.ldm_gather.specs.Gathering.{GathersAll}
use Rattle.ldm_gather.specs.Orders.{OrderView, asks_for}
use Rattle.ldm_gather.specs.Scene.{Lent, Scene, lent_of}

-- What changes with it: the handler, what that is lent, the pass and the log; the dial; and the clock.
pub record Situation (W A B : Type 0) : Type 0 where
  pub scene : Scene W A B
  pub net : DialRecord
  pub clock : ClockRecord

abbrev pub situation_of : {W A B : Type 0} → Scene W A B → DialRecord → ClockRecord → Situation W A B
situation_of scene net clock = record { scene = scene; net = net; clock = clock }

module _ {W A B : Type 0} where
  -- what the gathering over that link is lent
  abbrev pub lends : LinkRecord → Situation W A B → Lent W A B
  lends link now = lent_of now.scene link now.clock

  -- No count fell.
  pub record CountsStand (old new : Situation W A B) : Type 0 where
    pub net : old.net.faults ≤ new.net.faults
    pub ended : old.net.links.ended ≤ new.net.links.ended
    pub failed : old.net.links.failed ≤ new.net.links.failed
    pub log : old.scene.log.faults ≤ new.scene.log.faults

  -- The dial was asked once, for the peer of the order, and failed.
  pub record ReachesNot (order : OrderView) (old new : Situation W A B) : Type 0 where
    pub dialled : ConnectGives (λ (link : LinkRecord). link) Failed order.peer old.net new.net
    pub others : new ≡ record old { net = new.net }

module _ {W A B : Type 0} (handles : Handled → Scene W A B → Scene W A B → Type 0) where
  -- What a gathering over a link is: why it ended, by counts, and when it is whole.
  pub record Gathered (end : GatherEnd) (s : Receiving) (old new : Lent W A B) : Type 0 where
    pub gathers : GathersAll handles end s old new
    pub cause : HasCause end old new
    pub completes : Completes end s old new

  -- Over a link that came, the class was asked for and products were gathered. The link was given back as it was left.
  pub record Holds (end : GatherEnd) (s : Receiving) (came : LinkRecord) (old new : Situation W A B) : Type 0 where
    pub left : LinkRecord
    pub gathered : Gathered end s (lends came old) (lends left new)
    pub not_closed : IsNotClosed left
    pub given_back : DialTakesBack left old.net new.net

  -- The dial was asked once, for the peer of the order, and connected a link that was not used yet.
  pub record Reaches (end : GatherEnd) (order : OrderView) (old new : Situation W A B) : Type 0 where
    pub came : LinkRecord
    pub lent : DialRecord
    pub dialled : ConnectGives (λ (link : LinkRecord). link) (Linked came) order.peer old.net lent
    pub holds : Holds end (asks_for order) came (record old { net = lent }) new

  -- a link was connected, and the gathering over it ended so; or none was
  abbrev pub Connects : Option GatherEnd → OrderView → Situation W A B → Situation W A B → Type 0
  Connects (Some end) order old new = Reaches end order old new
  Connects None order old new = ReachesNot order old new
