-- What `pqcat` does.
use Rattle.std.specs.Prelude.{◌≡◌, ◌≤◌, ◌⊎◌, ℕ, codes}
use Rattle.ldm_outside.specs.Clock.{ClockRecord}
use Rattle.ldm_outside.specs.Dial.{DialRecord}
use Rattle.ldm_outside.specs.Io.{SinkRecord}
use Rattle.ldm_shared.specs.declared.fault.CreateFault.TheVariants.{OutOfMemory}
use Rattle.ldm_gather.specs.declared.each_end.EachEnd.{EachEnd}
use Rattle.ldm_gather.specs.declared.each_end.EachEnd.TheVariants.{NotMade}
use Rattle.ldm_gather.specs.EachRuns.{GathersEach, Situation, given_by, in_hand_by, situation_of}
use Rattle.ldm_gather.specs.Orders.{OrderView}
use Rattle.ldm_gather.specs.Taking.{hands_of}
use Rattle.ldm_gather.specs.declared.cat.Cat.{Cat}
use Rattle.ldm_gather.specs.Bodies.{WritesBodies}
use Rattle.ldm_gather.specs.CatStatuses.{ReportsIf, status_of}
use Rattle.ldm_gather.specs.CatTaking.{CatTakes}

-- What `pqcat` uses of the outside.
pub record CatLent (K : Type 0) : Type 0 where
  pub net : DialRecord
  pub sink : K
  pub log : SinkRecord
  pub clock : ClockRecord

abbrev pub cat_lent : {K : Type 0} → DialRecord → K → SinkRecord → ClockRecord → CatLent K
cat_lent net sink log clock = record { net = net; sink = sink; log = log; clock = clock }

-- the same with the taker, as the gathering has it
abbrev pub with_cat : {K : Type 0} → Cat → CatLent K → Situation Cat K
with_cat cat lent = situation_of (hands_of cat lent.sink) lent.net lent.log lent.clock

-- No count fell.
pub record KeepsCatCounts {K : Type 0} (old new : CatLent K) : Type 0 where
  pub net : old.net.faults ≤ new.net.faults
  pub ended : old.net.links.ended ≤ new.net.links.ended
  pub failed : old.net.links.failed ≤ new.net.links.failed
  pub log : old.log.faults ≤ new.log.faults

module _ {K : Type 0} (tells : K → SinkRecord) where
  -- Products were gathered and written: the bodies of those that the cursor gave.
  pub record Writes (end : EachEnd) (order : OrderView) (old new : CatLent K) : Type 0 where
    pub cat : Cat
    pub left : Cat
    pub gathers : GathersEach (CatTakes tells) end order (codes "pqcat") (with_cat cat old) (with_cat left new)
    pub writes : WritesBodies (given_by (CatTakes tells) gathers) (in_hand_by (CatTakes tells) gathers) (tells old.sink) (tells new.sink)

  -- There was no memory to begin, and nothing was touched; or products were gathered.
  abbrev pub CatEnds : EachEnd → OrderView → (old new : CatLent K) → Type 0
  CatEnds end order old new = ((end ≡ NotMade OutOfMemory) × (new ≡ old)) ⊎ Writes end order old new

  -- It ended so, and the number and the log tell how.
  pub record Cats (code : ℕ) (order : OrderView) (old new : CatLent K) : Type 0 where
    pub ending : EachEnd
    pub ended : CatLent K
    pub ends : CatEnds ending order old ended
    pub reports : ReportsIf (status_of ending) code ended.log new.log
    pub others : new ≡ record ended { log = new.log }
