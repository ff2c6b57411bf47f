-- What `pqstats` does.
use Rattle.std.specs.Prelude.{◌≡◌, ◌≤◌, ℕ, Bool, true, false, [], codes, map, Some, None, Result, Ok, Err}
use Rattle.ldm_outside.specs.Clock.{ClockRecord}
use Rattle.ldm_outside.specs.Dial.{Asked, DialRecord}
use Rattle.ldm_outside.specs.Io.{SinkRecord}
use Rattle.ldm_intake.specs.declared.end.RecvEnd.TheVariants as recv_end
use Rattle.ldm_gather.specs.declared.each_end.EachEnd.{EachEnd}
use Rattle.ldm_gather.specs.declared.each_end.EachEnd.TheVariants.{Received, Enough, Stopped}
use Rattle.ldm_gather.specs.declared.taker.EachStop.TheVariants as each_stop
use Rattle.ldm_gather.specs.EachRuns.{GathersEach, given_by, situation_of}
use Rattle.ldm_gather.specs.Orders.{OrderView, usual_order}
use Rattle.ldm_gather.specs.Taking.{hands_of}
use Rattle.ldm_stats.specs.Table.{StandsFor, Table}
use Rattle.ldm_pqstats.specs.declared.asked.StatsAsked.{StatsAsked}
use Rattle.ldm_pqstats.specs.declared.counter.Counter.{Counter}
use Rattle.ldm_pqstats.specs.declared.counter.CountStop.{CountStop}
use Rattle.ldm_pqstats.specs.declared.end.ReportFault.{ReportFault}
use Rattle.ldm_pqstats.specs.declared.end.SendFault.{SendFault}
use Rattle.ldm_pqstats.specs.declared.end.StatsEnd.{StatsEnd}
use Rattle.ldm_pqstats.specs.declared.end.StatsEnd.TheVariants.{Gathered, NotCounted, NotReported, Limited, Told, NotSent}
use Rattle.ldm_pqstats.specs.Counting.{CountsProduct, counted_of}
use Rattle.ldm_pqstats.specs.Linking.{SendsHours}
use Rattle.ldm_pqstats.specs.Reporting.{WritesReport}
use Rattle.ldm_pqstats.specs.Sending.{Outside, outside_of}
use Rattle.ldm_pqstats.specs.Statuses.{ReportsIf, status_of}

-- What `pqstats` uses of the outside.
pub record Lent : Type 0 where
  pub net : DialRecord
  pub sink : SinkRecord
  pub log : SinkRecord
  pub clock : ClockRecord

abbrev pub lent_of : DialRecord → SinkRecord → SinkRecord → ClockRecord → Lent
lent_of net sink log clock = record { net = net; sink = sink; log = log; clock = clock }

-- the same but for the log
abbrev pub outside_in : Lent → Outside
outside_in lent = outside_of lent.net lent.sink lent.clock

-- No count fell.
pub record KeepsStatsCounts (old new : Lent) : Type 0 where
  pub net : old.net.faults ≤ new.net.faults
  pub ended : old.net.links.ended ≤ new.net.links.ended
  pub failed : old.net.links.failed ≤ new.net.links.failed
  pub sink : old.sink.faults ≤ new.sink.faults
  pub log : old.log.faults ≤ new.log.faults

-- ---- what is told

-- The report was written, and nothing else was touched.
pub record Reports (written : Result (Unit {0}) ReportFault) (stats : Table) (old new : Outside) : Type 0 where
  pub writes : WritesReport written stats old.sink new.sink
  pub others : new ≡ record old { sink = new.sink }

-- The hours were sent, if they are to be sent.
abbrev pub SendsIf : Bool → Result Bool SendFault → Asked → Table → (Outside → Outside → Type 0)
SendsIf true result peer stats = λ old new. SendsHours result peer stats old new
SendsIf false result peer stats = λ old new. (result ≡ Ok false) × (new ≡ old)

-- The report was written, and then the hours were sent.
pub record TellsThen (result : Result Bool SendFault) (asked : StatsAsked) (stats : Table) (old new : Outside) : Type 0 where
  pub mid : Outside
  pub reports : let written : Result (Unit {0}) ReportFault = Ok tt in Reports written stats old mid
  -- no count fell up to there
  pub kept : old.sink.faults ≤ mid.sink.faults
  pub sends : SendsIf asked.send result (record { host = asked.host.now; port = asked.port }) stats mid new

abbrev pub TellsAll : StatsEnd → StatsAsked → Table → (Outside → Outside → Type 0)
TellsAll (Told refused) asked stats = TellsThen (Ok refused) asked stats
TellsAll (NotSent why) asked stats = TellsThen (Err why) asked stats
TellsAll (NotReported why) asked stats = Reports (Err why) stats
TellsAll (Gathered end) asked stats = λ old new. ⊥
TellsAll (NotCounted why) asked stats = λ old new. ⊥
TellsAll Limited asked stats = λ old new. ⊥

-- The report alone.
abbrev pub TellsLimited : StatsEnd → Table → SinkRecord → SinkRecord → Type 0
TellsLimited Limited stats old new = let written : Result (Unit {0}) ReportFault = Ok tt in WritesReport written stats old new
TellsLimited (NotReported why) stats old new = WritesReport (Err why) stats old new
TellsLimited _ stats old new = ⊥

-- What was told behind a gathering that ended so: the report, and the hours; the report alone, where as many bytes came as are too many; and
-- nothing where a product was not counted, or at any other end.
abbrev pub TellsBy : EachEnd → StatsEnd → Counter → StatsAsked → (Outside → Outside → Type 0)
TellsBy (Received recv_end.Ended) ending counter asked = TellsAll ending asked counter.stats
TellsBy Enough ending counter asked = TellsAll ending asked counter.stats
TellsBy (Received recv_end.StreamLimit) ending counter asked = λ old new. TellsLimited ending counter.stats old.sink new.sink × (new ≡ record old { sink = new.sink })
TellsBy (Stopped each_stop.ByTaker) ending counter asked =
    λ old new. ((why : CountStop) × (counter.why ≡ Some why) × (ending ≡ NotCounted why)) × (new ≡ old)
TellsBy end ending counter asked = λ old new. (ending ≡ Gathered end) × (new ≡ old)

-- a fact where the counter stopped
abbrev pub IfByTaker : EachEnd → Type 0 → Type 0
IfByTaker (Stopped each_stop.ByTaker) P = P
IfByTaker _ P = Unit {0}

-- a fact where the report is written
abbrev pub IfTold : EachEnd → Type 0 → Type 0
IfTold (Received recv_end.Ended) P = P
IfTold (Received recv_end.StreamLimit) P = P
IfTold Enough P = P
IfTold _ P = Unit {0}

-- ---- all of it

-- what the gathering is asked for
abbrev pub order_of : StatsAsked → OrderView
order_of asked = usual_order (record { host = asked.host.now; port = asked.port }) asked.class.now asked.count

-- the counter before the first product
abbrev pub counter_at : Table → Counter
counter_at stats = record { stats = stats; why = None }

-- Products were gathered and counted, from an empty table on. Where the report is written, the table stands for the products that the cursor
-- gave, in order.
pub record Counts (gathered : EachEnd) (counter : Counter) (asked : StatsAsked) (old new : Lent) : Type 0 where
  pub table : Table
  pub empty : StandsFor table []
  pub window : table.window ≡ asked.hours
  pub gathers : GathersEach CountsProduct gathered (order_of asked) (codes "pqstats") (situation_of (hands_of (counter_at table) tt) old.net old.log old.clock)
      (situation_of (hands_of counter tt) new.net new.log new.clock)
  pub stands : IfTold gathered (StandsFor counter.stats (map counted_of (given_by CountsProduct gathers)))
  pub hours : IfTold gathered (counter.stats.window ≡ asked.hours)
  pub sink : new.sink ≡ old.sink

-- They were counted, then the totals were told as the end says, and the number and the log tell how it ended.
pub record Pqstats (code : ℕ) (asked : StatsAsked) (old new : Lent) : Type 0 where
  pub gathered : EachEnd
  pub counter : Counter
  pub mid : Lent
  pub counts : Counts gathered counter asked old mid
  -- no count fell up to there
  pub kept : KeepsStatsCounts old mid
  pub ending : StatsEnd
  pub tells : TellsBy gathered ending counter asked (outside_in mid) (outside_in new)
  pub reports : ReportsIf (status_of ending) code mid.log new.log
