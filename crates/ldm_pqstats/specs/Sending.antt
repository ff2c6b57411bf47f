-- The lines of hours, sent by one PUT each.
use Rattle.std.specs.Prelude.{◌≡◌, ◌⊎◌, ℕ, ◌+◌, ◌%◌, ◌^◌, ◌<◌, ◌≤◌, Bool, List, [], ◌∷◌, ◌++◌, codes, length, Result, Ok, Err}
use Rattle.md5.specs.Md5.{md5}
use Rattle.ldm_types.specs.Info.{Metadata}
use Rattle.ldm_outside.specs.Clock.{Answers, ClockRecord}
use Rattle.ldm_outside.specs.Dial.{DialRecord}
use Rattle.ldm_outside.specs.Io.{SinkRecord}
use Rattle.ldm_outside.specs.Link.{LinkRecord}
use Rattle.ldm_relay.specs.declared.message.PutAnswer.{PutAnswer}
use Rattle.ldm_stats.specs.Report.{hour_text, in_hour, lines_of}
use Rattle.ldm_stats.specs.Table.{Table}
use Rattle.ldm_tools.specs.Owing.{answers_refuse}
use Rattle.ldm_tools.specs.Telling.{Breaks, IsTold, Product, Wire}
use Rattle.ldm_pqstats.specs.declared.end.SendFault.{SendFault}
use Rattle.ldm_pqstats.specs.declared.end.SendFault.TheVariants.{Unreached, OutOfMemory, TooLong, Put}
use Rattle.ldm_pqstats.specs.declared.limits.TheConstants.{EXP, LARGEST_BODY}

-- the lines of an hour
abbrev pub body_of : Table → ℕ → List ℕ
body_of stats hour = lines_of (in_hour hour stats.entries)

-- `stats/YYYYMMDDHH`
abbrev pub ident_of : ℕ → List ℕ
ident_of hour = codes "stats/" ++ hour_text hour

-- An hour, and its number among those that are sent.
pub record HourAt : Type 0 where
  pub hour : ℕ
  pub number : ℕ

abbrev pub hour_at : ℕ → ℕ → HourAt
hour_at hour number = record { hour = hour; number = number }

-- the metadata of an hour's lines, where the clock was asked at that instant
abbrev pub metadata_of : HourAt → ℕ → List ℕ → Metadata
metadata_of at arrival body = record {
  arrival = arrival;
  signature = md5 body;
  origin = codes "localhost";
  feed = EXP;
  seqno = at.number;
  ident = ident_of at.hour;
  size = length body;
}

abbrev pub product_of : Table → HourAt → ℕ → Product
product_of stats at arrival = record { info = metadata_of at arrival (body_of stats at.hour); body = body_of stats at.hour }

-- the number behind one: it has 32 bits
abbrev pub next_number : ℕ → ℕ
next_number number = (number + 1) % 2 ^ 32

-- the number behind these hours, the first of which has that number
abbrev pub number_behind : List ℕ → ℕ → ℕ
number_behind [] number = number
number_behind (hour ∷ hours) number = number_behind hours (next_number number)

-- A moment of sending: the link with what it gave and was answered, and the clock.
pub record ReportMoment : Type 0 where
  pub wire : Wire
  pub clock : ClockRecord

-- no count of these fell
pub record KeepsMoment (old new : ReportMoment) : Type 0 where
  pub ends : old.wire.link.ends ≤ new.wire.link.ends
  pub faults : old.wire.link.faults ≤ new.wire.link.faults
  pub sink : old.wire.sink.faults ≤ new.wire.sink.faults

-- The clock was asked, the lines of the hour were put, and the line of the answer was written.
pub record SendsOne (stats : Table) (at : HourAt) (answer : PutAnswer) (old new : ReportMoment) : Type 0 where
  pub short : length (body_of stats at.hour) ≤ LARGEST_BODY
  pub arrival : ℕ
  pub asked : Answers arrival old.clock new.clock
  pub told : IsTold (product_of stats at arrival) answer old.wire new.wire

-- These hours were sent, the first under that number, and answered so: each after all of the one before.
abbrev pub AreSent : Table → ℕ → List ℕ → List PutAnswer → (ReportMoment → ReportMoment → Type 0)
AreSent stats number [] [] = λ old new. new ≡ old
AreSent stats number (hour ∷ hours) (answer ∷ answers) =
    λ old new. (mid : ReportMoment) × SendsOne stats (hour_at hour number) answer old mid × AreSent stats (next_number number) hours answers mid new
AreSent stats number [] (answer ∷ answers) = λ old new. ⊥
AreSent stats number (hour ∷ hours) [] = λ old new. ⊥

-- why sending ended at an hour
abbrev pub BreaksAt : SendFault → Table → HourAt → ReportMoment → ReportMoment → Type 0
BreaksAt Unreached stats at old new = ⊥
BreaksAt OutOfMemory stats at old new = new ≡ old
BreaksAt TooLong stats at old new = (LARGEST_BODY < length (body_of stats at.hour)) × (new ≡ old)
BreaksAt (Put why) stats at old new =
    (length (body_of stats at.hour) ≤ LARGEST_BODY) × (arrival : ℕ) × Answers arrival old.clock new.clock × Breaks why (product_of stats at arrival) old.wire.link old.wire new.wire

-- All hours were sent.
pub record SendsAll (refused : Bool) (stats : Table) (hours : List ℕ) (old new : ReportMoment) : Type 0 where
  pub answers : List PutAnswer
  pub sent : AreSent stats 0 hours answers old new
  pub refused_is : refused ≡ answers_refuse answers

-- The hours before one were sent, and sending ended at that one.
pub record StopsAt (why : SendFault) (stats : Table) (hours : List ℕ) (old new : ReportMoment) : Type 0 where
  pub before : List ℕ
  pub hour : ℕ
  pub behind : List ℕ
  pub hours_are : hours ≡ before ++ hour ∷ behind
  pub answers : List PutAnswer
  pub mid : ReportMoment
  pub sent : AreSent stats 0 before answers old mid
  -- no count fell up to there
  pub kept : KeepsMoment old mid
  pub breaks : BreaksAt why stats (hour_at hour (number_behind before 0)) mid new

-- How sending over a link ends: with all hours sent, and whether one was refused; or at an hour; or for want of memory before the first.
abbrev pub Sends : Result Bool SendFault → Table → List ℕ → ReportMoment → ReportMoment → Type 0
Sends (Ok refused) stats hours old new = SendsAll refused stats hours old new
Sends (Err OutOfMemory) stats hours old new = (new ≡ old) ⊎ StopsAt OutOfMemory stats hours old new
Sends (Err TooLong) stats hours old new = StopsAt TooLong stats hours old new
Sends (Err (Put why)) stats hours old new = StopsAt (Put why) stats hours old new
Sends (Err Unreached) stats hours old new = ⊥

-- What telling and sending use of the outside.
pub record Outside : Type 0 where
  pub net : DialRecord
  pub sink : SinkRecord
  pub clock : ClockRecord

abbrev pub outside_of : DialRecord → SinkRecord → ClockRecord → Outside
outside_of net sink clock = record { net = net; sink = sink; clock = clock }

-- the moment of a link that came or is left, with what it gave and was answered
abbrev pub moment_of : LinkRecord → Outside → List ℕ → List PutAnswer → ReportMoment
moment_of link outside given answers = record { wire = record { link = link; sink = outside.sink; given = given; answers = answers }; clock = outside.clock }
