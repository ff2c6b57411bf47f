-- What the parts of sending do. No caller needs these.
use Rattle.std.specs.Prelude.{◌≡◌, ℕ, ◌≤◌, Bool, List, [], ◌∷◌, ◌++◌, Result, Ok, Err}
use Rattle.ldm_outside.specs.Clock.{ClockRecord}
use Rattle.ldm_outside.specs.Io.{SinkRecord}
use Rattle.ldm_outside.specs.Link.{LinkRecord}
use Rattle.ldm_relay.specs.declared.message.PutAnswer.{PutAnswer}
use Rattle.ldm_stats.specs.Table.{Table}
use Rattle.ldm_tools.specs.declared.puts.Puts.{Puts}
use Rattle.ldm_tools.specs.Lines.{is_refused}
use Rattle.ldm_tools.specs.Puts.{HasPut}
use Rattle.ldm_pqstats.specs.declared.end.SendFault.{SendFault}
use Rattle.ldm_pqstats.specs.Sending.{BreaksAt, HourAt, ReportMoment, SendsOne, Sends, body_of}

-- What is used to send an hour.
pub record Hand : Type 0 where
  pub puts : Puts
  pub link : LinkRecord
  pub sink : SinkRecord
  pub clock : ClockRecord

abbrev pub hand_tells : {L K C : Type 0} → (L → LinkRecord) → (K → SinkRecord) → (C → ClockRecord) → (Puts → L → K → C → Hand)
hand_tells link sink clock = λ puts of_link of_sink of_clock. record { puts = puts; link = link of_link; sink = sink of_sink; clock = clock of_clock }

abbrev pub moment_at : Hand → List ℕ → List PutAnswer → ReportMoment
moment_at hand given answers = record { wire = record { link = hand.link; sink = hand.sink; given = given; answers = answers }; clock = hand.clock }

-- What sending an hour did, to one who knows all that the link gave before: it was sent, and whether it was refused; or why it ended.
abbrev pub SendsFrom : Result Bool SendFault → Table → HourAt → Hand → (ReportMoment → Type 0)
SendsFrom (Ok refused) stats at new =
    λ old. (answer : PutAnswer) × (given : List ℕ) × SendsOne stats at answer old (moment_at new given (old.wire.answers ++ answer ∷ []))
    × HasPut given (old.wire.answers ++ answer ∷ []) new.puts × (refused ≡ is_refused answer)
SendsFrom (Err why) stats at new = λ old. (given : List ℕ) × (answers : List PutAnswer) × BreaksAt why stats at old (moment_at new given answers)

-- An hour was sent, or sending ended at it.
abbrev pub SendsHour : Result Bool SendFault → Table → HourAt → (old new : Hand) → Type 0
SendsHour result stats at old new =
    (given : List ℕ) (answers : List PutAnswer) → HasPut given answers old.puts → SendsFrom result stats at new (moment_at old given answers)

-- The same of these lines, where they are those of the hour.
abbrev pub PutsHour : Result Bool SendFault → HourAt → List ℕ → (old new : Hand) → Type 0
PutsHour result at body old new = (stats : Table) → body ≡ body_of stats at.hour → SendsHour result stats at old new

-- The link, the sink and the clock.
pub record Ends : Type 0 where
  pub link : LinkRecord
  pub sink : SinkRecord
  pub clock : ClockRecord

-- no count of these fell
pub record KeepsEnds (old new : Ends) : Type 0 where
  pub ends : old.link.ends ≤ new.link.ends
  pub faults : old.link.faults ≤ new.link.faults
  pub sink : old.sink.faults ≤ new.sink.faults

abbrev pub ends_tell : {L K C : Type 0} → (L → LinkRecord) → (K → SinkRecord) → (C → ClockRecord) → (L → K → C → Ends)
ends_tell link sink clock = λ of_link of_sink of_clock. record { link = link of_link; sink = sink of_sink; clock = clock of_clock }

abbrev pub moment_in : Ends → List ℕ → List PutAnswer → ReportMoment
moment_in ends given answers = record { wire = record { link = ends.link; sink = ends.sink; given = given; answers = answers }; clock = ends.clock }

-- The hours were sent over a link that was not used yet.
pub record RunsOver (result : Result Bool SendFault) (stats : Table) (hours : List ℕ) (old new : Ends) : Type 0 where
  pub given : List ℕ
  pub answers : List PutAnswer
  pub sends : Sends result stats hours (moment_in old [] []) (moment_in new given answers)
