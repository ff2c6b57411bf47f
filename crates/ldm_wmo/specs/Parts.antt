-- What the parts of ingesting do. No caller needs these.
use Rattle.std.specs.Prelude.{◌≡◌, ℕ, ◌≤◌, Bool, List, [], Option, Some, None, Result, Ok, Err}
use Rattle.ldm_outside.specs.Clock.{Answers, ClockRecord}
use Rattle.ldm_outside.specs.Count.{Rose}
use Rattle.ldm_outside.specs.Dial.{DialTakesBack}
use Rattle.ldm_outside.specs.Io.{SinkRecord, SourceRecord, Takes, WritesFront}
use Rattle.ldm_outside.specs.Link.{IsNotClosed, LinkRecord}
use Rattle.ldm_relay.specs.declared.message.PutAnswer.{PutAnswer}
use Rattle.ldm_tools.specs.declared.put_fault.PutFault.{PutFault}
use Rattle.ldm_tools.specs.declared.puts.Puts.{Puts}
use Rattle.ldm_tools.specs.Puts.{HasPut}
use Rattle.ldm_tools.specs.Telling.{Putting, PutsProduct}
use Rattle.ldm_wmo.specs.Items.{Found}
use Rattle.ldm_wmo.specs.declared.ingest_fault.IngestFault.{IngestFault}
use Rattle.ldm_wmo.specs.declared.ingest_fault.IngestFault.TheVariants as fault
use Rattle.ldm_wmo.specs.declared.outcome.Outcome.{Outcome}
use Rattle.ldm_wmo.specs.declared.outcome.Outcome.TheVariants as outcome
use Rattle.ldm_wmo.specs.Ingesting.{Ingesting, Report, product_of}
use Rattle.ldm_wmo.specs.IngestLines.{cut_line}
use Rattle.ldm_wmo.specs.Moments.{IngestMoment, Outside, Span}
use Rattle.ldm_wmo.specs.Outcomes.{Step, first_of, outcome_of, then_of}
use Rattle.ldm_wmo.specs.Runs.{Runs}
use Rattle.ldm_wmo.specs.IngestTaking.{AreTaken, BreaksAt}

-- What is used to take items.
pub record Hands : Type 0 where
  pub puts : Puts
  pub link : LinkRecord
  pub sink : SinkRecord
  pub log : SinkRecord
  pub clock : ClockRecord

-- what is told of what is used
pub record Tellers (L K E C : Type 0) : Type 0 where
  pub link : L → LinkRecord
  pub sink : K → SinkRecord
  pub log : E → SinkRecord
  pub clock : C → ClockRecord

abbrev pub tellers : {L K E C : Type 0} → (L → LinkRecord) → (K → SinkRecord) → (E → SinkRecord) → (C → ClockRecord) → Tellers L K E C
tellers link sink log clock = record { link = link; sink = sink; log = log; clock = clock }

abbrev pub hands_tell : {L K E C : Type 0} → Tellers L K E C → Puts → L → K → E → C → Hands
hands_tell tells puts link sink log clock =
    record { puts = puts; link = tells.link link; sink = tells.sink sink; log = tells.log log; clock = tells.clock clock }

-- the moment with these hands, where the link gave this and these answers
abbrev pub moment_of : Hands → List ℕ → List PutAnswer → IngestMoment
moment_of hands given answers = record {
  wire = record { link = hands.link; sink = hands.sink; given = given; answers = answers };
  log = hands.log;
  clock = hands.clock;
}

-- no count of these fell
pub record KeepsHands (old new : Hands) : Type 0 where
  pub ends : old.link.ends ≤ new.link.ends
  pub faults : old.link.faults ≤ new.link.faults
  pub sink : old.sink.faults ≤ new.sink.faults
  pub log : old.log.faults ≤ new.log.faults

-- What taking items did, to one who knows all that the link gave before.
abbrev pub TakesFrom : Result Outcome IngestFault → Ingesting → List Found → (new : Hands) → (old : IngestMoment) → Type 0
TakesFrom (Ok outcome) all items new old =
    (steps : List Step) × (given : List ℕ) × (answers : List PutAnswer) × AreTaken all items steps old (moment_of new given answers) × HasPut given answers new.puts
    × (outcome ≡ first_of steps)
TakesFrom (Err why) all items new old =
    (given : List ℕ) × (answers : List PutAnswer) × BreaksAt why all items old.wire.link old (moment_of new given answers)

-- Items were taken, or the run ended at one of them.
abbrev pub TakesSome : Result Outcome IngestFault → Ingesting → List Found → (old new : Hands) → Type 0
TakesSome result all items old new = (given : List ℕ) (answers : List PutAnswer) → HasPut given answers old.puts → TakesFrom result all items new (moment_of old given answers)

-- What is used to put a bulletin.
pub record SentBy : Type 0 where
  pub puts : Puts
  pub link : LinkRecord
  pub sink : SinkRecord
  pub clock : ClockRecord

abbrev pub sent_by : {L K C : Type 0} → (L → LinkRecord) → (K → SinkRecord) → (C → ClockRecord) → Puts → L → K → C → SentBy
sent_by link sink clock puts of_link of_sink of_clock = record { puts = puts; link = link of_link; sink = sink of_sink; clock = clock of_clock }

abbrev pub putting_of : SentBy → Putting
putting_of hands = record { puts = hands.puts; link = hands.link; sink = hands.sink }

-- what ingesting comes to at a bulletin
abbrev pub result_of : Result Bool PutFault → Result Outcome IngestFault
result_of (Ok refused) = Ok (outcome_of refused)
result_of (Err why) = Err (fault.Put why)

-- The clock was asked, and the product of a bulletin was put.
pub record Sends (result : Result Outcome IngestFault) (all : Ingesting) (report : Report) (old new : SentBy) : Type 0 where
  pub arrival : ℕ
  pub asked : Answers arrival old.clock new.clock
  pub put : Result Bool PutFault
  pub result_is : result ≡ result_of put
  pub puts : PutsProduct put (product_of all report arrival) (putting_of old) (putting_of new)

-- The line of the candidate was written that the end cuts off, if there is one; or the log failed.
abbrev pub TellsCut : Result Outcome IngestFault → Option ℕ → SinkRecord → SinkRecord → Type 0
TellsCut (Ok met) None old new = (met ≡ outcome.Clean) × (new ≡ old)
TellsCut (Ok met) (Some at) old new = (met ≡ outcome.Bad) × Takes old (cut_line at) new
TellsCut (Err fault.LogFault) None old new = ⊥
TellsCut (Err fault.LogFault) (Some at) old new = Rose old.faults new.faults × WritesFront old (cut_line at) new
TellsCut (Err fault.Unreached) cut old new = ⊥
TellsCut (Err fault.SourceFault) cut old new = ⊥
TellsCut (Err fault.StreamLimit) cut old new = ⊥
TellsCut (Err fault.OutOfMemory) cut old new = ⊥
TellsCut (Err (fault.Put why)) cut old new = ⊥

-- what was met first, where telling the end of a stream came to that
abbrev pub finished : Outcome → Result Outcome IngestFault → Result Outcome IngestFault
finished met (Ok behind) = Ok (then_of met behind)
finished met (Err why) = Err why

-- What is used to take a stream.
pub record Over : Type 0 where
  pub source : SourceRecord
  pub link : LinkRecord
  pub sink : SinkRecord
  pub log : SinkRecord
  pub clock : ClockRecord

abbrev pub over_tells : {S L K E C : Type 0} → (S → SourceRecord) → Tellers L K E C → S → L → K → E → C → Over
over_tells source_tells tells source link sink log clock =
    record { source = source_tells source; link = tells.link link; sink = tells.sink sink; log = tells.log log; clock = tells.clock clock }

-- the same, where this link is out
abbrev pub over_of : LinkRecord → Outside → Over
over_of link outside =
    record { source = outside.streams.source; link = link; sink = outside.streams.sink; log = outside.streams.log; clock = outside.clock }

-- the span with these, where the link gave this and these answers
abbrev pub span_over : Over → List ℕ → List PutAnswer → Span
span_over over given answers = record {
  source = over.source;
  moment = record {
    wire = record { link = over.link; sink = over.sink; given = given; answers = answers };
    log = over.log;
    clock = over.clock;
  };
}

-- no count of these fell
pub record KeepsOver (old new : Over) : Type 0 where
  pub source : old.source.faults ≤ new.source.faults
  pub ends : old.link.ends ≤ new.link.ends
  pub faults : old.link.faults ≤ new.link.faults
  pub sink : old.sink.faults ≤ new.sink.faults
  pub log : old.log.faults ≤ new.log.faults

-- The bulletins of the source were taken over a link that was not used yet.
pub record RunsFrom (result : Result Outcome IngestFault) (all : Ingesting) (old new : Over) : Type 0 where
  pub given : List ℕ
  pub answers : List PutAnswer
  pub runs : Runs result all (span_over old [] []) (span_over new given answers)

-- The same over a link that came, and it was given back.
pub record HoldsStream (result : Result Outcome IngestFault) (all : Ingesting) (came : LinkRecord) (old new : Outside) : Type 0 where
  pub left : LinkRecord
  pub runs : RunsFrom result all (over_of came old) (over_of left new)
  pub counts : KeepsOver (over_of came old) (over_of left new)
  pub not_closed : IsNotClosed left
  pub given_back : DialTakesBack left old.net new.net
