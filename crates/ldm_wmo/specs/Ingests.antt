-- What `wmo` does.
use Rattle.std.specs.Prelude.{◌≡◌, ℕ, List, [], Result, Ok, Err}
use Rattle.ldm_outside.specs.Io.{SinkRecord}
use Rattle.ldm_outside.specs.Link.{LinkRecord}
use Rattle.ldm_relay.specs.declared.message.PutAnswer.{PutAnswer}
use Rattle.ldm_status.specs.declared.status.Status.{Status}
use Rattle.ldm_status.specs.declared.status.Status.TheVariants as status
use Rattle.ldm_status.specs.declared.status.TheConstants.{LOG_FAULT}
use Rattle.ldm_status.specs.Status.{ReportsBecause}
use Rattle.ldm_tools.specs.Asking.{IsLinked, IsUnreached}
use Rattle.ldm_tools.specs.Telling.{status_of_put_fault}
use Rattle.ldm_wmo.specs.declared.ingest_fault.IngestFault.{IngestFault}
use Rattle.ldm_wmo.specs.declared.ingest_fault.IngestFault.TheVariants as fault
use Rattle.ldm_wmo.specs.declared.outcome.Outcome.{Outcome}
use Rattle.ldm_wmo.specs.declared.outcome.Outcome.TheVariants as outcome
use Rattle.ldm_wmo.specs.declared.statuses.TheConstants.{BAD_BULLETIN}
use Rattle.ldm_wmo.specs.Ingesting.{Ingesting}
use Rattle.ldm_wmo.specs.Moments.{Outside, span_of}
use Rattle.ldm_wmo.specs.Owing.{Completes}
use Rattle.ldm_wmo.specs.Runs.{Runs}

-- How the program ends: with a status and its line; or with a number alone, since the log has a line already or failed.
pub data Closing : Type 0 where
  Line : Status → Closing
  Silent : (code : ℕ) → Closing

abbrev pub closing_of : Result Outcome IngestFault → Closing
closing_of (Ok outcome.Clean) = Line status.Done
closing_of (Ok outcome.Bad) = Silent BAD_BULLETIN
closing_of (Ok outcome.Refused) = Line status.Refused
closing_of (Err fault.Unreached) = Line status.NetFault
closing_of (Err fault.SourceFault) = Line status.SourceFault
closing_of (Err fault.StreamLimit) = Line status.StreamLimit
closing_of (Err fault.OutOfMemory) = Line status.NoMemory
closing_of (Err (fault.Put why)) = Line (status_of_put_fault why)
closing_of (Err fault.LogFault) = Silent LOG_FAULT

-- the number that ends the program, and what the log took of it
abbrev pub Closes : Closing → ℕ → SinkRecord → SinkRecord → Type 0
Closes (Line ending) code old new = ReportsBecause ending code old new
Closes (Silent number) code old new = (code ≡ number) × (new ≡ old)

-- The dial was asked once, and connected a link. The bulletins of the source were taken over it, and it was given back as it was left.
pub record IngestsOver (ending : Result Outcome IngestFault) (all : Ingesting) (old new : Outside) : Type 0 where
  pub came : LinkRecord
  pub left : LinkRecord
  pub linked : IsLinked all.peer came left old.net new.net
  pub given : List ℕ
  pub answers : List PutAnswer
  pub runs : Runs ending all (span_of came old [] []) (span_of left new given answers)
  pub completes : Completes ending all.framing came old new

-- No link was connected, and nothing else was done.
pub record IsIdle (all : Ingesting) (old new : Outside) : Type 0 where
  pub unreached : IsUnreached all.peer old.net new.net
  pub streams : new.streams ≡ old.streams
  pub clock : new.clock ≡ old.clock

-- How ingesting ends.
abbrev pub IngestEnds : Result Outcome IngestFault → Ingesting → Outside → Outside → Type 0
IngestEnds (Err fault.Unreached) all old new = IsIdle all old new
IngestEnds (Ok outcome) all old new = IngestsOver (Ok outcome) all old new
IngestEnds (Err fault.SourceFault) all old new = IngestsOver (Err fault.SourceFault) all old new
IngestEnds (Err fault.StreamLimit) all old new = IngestsOver (Err fault.StreamLimit) all old new
IngestEnds (Err fault.OutOfMemory) all old new = IngestsOver (Err fault.OutOfMemory) all old new
IngestEnds (Err (fault.Put why)) all old new = IngestsOver (Err (fault.Put why)) all old new
IngestEnds (Err fault.LogFault) all old new = IngestsOver (Err fault.LogFault) all old new

-- The bulletins were taken as far as the end says, and then the number and the log tell how it ended.
pub record Ingests (code : ℕ) (all : Ingesting) (old new : Outside) : Type 0 where
  pub ending : Result Outcome IngestFault
  pub log : SinkRecord
  pub ends : IngestEnds ending all old (record new { streams = record new.streams { log = log } })
  pub closes : Closes (closing_of ending) code log new.streams.log
