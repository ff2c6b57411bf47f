-- A stream that is read in pieces: the items that a piece completes are taken before more is read.
use Rattle.std.specs.Prelude.{◌≡◌, ◌⊎◌, ℕ, ◌<◌, true, List, [], ◌∷◌, ◌++◌, length, Option, Some, None, Result, Ok, Err}
use Rattle.ldm_outside.specs.Count.{Rose}
use Rattle.ldm_outside.specs.Io.{Gives, SourceRecord}
use Rattle.ldm_session.specs.declared.limits.TheConstants.{LONGEST_STREAM}
use Rattle.ldm_status.specs.Streams.{AtEnd}
use Rattle.ldm_wmo.specs.declared.framing.Framing.{Framing}
use Rattle.ldm_wmo.specs.declared.framing.Framing.TheVariants.{Line, Socket}
use Rattle.ldm_wmo.specs.Items.{Found}
use Rattle.ldm_wmo.specs.Scanning.{begun, is_lost}
use Rattle.ldm_wmo.specs.Streams.{cut_at_end, in_hand, items_in}
use Rattle.ldm_wmo.specs.declared.ingest_fault.IngestFault.{IngestFault}
use Rattle.ldm_wmo.specs.declared.ingest_fault.IngestFault.TheVariants as fault
use Rattle.ldm_wmo.specs.declared.outcome.Outcome.{Outcome}
use Rattle.ldm_wmo.specs.Ingesting.{Ingesting}
use Rattle.ldm_wmo.specs.IngestLines.{cut_line}
use Rattle.ldm_wmo.specs.Moments.{KeepsSpan, IngestMoment, Span}
use Rattle.ldm_wmo.specs.Outcomes.{Step, cut_outcome, first_of, then_of}
use Rattle.ldm_wmo.specs.IngestTaking.{AreTaken, BreaksAt, BreaksLog, Logs}

-- A piece, and what became of the items that it completed.
pub record Turn : Type 0 where
  pub piece : List ℕ
  pub steps : List Step

-- all bytes of these pieces
abbrev pub bytes_of : List Turn → List ℕ
bytes_of [] = []
bytes_of (turn ∷ turns) = turn.piece ++ bytes_of turns

abbrev pub steps_of : List Turn → List Step
steps_of [] = []
steps_of (turn ∷ turns) = turn.steps ++ steps_of turns

-- the items that a piece completes, behind those bytes
abbrev pub items_behind : Framing → List ℕ → List ℕ → List Found
items_behind framing seen piece = items_in (in_hand (begun framing) seen) piece

-- A piece was read, behind those bytes, and then the items were taken that it completed.
pub record IsTurn (all : Ingesting) (seen : List ℕ) (turn : Turn) (old new : Span) : Type 0 where
  pub some : 0 < length turn.piece
  pub read : Gives old.source turn.piece new.source
  pub taken : AreTaken all (items_behind all.framing seen turn.piece) turn.steps old.moment new.moment

-- Pieces were read, one after another, behind those bytes, and the items taken.
abbrev pub AreTurns : Ingesting → List ℕ → List Turn → Span → Span → Type 0
AreTurns all seen [] old new = new ≡ old
AreTurns all seen (turn ∷ turns) old new = (mid : Span) × IsTurn all seen turn old mid × AreTurns all (seen ++ turn.piece) turns mid new

-- These turns were taken, and no count fell.
pub record Takes (all : Ingesting) (turns : List Turn) (old new : Span) : Type 0 where
  pub each : AreTurns all [] turns old new
  pub kept : KeepsSpan old new
  pub short : length (bytes_of turns) < LONGEST_STREAM

-- the line of the candidate that the end cuts off was written, if there is one
abbrev pub LogsCut : Option ℕ → IngestMoment → IngestMoment → Type 0
LogsCut None old new = new ≡ old
LogsCut (Some at) old new = Logs (cut_line at) old new

-- The source was read to its end; or, behind a frame that is none, no more is read.
abbrev pub IsOver : Framing → (seen : List ℕ) → SourceRecord → SourceRecord → Type 0
IsOver Line seen old new = AtEnd old new
IsOver Socket seen old new = AtEnd old new ⊎ (is_lost (in_hand (begun Socket) seen) ≡ true) × (new ≡ old)

-- The stream was read as far as it is read, and all items were taken.
pub record TakesAll (outcome : Outcome) (all : Ingesting) (old new : Span) : Type 0 where
  pub turns : List Turn
  pub mid : Span
  pub takes : Takes all turns old mid
  pub at_end : IsOver all.framing (bytes_of turns) mid.source new.source
  pub left : new.source.left ≡ mid.source.left
  pub cut : LogsCut (cut_at_end all.framing (bytes_of turns)) mid.moment new.moment
  pub outcome_is : outcome ≡ then_of (first_of (steps_of turns)) (cut_outcome (cut_at_end all.framing (bytes_of turns)))

-- All items of what the source gave were taken, and reading no more is why the run ended.
pub record StopsReading (stops : SourceRecord → SourceRecord → Type 0) (all : Ingesting) (old new : Span) : Type 0 where
  pub turns : List Turn
  pub mid : Span
  pub takes : Takes all turns old mid
  pub stops_so : stops mid.source new.source
  pub same : new.moment ≡ mid.moment

-- the source failed, and no byte was lost
abbrev pub SourceFails : SourceRecord → SourceRecord → Type 0
SourceFails old new = Rose old.faults new.faults × (new.left ≡ old.left)

-- As many bytes were taken of the source as are taken of a stream, and all their items.
pub record TakesMost (all : Ingesting) (old new : Span) : Type 0 where
  pub turns : List Turn
  pub each : AreTurns all [] turns old new
  pub most : length (bytes_of turns) ≡ LONGEST_STREAM

-- One more piece was read, and the run ended at one of the items that it completed.
pub record StopsAt (why : IngestFault) (all : Ingesting) (old new : Span) : Type 0 where
  pub turns : List Turn
  pub mid : Span
  pub takes : Takes all turns old mid
  pub piece : List ℕ
  pub read : Gives mid.source piece new.source
  pub breaks : BreaksAt why all (items_behind all.framing (bytes_of turns) piece) old.moment.wire.link mid.moment new.moment

-- The source was read to its end, and the log failed at the line of the candidate that the end cuts off.
pub record BreaksCut (all : Ingesting) (old new : Span) : Type 0 where
  pub turns : List Turn
  pub mid : Span
  pub takes : Takes all turns old mid
  pub at_end : AtEnd mid.source new.source
  pub at : ℕ
  pub cut : cut_at_end all.framing (bytes_of turns) ≡ Some at
  pub breaks : BreaksLog (cut_line at) mid.moment new.moment

-- How taking the bulletins of a stream over a link ends.
abbrev pub Runs : Result Outcome IngestFault → Ingesting → Span → Span → Type 0
Runs (Ok outcome) all old new = TakesAll outcome all old new
Runs (Err fault.SourceFault) all old new = StopsReading SourceFails all old new
Runs (Err fault.StreamLimit) all old new = TakesMost all old new
Runs (Err fault.OutOfMemory) all old new = new ≡ old
Runs (Err (fault.Put why)) all old new = StopsAt (fault.Put why) all old new
Runs (Err fault.LogFault) all old new = StopsAt fault.LogFault all old new ⊎ BreaksCut all old new
Runs (Err fault.Unreached) all old new = ⊥
