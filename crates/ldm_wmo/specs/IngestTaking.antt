-- What becomes of the items of a stream.
use Rattle.std.specs.Prelude.{◌≡◌, ℕ, List, [], ◌∷◌, ◌++◌}
use Rattle.ldm_outside.specs.Clock.{Answers}
use Rattle.ldm_outside.specs.Count.{Rose}
use Rattle.ldm_outside.specs.Io.{Takes, WritesFront}
use Rattle.ldm_outside.specs.Link.{LinkRecord}
use Rattle.ldm_relay.specs.declared.message.PutAnswer.{PutAnswer}
use Rattle.ldm_tools.specs.declared.put_fault.PutFault.{PutFault}
use Rattle.ldm_tools.specs.Telling as telling
use Rattle.ldm_tools.specs.Telling.{IsTold}
use Rattle.ldm_wmo.specs.Items.{Found, Bulletin, Bad}
use Rattle.ldm_wmo.specs.declared.ingest_fault.IngestFault.{IngestFault}
use Rattle.ldm_wmo.specs.declared.ingest_fault.IngestFault.TheVariants as fault
use Rattle.ldm_wmo.specs.Ingesting.{Ingesting, product_of}
use Rattle.ldm_wmo.specs.IngestLines.{bad_line}
use Rattle.ldm_wmo.specs.Moments.{KeepsMoment, IngestMoment}
use Rattle.ldm_wmo.specs.Outcomes.{Step, Put, Logged}

-- The clock was asked, the bulletin was put, and the line of the answer written.
pub record Puts (product : ℕ → telling.Product) (arrival : ℕ) (answer : PutAnswer) (old new : IngestMoment) : Type 0 where
  pub asked : Answers arrival old.clock new.clock
  pub told : IsTold (product arrival) answer old.wire new.wire
  pub log : new.log ≡ old.log

-- the log alone took these bytes
pub record Logs (line : List ℕ) (old new : IngestMoment) : Type 0 where
  pub written : Takes old.log line new.log
  pub same : new ≡ record old { log = new.log }

-- An item was taken: a bulletin was put, and the line of another candidate was written to the log.
abbrev pub TakesItem : Ingesting → Found → Step → IngestMoment → IngestMoment → Type 0
TakesItem all (Bulletin at seqno heading bytes) (Put arrival answer) old new =
    Puts (product_of all (record { seqno = seqno; heading = heading; bytes = bytes })) arrival answer old new
TakesItem all (Bad at) Logged old new = Logs (bad_line at) old new
TakesItem all (Bulletin at seqno heading bytes) Logged old new = ⊥
TakesItem all (Bad at) (Put arrival answer) old new = ⊥

-- These items were taken, one after another: each after all of the one before.
abbrev pub AreTaken : Ingesting → List Found → List Step → IngestMoment → IngestMoment → Type 0
AreTaken all [] [] old new = new ≡ old
AreTaken all (item ∷ items) (step ∷ steps) old new = (mid : IngestMoment) × TakesItem all item step old mid × AreTaken all items steps mid new
AreTaken all [] (step ∷ steps) old new = ⊥
AreTaken all (item ∷ items) [] old new = ⊥

-- The clock was asked, and putting the bulletin broke off.
pub record BreaksPut (why : PutFault) (product : ℕ → telling.Product) (came : LinkRecord) (old new : IngestMoment) : Type 0 where
  pub arrival : ℕ
  pub asked : Answers arrival old.clock new.clock
  pub breaks : telling.Breaks why (product arrival) came old.wire new.wire
  pub log : new.log ≡ old.log

-- The log failed, after a front of these bytes.
pub record BreaksLog (line : List ℕ) (old new : IngestMoment) : Type 0 where
  pub rose : Rose old.log.faults new.log.faults
  pub front : WritesFront old.log line new.log
  pub same : new ≡ record old { log = new.log }

-- Why a run ends at an item, over a link that came so.
abbrev pub Breaks : IngestFault → Ingesting → Found → (came : LinkRecord) → (old new : IngestMoment) → Type 0
Breaks (fault.Put why) all (Bulletin at seqno heading bytes) came old new =
    BreaksPut why (product_of all (record { seqno = seqno; heading = heading; bytes = bytes })) came old new
Breaks fault.LogFault all (Bad at) came old new = BreaksLog (bad_line at) old new
Breaks (fault.Put why) all (Bad at) came old new = ⊥
Breaks fault.LogFault all (Bulletin at seqno heading bytes) came old new = ⊥
Breaks fault.Unreached all item came old new = ⊥
Breaks fault.SourceFault all item came old new = ⊥
Breaks fault.StreamLimit all item came old new = ⊥
Breaks fault.OutOfMemory all item came old new = ⊥

-- The items before one were taken, and the run ended at that one, over a link that came so.
pub record BreaksAt (why : IngestFault) (all : Ingesting) (items : List Found) (came : LinkRecord) (old new : IngestMoment) : Type 0 where
  pub before : List Found
  pub item : Found
  pub behind : List Found
  pub items_are : items ≡ before ++ item ∷ behind
  pub steps : List Step
  pub mid : IngestMoment
  pub each : AreTaken all before steps old mid
  -- no count fell up to there
  pub kept : KeepsMoment old mid
  pub breaks : Breaks why all item came mid new
