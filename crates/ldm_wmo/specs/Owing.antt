-- What a run comes to where nothing fails.
use Rattle.std.specs.Prelude.{◌≡◌, ◌⊎◌, ℕ, ◌<◌, cond, List, length, Some, Result, Ok, Err}
use Rattle.ldm_outside.specs.Count.{Rose}
use Rattle.ldm_outside.specs.Link.{LinkRecord}
use Rattle.ldm_relay.specs.declared.message.PutAnswer.{PutAnswer}
use Rattle.ldm_session.specs.declared.limits.TheConstants.{LONGEST_STREAM}
use Rattle.ldm_tools.specs.declared.no_reply.NoReply.TheVariants as no_reply
use Rattle.ldm_tools.specs.declared.put_fault.PutFault.TheVariants as put_fault
use Rattle.ldm_tools.specs.Owing.{AreOwed, are_denied}
use Rattle.ldm_tools.specs.Telling.{HasAnswers}
use Rattle.ldm_wmo.specs.declared.framing.Framing.{Framing}
use Rattle.ldm_wmo.specs.Streams.{cut_at_end, items_of}
use Rattle.ldm_wmo.specs.declared.ingest_fault.IngestFault.{IngestFault}
use Rattle.ldm_wmo.specs.declared.ingest_fault.IngestFault.TheVariants as fault
use Rattle.ldm_wmo.specs.declared.outcome.Outcome.{Outcome}
use Rattle.ldm_wmo.specs.Ingesting.{reports_of}
use Rattle.ldm_wmo.specs.Moments.{Outside}
use Rattle.ldm_wmo.specs.Outcomes.{cut_outcome, owed_of, then_of}

-- No count of faults rose.
pub record NoneRose (old new : Outside) : Type 0 where
  pub source : ¬ Rose old.streams.source.faults new.streams.source.faults
  pub failed : ¬ Rose old.net.links.failed new.net.links.failed
  pub sink : ¬ Rose old.streams.sink.faults new.streams.sink.faults
  pub log : ¬ Rose old.streams.log.faults new.streams.log.faults

-- how a run over a stream of that framing ends by these answers to its bulletins
abbrev pub ending_owed : Framing → List ℕ → List PutAnswer → Result Outcome IngestFault
ending_owed framing bytes answers =
    let whole = then_of (owed_of (items_of framing bytes) answers) (cut_outcome (cut_at_end framing bytes)) in
    cond (are_denied answers) (Err (fault.Put put_fault.Denied)) (Ok whole)

-- there was no memory
abbrev pub IsNoMemory : Result Outcome IngestFault → Type 0
IsNoMemory ending = (ending ≡ Err fault.OutOfMemory) ⊎ (ending ≡ Err (fault.Put (put_fault.NoAnswer no_reply.OutOfMemory)))

-- These bytes are all that the source has left, and fewer than are taken of a stream; and all that the link has left to give begins with the
-- replies that are owed to their bulletins.
pub record IsServed (framing : Framing) (bytes stream : List ℕ) (answers : List PutAnswer) (came : LinkRecord) (old : Outside) : Type 0 where
  pub source : old.streams.source.left ≡ Some bytes
  pub short : length bytes < LONGEST_STREAM
  pub link : came.left ≡ Some stream
  pub short_stream : length stream < LONGEST_STREAM
  pub says : HasAnswers stream answers
  pub owed : AreOwed (reports_of (items_of framing bytes)) answers

-- Where that holds and no count of faults rose, the run ended as the stream and the answers say, or there was no memory.
abbrev pub Completes : Result Outcome IngestFault → Framing → LinkRecord → Outside → Outside → Type 0
Completes ending framing came old new =
    (bytes stream : List ℕ) (answers : List PutAnswer) → IsServed framing bytes stream answers came old → NoneRose old new
    → (ending ≡ ending_owed framing bytes answers) ⊎ IsNoMemory ending
