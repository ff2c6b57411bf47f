-- A link that was connected and given back, what was done over it, and which count rose.
use Rattle.std.proofs.Common.{[], inl, inr}
use Rattle.std.specs.Prelude.{Result, Ok, Err}
use Rattle.ldm_outside.specs.declared.dial.Dialled.TheVariants.{Linked}
use Rattle.ldm_outside.specs.Count.{Rose}
use Rattle.ldm_outside.specs.Dial.{DialRecord, ConnectGives}
use Rattle.ldm_outside.specs.Link.{LinkRecord}
use Rattle.ldm_outside.proofs.CallerLemmas.{Rose-later}
use Rattle.ldm_tools.specs.declared.no_reply.NoReply.TheVariants as no_reply
use Rattle.ldm_tools.specs.declared.put_fault.PutFault.TheVariants as put_fault
use Rattle.ldm_tools.proofs.Linked.{linked}
use Rattle.ldm_wmo.specs.Items.{Found, Bulletin, Bad}
use Rattle.ldm_wmo.specs.declared.ingest_fault.IngestFault.{IngestFault}
use Rattle.ldm_wmo.specs.declared.ingest_fault.IngestFault.TheVariants as fault
use Rattle.ldm_wmo.specs.declared.outcome.Outcome.{Outcome}
use Rattle.ldm_wmo.specs.Ingesting.{Ingesting}
use Rattle.ldm_wmo.specs.Ingests.{IngestEnds, IngestsOver}
use Rattle.ldm_wmo.specs.Moments.{KeepsMoment, IngestMoment, Outside, span_of}
use Rattle.ldm_wmo.specs.Parts.{HoldsStream}
use Rattle.ldm_wmo.specs.Runs.{Runs}
use Rattle.ldm_wmo.specs.IngestTaking.{Breaks}
use Rattle.ldm_wmo.specs.Told.{Cause}
use Rattle.ldm_wmo.proofs.Completed.{completes, cut_rose, kept_before, log_rose, source_rose}

ingests_over : (ending : Result Outcome IngestFault) (all : Ingesting) (came : LinkRecord) (lent : DialRecord) (old new : Outside)
    → ConnectGives (λ (link : LinkRecord). link) (Linked came) all.peer old.net lent → HoldsStream ending all came (record old { net = lent }) new → IngestsOver ending all old new
ingests_over ending all came lent old new dialled holds =
    let is = linked all.peer came holds.left old.net lent new.net dialled holds.not_closed holds.given_back in
    record {
      came = came;
      left = holds.left;
      linked = is;
      given = holds.runs.given;
      answers = holds.runs.answers;
      runs = holds.runs.runs;
      completes = completes all came holds.left old new holds.runs.given holds.runs.answers ending holds.runs.runs is.failed;
    }

pub ingest_ends : (ending : Result Outcome IngestFault) (all : Ingesting) (came : LinkRecord) (lent : DialRecord) (old new : Outside)
    → ConnectGives (λ (link : LinkRecord). link) (Linked came) all.peer old.net lent → HoldsStream ending all came (record old { net = lent }) new → IngestEnds ending all old new
ingest_ends (Ok met) all came lent old new dialled holds = ingests_over (Ok met) all came lent old new dialled holds
ingest_ends (Err fault.SourceFault) all came lent old new dialled holds = ingests_over (Err fault.SourceFault) all came lent old new dialled holds
ingest_ends (Err fault.StreamLimit) all came lent old new dialled holds = ingests_over (Err fault.StreamLimit) all came lent old new dialled holds
ingest_ends (Err fault.OutOfMemory) all came lent old new dialled holds = ingests_over (Err fault.OutOfMemory) all came lent old new dialled holds
ingest_ends (Err (fault.Put why)) all came lent old new dialled holds = ingests_over (Err (fault.Put why)) all came lent old new dialled holds
ingest_ends (Err fault.LogFault) all came lent old new dialled holds = ingests_over (Err fault.LogFault) all came lent old new dialled holds
ingest_ends (Err fault.Unreached) all came lent old new dialled holds = absurd holds.runs.runs

-- ---- causes

sink_rose : (all : Ingesting) (item : Found) (came : LinkRecord) (first mid last : IngestMoment) → KeepsMoment first mid → Breaks (fault.Put put_fault.SinkFault) all item came mid last
    → Rose first.wire.sink.faults last.wire.sink.faults
sink_rose all (Bad at) came first mid last kept breaks = absurd breaks
sink_rose all (Bulletin at seqno heading bytes) came first mid last kept breaks =
    Rose-later first.wire.sink.faults mid.wire.sink.faults last.wire.sink.faults kept.sink breaks.breaks.rose

link_rose : (all : Ingesting) (item : Found) (came : LinkRecord) (mid last : IngestMoment) → Breaks (fault.Put (put_fault.NoAnswer no_reply.LinkFault)) all item came mid last
    → Rose came.faults last.wire.link.faults
link_rose all (Bad at) came mid last breaks = absurd breaks
link_rose all (Bulletin at seqno heading bytes) came mid last breaks = breaks.breaks.says.says.1

pub cause : (ending : Result Outcome IngestFault) (all : Ingesting) (old new : Outside) → IngestEnds ending all old new → Cause ending old new
cause (Ok met) all old new ends = tt
cause (Err fault.Unreached) all old new ends = ends.unreached.0
cause (Err fault.SourceFault) all old new ends = source_rose all ends.came ends.left old new ends.given ends.answers ends.runs
cause (Err fault.StreamLimit) all old new ends = tt
cause (Err fault.OutOfMemory) all old new ends = tt
cause (Err (fault.Put (put_fault.NoAnswer (no_reply.BadFrame at)))) all old new ends = tt
cause (Err (fault.Put (put_fault.NoAnswer no_reply.StreamLimit))) all old new ends = tt
cause (Err (fault.Put (put_fault.NoAnswer no_reply.LinkFault))) all old new ends =
    let at = ends.runs.breaks in
    ends.linked.failed (link_rose all at.item ends.came at.mid (span_of ends.left new ends.given ends.answers).moment at.breaks)
cause (Err (fault.Put (put_fault.NoAnswer no_reply.OutOfMemory))) all old new ends = tt
cause (Err (fault.Put put_fault.Denied)) all old new ends = tt
cause (Err (fault.Put put_fault.SinkFault)) all old new ends =
    let at = ends.runs.breaks in
    sink_rose all at.item ends.came (span_of ends.came old [] []).moment at.mid (span_of ends.left new ends.given ends.answers).moment
    (kept_before all ends.came ends.left old new ends.given ends.answers (fault.Put put_fault.SinkFault) ends.runs) at.breaks
cause (Err fault.LogFault) all old new ends = by_log ends.runs
  where
    by_log : Runs (Err fault.LogFault) all (span_of ends.came old [] []) (span_of ends.left new ends.given ends.answers)
        → Rose old.streams.log.faults new.streams.log.faults
    by_log (inl stops) =
        log_rose all ends.came ends.left old new ends.given ends.answers stops.breaks.item stops.breaks.mid
        (kept_before all ends.came ends.left old new ends.given ends.answers fault.LogFault stops) stops.breaks.breaks
    by_log (inr breaks) = cut_rose all ends.came ends.left old new ends.given ends.answers breaks
