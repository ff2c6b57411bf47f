-- What is seen of a run at a moment.
use Rattle.std.specs.Prelude.{ℕ, ◌≤◌, List}
use Rattle.ldm_outside.specs.Clock.{ClockRecord}
use Rattle.ldm_outside.specs.Dial.{DialRecord}
use Rattle.ldm_outside.specs.Io.{SinkRecord, SourceRecord}
use Rattle.ldm_outside.specs.Link.{LinkRecord}
use Rattle.ldm_relay.specs.declared.message.PutAnswer.{PutAnswer}
use Rattle.ldm_status.specs.Streams.{StreamsRecord}
use Rattle.ldm_tools.specs.Telling.{Wire}

abbrev pub streams_tell : {S K E : Type 0} → (S → SourceRecord) → (K → SinkRecord) → (E → SinkRecord) → S → K → E → StreamsRecord
streams_tell source sink log of_source of_sink of_log = record { source = source of_source; sink = sink of_sink; log = log of_log }

-- What ingesting uses of the outside.
pub record Outside : Type 0 where
  pub streams : StreamsRecord
  pub net : DialRecord
  pub clock : ClockRecord

abbrev pub outside_tells : {N C : Type 0} → (N → DialRecord) → (C → ClockRecord) → StreamsRecord → N → C → Outside
outside_tells net clock streams of_net of_clock = record { streams = streams; net = net of_net; clock = clock of_clock }

-- No count fell.
pub record KeepsIngestCounts (old new : Outside) : Type 0 where
  pub source : old.streams.source.faults ≤ new.streams.source.faults
  pub net : old.net.faults ≤ new.net.faults
  pub ended : old.net.links.ended ≤ new.net.links.ended
  pub failed : old.net.links.failed ≤ new.net.links.failed
  pub sink : old.streams.sink.faults ≤ new.streams.sink.faults
  pub log : old.streams.log.faults ≤ new.streams.log.faults

-- A moment of a run over a link: the link with the sink of the answers, the log, and the clock.
pub record IngestMoment : Type 0 where
  pub wire : Wire
  pub log : SinkRecord
  pub clock : ClockRecord

-- no count of these fell
pub record KeepsMoment (old new : IngestMoment) : Type 0 where
  pub ends : old.wire.link.ends ≤ new.wire.link.ends
  pub faults : old.wire.link.faults ≤ new.wire.link.faults
  pub sink : old.wire.sink.faults ≤ new.wire.sink.faults
  pub log : old.log.faults ≤ new.log.faults

-- the same with the source
pub record Span : Type 0 where
  pub source : SourceRecord
  pub moment : IngestMoment

pub record KeepsSpan (old new : Span) : Type 0 where
  pub source : old.source.faults ≤ new.source.faults
  pub moment : KeepsMoment old.moment new.moment

-- the span where this link is out, which gave this and these answers
abbrev pub span_of : LinkRecord → Outside → List ℕ → List PutAnswer → Span
span_of link outside given answers = record {
  source = outside.streams.source;
  moment = record {
    wire = record { link = link; sink = outside.streams.sink; given = given; answers = answers };
    log = outside.streams.log;
    clock = outside.clock;
  };
}
