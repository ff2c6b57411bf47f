-- What the streams of a command tell.
use Rattle.std.specs.Prelude.{◌≡◌, ◌≤◌, [], IfSome}
use Rattle.ldm_outside.specs.Count.{Rose}
use Rattle.ldm_outside.specs.Io.{SourceRecord, SinkRecord}
use Rattle.ldm_status.specs.declared.streams.Streams.{Streams}

-- What the streams tell at a moment.
pub record StreamsRecord : Type 0 where
  pub source : SourceRecord
  pub sink : SinkRecord
  pub log : SinkRecord

-- what the streams tell, by what each tells
abbrev pub streams_tells : {S K E : Type 0} → (S → SourceRecord) → (K → SinkRecord) → (E → SinkRecord) → Streams S K E → StreamsRecord
streams_tells source sink log streams = record { source = source streams.source; sink = sink streams.sink; log = log streams.log }

-- Nothing was read and nothing was written, the log apart.
pub record IsUntouched (old new : StreamsRecord) : Type 0 where
  pub source : new.source ≡ old.source
  pub sink : new.sink ≡ old.sink

-- No count of faults fell.
pub record KeepsFaults (old new : StreamsRecord) : Type 0 where
  pub source : old.source.faults ≤ new.source.faults
  pub sink : old.sink.faults ≤ new.sink.faults
  pub log : old.log.faults ≤ new.log.faults

-- A source told its end, and where it tells what it has left, that is nothing.
abbrev pub AtEnd : SourceRecord → SourceRecord → Type 0
AtEnd old new = Rose old.ends new.ends × IfSome new.left (λ rest. rest ≡ [])
