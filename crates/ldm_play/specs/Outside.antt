-- What a command over the file of a queue is lent, as it tells.
use Rattle.std.specs.Prelude.{◌≤◌}
use Rattle.ldm_outside.specs.Io.{SourceRecord, SinkRecord}
use Rattle.ldm_disk.specs.Told.{DiskRecord}
use Rattle.ldm_status.specs.declared.streams.Streams.{Streams}
use Rattle.ldm_status.specs.Streams.{StreamsRecord, KeepsFaults, streams_tells}

-- what streams and a disk tell at a moment
pub record OutsideRecord : Type 0 where
  pub streams : StreamsRecord
  pub disk : DiskRecord

-- what they tell, by what the streams tell
abbrev pub outside_tells : StreamsRecord → DiskRecord → OutsideRecord
outside_tells streams disk = record { streams = streams; disk = disk }

-- what a sink, a log and a disk tell at a moment
pub record CheckRecord : Type 0 where
  pub sink : SinkRecord
  pub log : SinkRecord
  pub disk : DiskRecord

abbrev pub check_tells : SinkRecord → SinkRecord → DiskRecord → CheckRecord
check_tells sink log disk = record { sink = sink; log = log; disk = disk }

-- no count of faults fell
pub record KeepsAllFaults (old new : OutsideRecord) : Type 0 where
  pub streams : KeepsFaults old.streams new.streams
  pub disk : old.disk.faults ≤ new.disk.faults

pub record KeepsCheckFaults (old new : CheckRecord) : Type 0 where
  pub sink : old.sink.faults ≤ new.sink.faults
  pub log : old.log.faults ≤ new.log.faults
  pub disk : old.disk.faults ≤ new.disk.faults
