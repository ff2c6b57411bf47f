-- The outside of one who watches.
use Rattle.std.specs.Prelude.{◌≤◌}
use Rattle.ldm_outside.specs.Io.{SinkRecord}
use Rattle.ldm_outside.specs.Link.{LinkRecord}

-- What it tells at a moment: the link, and the sink of the lines.
pub record WatchRecord : Type 0 where
  pub link : LinkRecord
  pub sink : SinkRecord

abbrev pub watch_tells : {K S : Type 0} → (K → LinkRecord) → (S → SinkRecord) → K → S → WatchRecord
watch_tells link sink of_link of_sink = record { link = link of_link; sink = sink of_sink }

-- No count fell: none of faults and of ends.
pub record KeepsWatchCounts (old new : WatchRecord) : Type 0 where
  pub link : old.link.faults ≤ new.link.faults
  pub ends : old.link.ends ≤ new.link.ends
  pub sink : old.sink.faults ≤ new.sink.faults
