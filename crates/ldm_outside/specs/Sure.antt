-- What contracts see of the sink that never fails.
use Rattle.std.specs.Prelude.{None}
use Rattle.ldm_outside.specs.Io.{SinkRecord}

-- it tells nothing of what it took
abbrev pub told_by_sure_sink : SinkRecord
told_by_sure_sink = record { written = None; faults = 0 }
