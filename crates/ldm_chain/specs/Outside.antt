-- What the outside of a feeding within one process tells.
use Rattle.std.specs.Prelude.{ℕ, Some, None}
use Rattle.ldm_outside.specs.Clock.{ClockRecord}
use Rattle.ldm_outside.specs.Gate.{GateRecord}
use Rattle.ldm_outside.specs.Sure.{told_by_sure_sink}
use Rattle.ldm_outside.specs.Session.{SessionRecord}
use Rattle.ldm_chain.specs.MirrorView.{MirrorView, told_by_mirror}

-- a clock that tells nothing
abbrev pub untold_clock : ClockRecord
untold_clock = record { answers = None }

-- a gate that stops at each idle call, and stopped so often
abbrev pub stopping : ℕ → GateRecord
stopping stops = record { stops = stops; idles = Some (Some 0); calls = None }

-- the outside of a feeding over a mirror: its log is forgotten
abbrev pub outside : MirrorView → ℕ → SessionRecord
outside m stops = record { link = told_by_mirror m; log = told_by_sure_sink; clock = untold_clock; gate = stopping stops }
