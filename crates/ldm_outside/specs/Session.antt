-- The outside of one session: its link, and the parts of a station that it uses.
use Rattle.std.specs.Prelude.{◌≤◌, None}
use Rattle.ldm_outside.specs.Clock.{ClockRecord}
use Rattle.ldm_outside.specs.Gate.{GateRecord}
use Rattle.ldm_outside.specs.Io.{SinkRecord}
use Rattle.ldm_outside.specs.Link.{LinkRecord}

-- What the outside of a session tells at a moment.
pub record SessionRecord : Type 0 where
  pub link : LinkRecord
  pub log : SinkRecord
  pub clock : ClockRecord
  pub gate : GateRecord

-- what the outside of a session tells, by what its parts tell
abbrev pub session_tells : {K E C G : Type 0} → (K → LinkRecord) → (E → SinkRecord) → (C → ClockRecord) → (G → GateRecord) → K → E → C → G → SessionRecord
session_tells link log clock gate of_link of_log of_clock of_gate =
    record { link = link of_link; log = log of_log; clock = clock of_clock; gate = gate of_gate }

-- what the gate tells of a session that asks none
abbrev pub no_gate : GateRecord
no_gate = record { stops = 0; idles = None; calls = None }

-- the same of a session that asks no gate
abbrev pub ungated_tells : {K E C : Type 0} → (K → LinkRecord) → (E → SinkRecord) → (C → ClockRecord) → K → E → C → SessionRecord
ungated_tells link log clock of_link of_log of_clock =
    record { link = link of_link; log = log of_log; clock = clock of_clock; gate = no_gate }

-- No count fell: none of faults, of ends and of stops.
pub record KeepsFaults (old new : SessionRecord) : Type 0 where
  pub link : old.link.faults ≤ new.link.faults
  pub ends : old.link.ends ≤ new.link.ends
  pub log : old.log.faults ≤ new.log.faults
  pub stops : old.gate.stops ≤ new.gate.stops
