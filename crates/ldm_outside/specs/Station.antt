-- The outside of one worker.
use Rattle.std.specs.Prelude.{◌≡◌, ℕ, [], Option, IfSome}
use Rattle.ldm_outside.specs.Io.{SinkRecord}
use Rattle.ldm_outside.specs.Clock.{ClockRecord}
use Rattle.ldm_outside.specs.Gate.{GateRecord, StopsAfter}
use Rattle.ldm_outside.specs.Door.{DoorRecord, IsNewDoor}
use Rattle.ldm_outside.specs.Dial.{DialRecord, IsNewDial}
use Rattle.ldm_outside.specs.declared.net.Station.{Station}

-- What a station tells at a moment.
pub record StationRecord : Type 0 where
  pub door : DoorRecord
  pub dial : DialRecord
  pub log : SinkRecord
  pub clock : ClockRecord
  pub gate : GateRecord

-- A station of which no part was used, and whose gate stops after so many idle calls: all counts are 0, no link is out, and what
-- is told is empty.
pub record IsNew (idles : Option ℕ) (station : StationRecord) : Type 0 where
  pub door : IsNewDoor station.door
  pub dial : IsNewDial station.dial
  pub log : (station.log.faults ≡ 0) × IfSome station.log.written (λ bytes. bytes ≡ [])
  pub clock : IfSome station.clock.answers (λ instants. instants ≡ [])
  pub gate : (station.gate.stops ≡ 0) × IfSome station.gate.calls (λ calls. calls ≡ [])
  pub stopping : StopsAfter idles station.gate

-- what a station tells, by what its parts tell
abbrev pub station_tells : {D I E C G : Type 0} → (D → DoorRecord) → (I → DialRecord) → (E → SinkRecord) → (C → ClockRecord) → (G → GateRecord) → Station D I E C G → StationRecord
station_tells door dial log clock gate station = record {
  door = door station.door;
  dial = dial station.dial;
  log = log station.log;
  clock = clock station.clock;
  gate = gate station.gate;
}
