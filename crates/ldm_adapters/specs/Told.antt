-- What the forms of the system tell: counts alone.
use Rattle.std.specs.Prelude.{ℕ, Bool, true, false, Option, Some, None, is_some}
use Rattle.ldm_disk.specs.Told.{DiskRecord}
use Rattle.ldm_disk.specs.declared.desk.Desk.{Desk}
use Rattle.ldm_disk.specs.Desks.{DeskRecord, desk_tells}
use Rattle.ldm_outside.specs.declared.net.Station.{Station}
use Rattle.ldm_outside.specs.Clock.{ClockRecord}
use Rattle.ldm_outside.specs.Dial.{DialRecord}
use Rattle.ldm_outside.specs.Door.{DoorRecord}
use Rattle.ldm_outside.specs.Gate.{GateRecord}
use Rattle.ldm_outside.specs.Io.{SinkRecord}
use Rattle.ldm_outside.specs.Lending.{LendingRecord}
use Rattle.ldm_outside.specs.Link.{LinkRecord}
use Rattle.ldm_outside.specs.Station.{StationRecord, station_tells}
use Rattle.ldm_adapters.specs.declared.clock.RealClock.{RealClock}
use Rattle.ldm_adapters.specs.declared.dials.RealDial.{RealDial}
use Rattle.ldm_adapters.specs.declared.disk.RealDisk.{RealDisk}
use Rattle.ldm_adapters.specs.declared.doors.RealDoor.{RealDoor}
use Rattle.ldm_adapters.specs.declared.gate.RealGate.{RealGate}
use Rattle.ldm_adapters.specs.declared.lending.RealLending.{RealLending}
use Rattle.ldm_adapters.specs.declared.links.RealLink.{RealLink}
use Rattle.ldm_adapters.specs.declared.streams.RealSink.{RealSink}

abbrev pub told_by_sink : {W : Type 0} → RealSink W → SinkRecord
told_by_sink s = record { written = None; faults = s.faults }

abbrev pub told_by_clock : RealClock → ClockRecord
told_by_clock s = record { answers = None }

-- after how many idle calls a gate stops: one that may stop with its net does not tell this
abbrev pub told_idles : Bool → Option ℕ → Option (Option ℕ)
told_idles true idles = None
told_idles false idles = Some idles

abbrev pub told_by_gate : RealGate → GateRecord
told_by_gate s = record { stops = s.stops; idles = told_idles s.by_net s.idles; calls = None }

abbrev pub told_by_link : RealLink → LinkRecord
told_by_link s = record { passed = None; left = None; ends = s.ends; faults = s.faults; closed = s.closed }

abbrev pub told_by_lending : RealLending → LendingRecord
told_by_lending s = record { out = s.out; ended = s.ended; failed = s.failed; back = None }

abbrev pub told_by_door : RealDoor → DoorRecord
told_by_door s = record {
  faults = s.faults;
  peers = s.peers;
  closings = s.closings;
  hosts = None;
  links = told_by_lending s.links;
}

abbrev pub told_by_dial : RealDial → DialRecord
told_by_dial s = record { faults = s.faults; asked = None; links = told_by_lending s.links }

abbrev pub told_by_disk : RealDisk → DiskRecord
told_by_disk s = record { faults = s.faults; attached = is_some s.file; file = None }

abbrev pub told_by_station : {W : Type 0} → Station RealDoor RealDial (RealSink W) RealClock RealGate → StationRecord
told_by_station station = station_tells told_by_door told_by_dial told_by_sink told_by_clock told_by_gate station

abbrev pub told_by_desk : {W : Type 0} → Desk RealDisk (RealSink W) RealClock RealGate → DeskRecord
told_by_desk desk = desk_tells told_by_disk told_by_sink told_by_clock told_by_gate desk
