-- What contracts see of a net in memory, and what one call of it does.
use Rattle.std.specs.Prelude.{◌≡◌, ◌<◌, ◌≤◌, true, false, ◌⊎◌, List, [], length, take, drop, map, Option, Some, None}
use Rattle.ldm_outside.specs.declared.net.Manned.{Manned}
use Rattle.ldm_outside.specs.declared.net.Manned.TheVariants.{Stations, Failed, OutOfMemory}
use Rattle.ldm_outside.specs.declared.net.Station.{Station}
use Rattle.ldm_outside_memory.specs.declared.mem_net.StationScript.{StationScript}
use Rattle.ldm_outside_memory.specs.declared.mem_net.StationsCall.{StationsCall}
use Rattle.ldm_outside.specs.Station.{StationRecord, station_tells}
use Rattle.ldm_outside_memory.specs.Memory.{SinkState, next_fails, after_call, first_plan, told_by_sink}
use Rattle.ldm_outside_memory.specs.MemDoor.{DoorState, first_door, told_by_door}
use Rattle.ldm_outside_memory.specs.MemDial.{DialState, first_dial, told_by_dial, after_failure}
use Rattle.ldm_outside_memory.specs.MemClock.{ClockState, told_by_clock}
use Rattle.ldm_outside_memory.specs.MemGate.{GateState, first_gate, told_by_gate}

-- a station whose parts are in memory
abbrev pub StationState : Type 0
StationState = Station DoorState DialState SinkState ClockState GateState

-- the station at its beginning
abbrev pub first_station : StationScript → StationState
first_station script = record {
  door = first_door script.peers.items script.door_failing.items;
  dial = first_dial script.links.items script.dial_failing.items;
  log = record { written = []; faults = 0; plan = first_plan script.log_failing.items };
  clock = record { instants = script.instants.items; calls = 0 };
  gate = first_gate script.stopping.items;
}

-- what a station in memory tells
abbrev pub told_by_station : StationState → StationRecord
told_by_station = station_tells told_by_door told_by_dial told_by_sink told_by_clock told_by_gate

-- a net that hands out the stations of a list
pub record NetState : Type 0 where
  -- what it connects by; the calls of `stations` are numbered with its own
  pub dial : DialState
  -- the stations that it did not hand out yet
  pub ready : List StationScript
  -- what it was asked for last
  pub asked : Option StationsCall
  -- the stations that it keeps
  pub kept : List StationState

-- the net at its beginning
abbrev pub first_net : DialState → List StationScript → NetState
first_net dial ready = record { dial = dial; ready = ready; asked = None; kept = [] }

-- What one call of `stations` did.
abbrev pub StationsAsPlanned : Manned StationState → StationsCall → NetState → NetState → Type 0
-- it hands out the first of its list
StationsAsPlanned (Stations stations) call old new =
    (next_fails old.dial.plan ≡ false) × (call.count ≤ length old.ready)
    × (stations.items ≡ map first_station (take call.count old.ready))
    × (new ≡ record old {
      dial = record old.dial { plan = after_call old.dial.plan };
      ready = drop call.count old.ready;
      asked = Some call;
    })
-- its plan says so, or it has too few
StationsAsPlanned Failed call old new =
    ((next_fails old.dial.plan ≡ true) ⊎ (length old.ready < call.count))
    × (new ≡ record old { dial = after_failure old.dial; asked = Some call })
StationsAsPlanned OutOfMemory call old new =
    (next_fails old.dial.plan ≡ false) × (call.count ≤ length old.ready)
    × (new ≡ record old { dial = record old.dial { plan = after_call old.dial.plan }; asked = Some call })
