-- What is seen of a worker at a moment.
use Rattle.std.specs.Prelude.{◌≤◌}
use Rattle.ldm_outside.specs.Door.{DoorRecord}
use Rattle.ldm_outside.specs.Station.{StationRecord}
use Rattle.ldm_shared.specs.Passes.{PassView}

-- Its pass, and what its station tells.
pub record DoorMoment : Type 0 where
  pub pass : PassView
  pub station : StationRecord

abbrev pub moment : PassView → StationRecord → DoorMoment
moment pass station = record { pass = pass; station = station }

-- the same with another door
abbrev pub with_door : DoorRecord → DoorMoment → DoorMoment
with_door door old = record old { station = record old.station { door = door } }

-- No count fell: of faults of the door and of the log, of peers, of closings, of links that had ended or failed, and of stops.
pub record KeepsDoorCounts (old new : StationRecord) : Type 0 where
  pub door : old.door.faults ≤ new.door.faults
  pub peers : old.door.peers ≤ new.door.peers
  pub closings : old.door.closings ≤ new.door.closings
  pub ended : old.door.links.ended ≤ new.door.links.ended
  pub failed : old.door.links.failed ≤ new.door.links.failed
  pub log : old.log.faults ≤ new.log.faults
  pub stops : old.gate.stops ≤ new.gate.stops
