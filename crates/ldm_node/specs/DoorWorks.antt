-- What a worker does from its beginning to its end: it lets one peer in after another.
use Rattle.std.specs.Prelude.{◌≡◌, ℕ, ◌+◌, ◌-◌, ◌^◌, ◌<◌, ◌≤◌, ◌⊎◌, List, [], ◌∷◌, length, true, false, Option, Some, None}
use Rattle.ldm_class.specs.Rules.{Rules}
use Rattle.ldm_outside.specs.declared.door.Came.{Came}
use Rattle.ldm_outside.specs.declared.door.Came.TheVariants.{Closed, Failed}
use Rattle.ldm_outside.specs.Count.{Rose}
use Rattle.ldm_outside.specs.Door.{AcceptGives}
use Rattle.ldm_outside.specs.Io.{SinkRecord}
use Rattle.ldm_outside.specs.Link.{LinkRecord}
use Rattle.ldm_outside.specs.Station.{StationRecord}
use Rattle.ldm_shared.specs.declared.steps.TheConstants.{MOST_TURNS}
use Rattle.ldm_shared.specs.Passes.{PassView}
use Rattle.ldm_serve.specs.declared.end.ServeEnd.{ServeEnd}
use Rattle.ldm_node.specs.declared.stop.NodeStop.{NodeStop}
use Rattle.ldm_node.specs.declared.stop.NodeStop.TheVariants.{Done, NetFault, LogFault, Worn, OutOfMemory}
use Rattle.ldm_node.specs.ServingEnds.{stop_by}
use Rattle.ldm_node.specs.DoorMoments.{DoorMoment}
use Rattle.ldm_node.specs.Visits.{Visit, Admits}

-- Visits one after another. The log took the line of each, and behind each the worker went on.
abbrev pub AreVisits : Rules → List Visit → DoorMoment → DoorMoment → Type 0
AreVisits rules [] old new = new ≡ old
AreVisits rules (visit ∷ visits) old new =
    (mid : DoorMoment) × Admits true rules visit old mid × (stop_by visit.end ≡ None) × AreVisits rules visits mid new

-- What ended a worker before it had held as many sessions as it was to.
pub data Ending : Type 0 where
  -- the door answered that no peer comes any more
  ClosedDoor : Ending
  -- the door failed
  FailedDoor : Ending
  -- one visit more, which is the last
  LastVisit : (visit : Visit) → Ending

-- The door let nobody in, and nothing else was done.
pub record Declines (answer : Came LinkRecord) (old new : DoorMoment) : Type 0 where
  pub answered : AcceptGives (λ (link : LinkRecord). link) answer old.station.door new.station.door
  pub same : new ≡ record old { station = record old.station { door = new.station.door } }

-- Why the log failed, by how the session ended and what it left of the log: in the session, and then no line was written; or at
-- the line.
abbrev pub FailsAt : ServeEnd → (left new : SinkRecord) → Type 0
FailsAt end left new = ((stop_by end ≡ Some LogFault) × (new ≡ left)) ⊎ Rose left.faults new.faults

-- How a worker ends, by what ended it, if anything did before it had held as many sessions as it was to.
abbrev pub EndsBy : NodeStop → Rules → Option Ending → DoorMoment → DoorMoment → Type 0
EndsBy Done rules None old new = new ≡ old
EndsBy Done rules (Some ClosedDoor) old new = Declines Closed old new
-- the gate stopped the last session
EndsBy Done rules (Some (LastVisit visit)) old new = Admits true rules visit old new × (stop_by visit.end ≡ Some Done)
EndsBy NetFault rules (Some FailedDoor) old new = Declines Failed old new
-- the log failed: of the line it took a front, perhaps nothing
EndsBy LogFault rules (Some (LastVisit visit)) old new =
    (admits : Admits false rules visit old new) × FailsAt visit.end admits.holds.log new.station.log
EndsBy Worn rules (Some (LastVisit visit)) old new = Admits true rules visit old new × (stop_by visit.end ≡ Some Worn)
EndsBy _ rules _ old new = ⊥

-- so many sessions were held before that, of those that a worker is to hold
abbrev pub IsCount : Option Ending → (held sessions : ℕ) → Type 0
IsCount None held sessions = held ≡ sessions
IsCount (Some ending) held sessions = held < sessions

-- All that a worker does that is to hold so many sessions: the visits behind which it went on, and how it ended.
pub record Works (stop : NodeStop) (rules : Rules) (sessions : ℕ) (old new : DoorMoment) : Type 0 where
  pub visits : List Visit
  pub at_end : DoorMoment
  pub each : AreVisits rules visits old at_end
  pub ending : Option Ending
  pub ends : EndsBy stop rules ending at_end new
  pub count : IsCount ending (length visits) sessions

-- the count rose so many times, or it stands at the end of its type, where it rises no more
abbrev pub RoseBy : (times old new : ℕ) → Type 0
RoseBy times old new = (old + times ≤ new) ⊎ (2 ^ 64 - 1 ≤ new)

-- What stands besides where something ended a worker before it had held all its sessions: in its station, and in what its pass
-- has seen.
abbrev pub EndCause : NodeStop → PassView → StationRecord → StationRecord → Type 0
EndCause Done pass old new =
    Rose old.door.closings new.door.closings ⊎ (Rose old.door.peers new.door.peers × Rose old.gate.stops new.gate.stops)
EndCause NetFault pass old new = Rose old.door.faults new.door.faults
EndCause LogFault pass old new = Rose old.log.faults new.log.faults
EndCause Worn pass old new = length pass.seen ≡ MOST_TURNS
EndCause OutOfMemory pass old new = ⊥

-- what stands besides where a worker stops that is to hold so many sessions
abbrev pub StopCause : NodeStop → (sessions : ℕ) → PassView → StationRecord → StationRecord → Type 0
StopCause Done sessions pass old new = RoseBy sessions old.door.peers new.door.peers ⊎ EndCause Done pass old new
StopCause NetFault sessions pass old new = EndCause NetFault pass old new
StopCause LogFault sessions pass old new = EndCause LogFault pass old new
StopCause Worn sessions pass old new = EndCause Worn pass old new
StopCause OutOfMemory sessions pass old new = EndCause OutOfMemory pass old new
