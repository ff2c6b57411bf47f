-- Why a node ends, by what its stations tell and by what the last pass has seen.
use Rattle.std.specs.Prelude.{◌≡◌, ℕ, ◌+◌, ◌<◌, ◌⊎◌, List, length, slice_index_or, Contains}
use Rattle.std.specs.List.{All}
use Rattle.ldm_outside.specs.Station.{StationRecord}
use Rattle.ldm_shared.specs.declared.steps.TheConstants.{MOST_TURNS}
use Rattle.ldm_shared.specs.Passes.{PassView}
use Rattle.ldm_node.specs.declared.stop.NodeStop.{NodeStop}
use Rattle.ldm_node.specs.declared.stop.NodeStop.TheVariants.{Done, NetFault, LogFault, Worn, OutOfMemory}
use Rattle.ldm_node.specs.DoorWorks.{RoseBy}
use Rattle.ldm_node.specs.Roles.{Plan, Role, LetsIn, Asks, Rests, role_of}

-- What the station of a worker tells that is done. Of one that let peers in: as many came as it was to hold sessions with; or the door was
-- closed; or one came, and the gate stopped. Of one that asked: the gate stopped.
abbrev pub MayBeDone : Plan → Role → StationRecord → Type 0
MayBeDone plan LetsIn station =
    RoseBy plan.sessions 0 station.door.peers ⊎ ((0 < station.door.closings) ⊎ ((0 < station.door.peers) × (0 < station.gate.stops)))
MayBeDone plan (Asks request) station = 0 < station.gate.stops
MayBeDone plan Rests station = Unit {0}

-- some station has this
abbrev pub SomeHas : (StationRecord → Type 0) → List StationRecord → Type 0
SomeHas P stations = (station : StationRecord) × Contains stations station × P station

-- why a node ends: its stations, and the last pass
abbrev pub NodeCause : NodeStop → Plan → List StationRecord → PassView → Type 0
-- each worker may be done
NodeCause Done plan stations last =
    (length stations ≡ plan.workers + length plan.requests)
    × ((actor : ℕ) (d : StationRecord) → actor < length stations → MayBeDone plan (role_of plan actor) (slice_index_or stations actor d))
-- some door failed
NodeCause NetFault plan stations last = SomeHas (λ station. 0 < station.door.faults) stations
-- some log failed
NodeCause LogFault plan stations last = SomeHas (λ station. 0 < station.log.faults) stations
-- the queue has had all its calls
NodeCause Worn plan stations last = length last.seen ≡ MOST_TURNS
-- there is no memory
NodeCause OutOfMemory plan stations last = Unit {0}

-- Where no door and no log failed, a node ends since all workers are done, or the queue has had all its calls, or for want of memory.
abbrev pub Completes : NodeStop → List StationRecord → Type 0
Completes end stations =
    All (λ station. (station.door.faults ≡ 0) × (station.log.faults ≡ 0)) stations → (end ≡ Done) ⊎ ((end ≡ Worn) ⊎ (end ≡ OutOfMemory))
