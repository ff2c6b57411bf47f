-- What one visit comes to, and whether it stops the worker. No caller needs these.
use Rattle.std.specs.Prelude.{◌≡◌, ℕ, List, length, true, false, Option, Some, None}
use Rattle.ldm_class.specs.Rules.{Rules}
use Rattle.ldm_outside.specs.Count.{Rose}
use Rattle.ldm_outside.specs.Io.{SinkRecord}
use Rattle.ldm_outside.specs.Link.{LinkRecord}
use Rattle.ldm_serve.specs.declared.end.ServeEnd.{ServeEnd}
use Rattle.ldm_node.specs.declared.stop.NodeStop.{NodeStop}
use Rattle.ldm_node.specs.declared.stop.NodeStop.TheVariants.{Done, NetFault, LogFault, Worn, OutOfMemory}
use Rattle.ldm_node.specs.Lines.{Logs, session_line}
use Rattle.ldm_node.specs.ServingEnds.{end_of_serving, stop_by}
use Rattle.ldm_node.specs.DoorMoments.{DoorMoment}
use Rattle.ldm_node.specs.Visits.{Visit, Admits, Holds, visit_of}
use Rattle.ldm_node.specs.DoorWorks.{EndCause, Ending, EndsBy, FailsAt}
use Rattle.ldm_shared.specs.declared.steps.TheConstants.{MOST_TURNS}

-- the line of a session was written, and the worker stops by its end or goes on; or the log failed, before or now
abbrev pub Finishes : Option NodeStop → ServeEnd → List ℕ → SinkRecord → SinkRecord → Type 0
Finishes None end host old new = Logs true (session_line host (end_of_serving end)) old new × (stop_by end ≡ None)
Finishes (Some Done) end host old new = Logs true (session_line host (end_of_serving end)) old new × (stop_by end ≡ Some Done)
Finishes (Some Worn) end host old new = Logs true (session_line host (end_of_serving end)) old new × (stop_by end ≡ Some Worn)
Finishes (Some LogFault) end host old new =
    Logs false (session_line host (end_of_serving end)) old new × FailsAt end old new
Finishes (Some NetFault) end host old new = ⊥
Finishes (Some OutOfMemory) end host old new = ⊥

-- one session over a link that came, and whether the worker stops
abbrev pub HoldsOne : Option NodeStop → Rules → List ℕ → LinkRecord → DoorMoment → DoorMoment → Type 0
HoldsOne None rules host came old new =
    (end : ServeEnd) × Holds true rules (visit_of host end) came old new × (stop_by end ≡ None)
HoldsOne (Some Done) rules host came old new =
    (end : ServeEnd) × Holds true rules (visit_of host end) came old new × (stop_by end ≡ Some Done)
    × Rose old.station.gate.stops new.station.gate.stops
HoldsOne (Some LogFault) rules host came old new =
    (end : ServeEnd) × ((holds : Holds false rules (visit_of host end) came old new) × FailsAt end holds.log new.station.log)
    × Rose old.station.log.faults new.station.log.faults
HoldsOne (Some Worn) rules host came old new =
    (end : ServeEnd) × Holds true rules (visit_of host end) came old new × (stop_by end ≡ Some Worn)
    × (length new.pass.seen ≡ MOST_TURNS)
HoldsOne (Some NetFault) rules host came old new = ⊥
HoldsOne (Some OutOfMemory) rules host came old new = ⊥

-- one call of the door, and whether the worker stops
abbrev pub AdmitsOne : Option NodeStop → Rules → DoorMoment → DoorMoment → Type 0
AdmitsOne None rules old new =
    (visit : Visit) × Admits true rules visit old new × (stop_by visit.end ≡ None)
    × Rose old.station.door.peers new.station.door.peers
AdmitsOne (Some stop) rules old new =
    (ending : Ending) × EndsBy stop rules (Some ending) old new × EndCause stop new.pass old.station new.station
