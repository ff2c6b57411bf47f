-- What is told of the visits of a worker: by its door, by its log, and by the visits themselves.
use Rattle.std.specs.Prelude.{ℕ, true, List, [], ◌∷◌, ◌++◌, map, Option, Some, None}
use Rattle.ldm_class.specs.Rules.{Rules}
use Rattle.ldm_serve.specs.Connection.{moment_of}
use Rattle.ldm_node.specs.declared.stop.NodeStop.{NodeStop}
use Rattle.ldm_node.specs.declared.stop.NodeStop.TheVariants.{Done}
use Rattle.ldm_node.specs.DoorMoments.{DoorMoment}
use Rattle.ldm_node.specs.OwnLines.{lines_served}
use Rattle.ldm_node.specs.Visits.{Admits, Visit, client_of, line_of, outside}
use Rattle.ldm_node.specs.DoorWorks.{AreVisits, ClosedDoor, Ending, EndsBy, FailedDoor, LastVisit, Works}

-- the visit that ended a worker, if one did
abbrev pub last_visit : Option Ending → List Visit
last_visit (Some (LastVisit visit)) = visit ∷ []
last_visit _ = []

-- all visits of a worker, in order
abbrev pub all_visits : {stop : NodeStop} {rules : Rules} {sessions : ℕ} {old new : DoorMoment}
    → Works stop rules sessions old new → List Visit
all_visits works = works.visits ++ last_visit works.ending

-- the hosts that came
abbrev pub hosts_of : List Visit → List (List ℕ)
hosts_of visits = map (λ (visit : Visit). visit.host) visits

-- the lines that the session of a visit wrote itself
abbrev pub lines_of : (rules : Rules) (visit : Visit) (old new : DoorMoment) → Admits true rules visit old new → List ℕ
lines_of rules visit old new admits =
    lines_served visit.end (client_of rules visit.host old.pass) (moment_of old.pass (outside admits.came old.station.log old.station))
    (moment_of new.pass (outside admits.holds.left admits.holds.log new.station)) admits.holds.serves

-- the same for each visit, in order
abbrev pub lines_of_each : (rules : Rules) (visits : List Visit) (old new : DoorMoment) → AreVisits rules visits old new → List (List ℕ)
lines_of_each rules [] old new each = []
lines_of_each rules (visit ∷ visits) old new each =
    lines_of rules visit old each.0 each.1 ∷ lines_of_each rules visits each.0 new each.3

-- the same for the visit that ended a worker that is done, if one did
abbrev pub lines_of_last : (rules : Rules) (ending : Option Ending) (old new : DoorMoment) → EndsBy Done rules ending old new → List (List ℕ)
lines_of_last rules None old new ends = []
lines_of_last rules (Some ClosedDoor) old new ends = []
lines_of_last rules (Some FailedDoor) old new ends = []
lines_of_last rules (Some (LastVisit visit)) old new ends = lines_of rules visit old new ends.0 ∷ []

-- for all visits of a worker that is done
abbrev pub own_lines : {rules : Rules} {sessions : ℕ} {old new : DoorMoment} → Works Done rules sessions old new → List (List ℕ)
own_lines {rules} {sessions} {old} {new} works =
    lines_of_each rules works.visits old works.at_end works.each ++ lines_of_last rules works.ending works.at_end new works.ends

-- one line of each visit, behind the lines of its own
abbrev pub log_of : List Visit → (own : List (List ℕ)) → List ℕ
log_of (visit ∷ visits) (lines ∷ own) = lines ++ line_of visit ++ log_of visits own
log_of _ _ = []
