-- What one try comes to, and whether it stops the worker. No caller needs these.
use Rattle.std.specs.Prelude.{◌≡◌, ℕ, ◌⊎◌, Bool, true, false, List, Option, Some, None}
use Rattle.ldm_outside.specs.Count.{Rose}
use Rattle.ldm_outside.specs.Io.{SinkRecord}
use Rattle.ldm_outside.specs.Link.{LinkRecord}
use Rattle.ldm_conf.specs.Confs.{RequestView}
use Rattle.ldm_intake.specs.declared.end.RecvEnd.{RecvEnd}
use Rattle.ldm_intake.specs.declared.end.RecvEnd.TheVariants as receiving
use Rattle.ldm_node.specs.declared.stop.NodeStop.{NodeStop}
use Rattle.ldm_node.specs.declared.stop.NodeStop.TheVariants.{Done, NetFault, LogFault, Worn, OutOfMemory}
use Rattle.ldm_node.specs.SessionEnds.{end_of_receiving, stop_of_receiving}
use Rattle.ldm_node.specs.Lines.{Logs, session_line}
use Rattle.ldm_node.specs.RequestMoments.{RequestMoment}
use Rattle.ldm_node.specs.Tries.{Try, Holds, TriesOnce, stop_behind}
use Rattle.ldm_node.specs.RequestWorks.{StopCause}

abbrev pub is_log_fault : RecvEnd → Bool
is_log_fault receiving.Ended = false
is_log_fault (receiving.Truncated at) = false
is_log_fault (receiving.BadFrame at) = false
is_log_fault (receiving.Refused answer) = false
is_log_fault receiving.LinkFault = false
is_log_fault receiving.LogFault = true
is_log_fault receiving.StreamLimit = false
is_log_fault receiving.Worn = false
is_log_fault receiving.OutOfMemory = false

-- the line of a session was written, and the worker stops by its end or goes on; or the log failed, before or now
abbrev pub Finishes : Option NodeStop → RecvEnd → List ℕ → SinkRecord → SinkRecord → Type 0
Finishes None end host old new = Logs true (session_line host (end_of_receiving end)) old new × (stop_of_receiving end ≡ None)
Finishes (Some LogFault) end host old new =
    Logs false (session_line host (end_of_receiving end)) old new
    × (((end ≡ receiving.LogFault) × (new ≡ old)) ⊎ Rose old.faults new.faults)
Finishes (Some Worn) end host old new = Logs true (session_line host (end_of_receiving end)) old new × (stop_of_receiving end ≡ Some Worn)
Finishes (Some Done) end host old new = ⊥
Finishes (Some NetFault) end host old new = ⊥
Finishes (Some OutOfMemory) end host old new = ⊥

-- one session over a link that came, and whether the worker stops
abbrev pub HoldsOne : Option NodeStop → RequestView → LinkRecord → RequestMoment → RequestMoment → Type 0
HoldsOne None request came old new = (end : RecvEnd) × Holds true end request came old new × (stop_of_receiving end ≡ None)
HoldsOne (Some LogFault) request came old new =
    (end : RecvEnd) × Holds false end request came old new × Rose old.station.log.faults new.station.log.faults
HoldsOne (Some Worn) request came old new =
    (end : RecvEnd) × Holds true end request came old new × (stop_of_receiving end ≡ Some Worn)
    × StopCause Worn new.pass old.station new.station
HoldsOne (Some Done) request came old new = ⊥
HoldsOne (Some NetFault) request came old new = ⊥
HoldsOne (Some OutOfMemory) request came old new = ⊥

-- one try, and whether the worker stops
abbrev pub TriesOne : Option NodeStop → RequestView → RequestMoment → RequestMoment → Type 0
TriesOne None request old new = (try : Try) × TriesOnce true request try old new × (stop_behind try ≡ None)
TriesOne (Some LogFault) request old new =
    (try : Try) × TriesOnce false request try old new × Rose old.station.log.faults new.station.log.faults
TriesOne (Some Worn) request old new =
    (try : Try) × TriesOnce true request try old new × (stop_behind try ≡ Some Worn)
    × StopCause Worn new.pass old.station new.station
TriesOne (Some Done) request old new = ⊥
TriesOne (Some NetFault) request old new = ⊥
TriesOne (Some OutOfMemory) request old new = ⊥
