-- What stands besides where a session stops its worker.
use Rattle.std.proofs.Common.{◌≡◌, Some, length, subst}
use Rattle.ldm_outside.specs.Count.{Rose}
use Rattle.ldm_outside.specs.Session.{SessionRecord}
use Rattle.ldm_shared.specs.declared.steps.TheConstants.{MOST_TURNS}
use Rattle.ldm_shared.specs.Passes.{PassView}
use Rattle.ldm_intake.specs.declared.end.RecvEnd.{RecvEnd}
use Rattle.ldm_intake.specs.declared.end.RecvEnd.TheVariants as receiving
use Rattle.ldm_downstream.specs.Receives.{Cause}
use Rattle.ldm_node.specs.declared.stop.NodeStop.{NodeStop}
use Rattle.ldm_node.specs.declared.stop.NodeStop.TheVariants.{Done, NetFault, LogFault, Worn, OutOfMemory}
use Rattle.ldm_node.specs.SessionEnds.{stop_of_receiving}

-- The gate stopped the session, its log failed, or the queue has had all its calls. By no other stop does a session stop a worker.
abbrev pub StopsBy : NodeStop → PassView → SessionRecord → SessionRecord → Type 0
StopsBy Done pass before after = Rose before.gate.stops after.gate.stops
StopsBy LogFault pass before after = Rose before.log.faults after.log.faults
StopsBy Worn pass before after = length pass.seen ≡ MOST_TURNS
StopsBy NetFault pass before after = ⊥
StopsBy OutOfMemory pass before after = ⊥

-- that stop is the one of an end
pub by_stop : (is stop : NodeStop) (pass : PassView) (before after : SessionRecord) → Some is ≡ Some stop → StopsBy is pass before after → StopsBy stop pass before after
by_stop is stop pass before after some stops =
    let same : is ≡ stop = cc in
    subst (λ (s : NodeStop). StopsBy s pass before after) same stops

pub receiving-stop : (why : RecvEnd) (stop : NodeStop) (pass : PassView) (before after : SessionRecord) → stop_of_receiving why ≡ Some stop
    → Cause why pass before after → StopsBy stop pass before after
receiving-stop receiving.LogFault stop pass before after is cause = by_stop LogFault stop pass before after is cause
receiving-stop receiving.Worn stop pass before after is cause = by_stop Worn stop pass before after is cause
receiving-stop _ stop pass before after is cause = cc

pub receiving-not_done : (why : RecvEnd) → stop_of_receiving why ≡ Some Done → ⊥
receiving-not_done receiving.LogFault is = cc
receiving-not_done receiving.Worn is = cc
receiving-not_done _ is = cc
