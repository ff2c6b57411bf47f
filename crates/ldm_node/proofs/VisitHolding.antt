-- One session, and one visit, by what their calls promise.
use Rattle.std.proofs.Common.{◌≡◌, ◌≤◌, ℕ, List, Option, Some, None, inl, inr, sym, subst, ap}
use Rattle.ldm_class.specs.Rules.{Rules}
use Rattle.ldm_outside.specs.Count.{Rose}
use Rattle.ldm_outside.specs.Door.{DoorRecord, AcceptGives, DoorTakesBack}
use Rattle.ldm_outside.specs.Io.{SinkRecord}
use Rattle.ldm_outside.specs.Link.{LinkRecord}
use Rattle.ldm_outside.proofs.CallerLemmas.{Rose-later}
use Rattle.ldm_shared.specs.Passes.{SharedView, PassView, IsPassOf}
use Rattle.ldm_serve.specs.declared.end.ServeEnd.{ServeEnd}
use Rattle.ldm_serve.specs.Connection.{ServingMoment as Situation, moment_of}
use Rattle.ldm_serve.specs.Serve.{ServesAll}
use Rattle.ldm_serve.specs.Client.{Client}
use Rattle.ldm_node.specs.declared.stop.NodeStop.{NodeStop}
use Rattle.ldm_node.specs.declared.stop.NodeStop.TheVariants.{Done, NetFault, LogFault, Worn, OutOfMemory}
use Rattle.ldm_node.specs.DoorMoments.{DoorMoment, with_door}
use Rattle.ldm_node.specs.Visits.{client_of, outside, peer_of, visit_of}
use Rattle.ldm_node.specs.DoorWorks.{FailsAt, LastVisit}
use Rattle.ldm_node.specs.VisitSteps.{AdmitsOne, Finishes, HoldsOne}
use Rattle.ldm_node.proofs.VisitServing.{serves-stop}

-- the pass that serves tells the arena, since it is of the queue
pub served-by : (end : ServeEnd) (rules : Rules) (host : List ℕ) (shared : SharedView) (pass : PassView) (before after : Situation) → IsPassOf shared pass
    → ServesAll end (record { rules = rules; host = host; actor = pass.actor; arena = shared.arena }) before after
    → ServesAll end (client_of rules host pass) before after
served-by end rules host shared pass before after of serves =
    let P : ℕ → Type 0 = λ arena. let client : Client = record { rules = rules; host = host; actor = pass.actor; arena = arena } in ServesAll end client before after in
    subst P (sym of.arena) serves

-- the log failed, within the session or behind it
log-rose : (end : ServeEnd) (client : Client) (before after : Situation) (log : SinkRecord) → ServesAll end client before after
    → before.outside.log.faults ≤ after.outside.log.faults → FailsAt end after.outside.log log → Rose before.outside.log.faults log.faults
log-rose end client before after log serves kept (inl within) =
    let P : SinkRecord → Type 0 = λ sink. Rose before.outside.log.faults sink.faults in
    subst P (sym within.1) (serves-stop end LogFault client before after within.0 serves)
log-rose end client before after log serves kept (inr rose) =
    Rose-later before.outside.log.faults after.outside.log.faults log.faults kept rose

pub holds-one : (stop : Option NodeStop) (end : ServeEnd) (rules : Rules) (host : List ℕ) (came left : LinkRecord) (log : SinkRecord) (old new : DoorMoment)
    → ServesAll end (client_of rules host old.pass) (moment_of old.pass (outside came old.station.log old.station)) (moment_of new.pass (outside left log new.station))
    → old.station.log.faults ≤ log.faults
    → DoorTakesBack left old.station.door new.station.door
    → Finishes stop end host log new.station.log
    → new.station ≡ record new.station { dial = old.station.dial }
    → HoldsOne stop rules host came old new
holds-one None end rules host came left log old new serves kept given_back finishes same =
    (end, record { left = left; log = log; serves = serves; given_back = given_back; logged = finishes.0; same = same }, finishes.1)
holds-one (Some Done) end rules host came left log old new serves kept given_back finishes same = (
  end,
  record { left = left; log = log; serves = serves; given_back = given_back; logged = finishes.0; same = same },
  finishes.1,
  serves-stop end Done (client_of rules host old.pass) (moment_of old.pass (outside came old.station.log old.station))
      (moment_of new.pass (outside left log new.station)) finishes.1 serves,
)
holds-one (Some LogFault) end rules host came left log old new serves kept given_back finishes same = (
  end,
  (record { left = left; log = log; serves = serves; given_back = given_back; logged = finishes.0; same = same }, finishes.1),
  log-rose end (client_of rules host old.pass) (moment_of old.pass (outside came old.station.log old.station))
      (moment_of new.pass (outside left log new.station)) new.station.log serves kept finishes.1,
)
holds-one (Some Worn) end rules host came left log old new serves kept given_back finishes same = (
  end,
  record { left = left; log = log; serves = serves; given_back = given_back; logged = finishes.0; same = same },
  finishes.1,
  serves-stop end Worn (client_of rules host old.pass) (moment_of old.pass (outside came old.station.log old.station))
      (moment_of new.pass (outside left log new.station)) finishes.1 serves,
)
holds-one (Some NetFault) end rules host came left log old new serves kept given_back finishes same = absurd finishes
holds-one (Some OutOfMemory) end rules host came left log old new serves kept given_back finishes same = absurd finishes

-- the count of peers rose when the peer came, and giving its link back keeps it
peers-rose : (peers : ℕ) (left : LinkRecord) (lent door : DoorRecord) → Rose peers lent.peers → DoorTakesBack left lent door → Rose peers door.peers
peers-rose peers left lent door rose back =
    let P : ℕ → Type 0 = λ count. Rose peers count in
    let same : door.peers ≡ lent.peers = ap (λ (d : DoorRecord). d.peers) back.1 in
    subst P (sym same) rose

pub admits-one : (stop : Option NodeStop) (rules : Rules) (host : List ℕ) (came : LinkRecord) (lent : DoorRecord) (old new : DoorMoment)
    → AcceptGives (λ (link : LinkRecord). link) (peer_of host came) old.station.door lent
    → HoldsOne stop rules host came (with_door lent old) new → AdmitsOne stop rules old new
admits-one None rules host came lent old new accepted holds = (
  visit_of host holds.0,
  record { came = came; lent = lent; accepted = accepted; holds = holds.1 },
  holds.2,
  peers-rose old.station.door.peers holds.1.left lent new.station.door accepted.1 holds.1.given_back,
)
admits-one (Some Done) rules host came lent old new accepted holds = (
  LastVisit (visit_of host holds.0),
  (record { came = came; lent = lent; accepted = accepted; holds = holds.1 }, holds.2),
  inr (peers-rose old.station.door.peers holds.1.left lent new.station.door accepted.1 holds.1.given_back, holds.3),
)
admits-one (Some LogFault) rules host came lent old new accepted holds = (
  LastVisit (visit_of host holds.0),
  (record { came = came; lent = lent; accepted = accepted; holds = holds.1.0 }, holds.1.1),
  holds.2,
)
admits-one (Some Worn) rules host came lent old new accepted holds = (
  LastVisit (visit_of host holds.0),
  (record { came = came; lent = lent; accepted = accepted; holds = holds.1 }, holds.2),
  holds.3,
)
admits-one (Some NetFault) rules host came lent old new accepted holds = absurd holds
admits-one (Some OutOfMemory) rules host came lent old new accepted holds = absurd holds
