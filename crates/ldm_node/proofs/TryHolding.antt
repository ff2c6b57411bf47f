-- One session, and one try, by what their calls promise.
use Rattle.std.proofs.Common.{◌≡◌, ◌≤◌, ◌⊎◌, [], Option, Some, None, length, inl, inr, refl, sym, subst}
use Rattle.ldm_outside.specs.declared.dial.Dialled.TheVariants.{Linked}
use Rattle.ldm_outside.specs.Count.{Rose}
use Rattle.ldm_outside.specs.Dial.{DialRecord, ConnectGives, DialTakesBack}
use Rattle.ldm_outside.specs.Io.{SinkRecord}
use Rattle.ldm_outside.specs.Link.{LinkRecord}
use Rattle.ldm_outside.specs.Session.{SessionRecord}
use Rattle.ldm_outside.proofs.CallerLemmas.{Rose-later}
use Rattle.ldm_shared.specs.declared.steps.TheConstants.{MOST_TURNS}
use Rattle.ldm_shared.specs.Passes.{PassView}
use Rattle.ldm_conf.specs.Confs.{RequestView}
use Rattle.ldm_intake.specs.declared.end.RecvEnd.{RecvEnd}
use Rattle.ldm_intake.specs.declared.end.RecvEnd.TheVariants as receiving
use Rattle.ldm_downstream.specs.Complete.{Completes}
use Rattle.ldm_downstream.specs.Receives.{Cause, ReceivesAll}
use Rattle.ldm_node.specs.declared.stop.NodeStop.{NodeStop}
use Rattle.ldm_node.specs.declared.stop.NodeStop.TheVariants.{Done, NetFault, LogFault, Worn, OutOfMemory}
use Rattle.ldm_node.specs.RequestMoments.{RequestMoment, with_dial}
use Rattle.ldm_node.specs.Tries.{Session, asking, outside, peer_of}
use Rattle.ldm_node.specs.TrySteps.{Finishes, HoldsOne, TriesOne}
use Rattle.ldm_node.proofs.Stopping.{receiving-stop}

-- the log failed, within the session or behind it
log-rose : (end : RecvEnd) (pass : PassView) (before after : SessionRecord) (log : SinkRecord) → Cause end pass before after → before.log.faults ≤ after.log.faults
    → ((end ≡ receiving.LogFault) × (log ≡ after.log)) ⊎ Rose after.log.faults log.faults → Rose before.log.faults log.faults
log-rose end pass before after log cause kept (inl session) =
    let P : RecvEnd → Type 0 = λ e. Cause e pass before after in
    let Q : SinkRecord → Type 0 = λ sink. Rose before.log.faults sink.faults in
    subst Q (sym session.1) (subst P session.0 cause)
log-rose end pass before after log cause kept (inr rose) = Rose-later before.log.faults after.log.faults log.faults kept rose

pub holds-one : (stop : Option NodeStop) (end : RecvEnd) (request : RequestView) (came left : LinkRecord) (log : SinkRecord) (old new : RequestMoment)
    → ReceivesAll end new.last (asking request old.last) [] old.pass new.pass (outside came old.station.log old.station.clock) (outside left log new.station.clock)
    → Completes end (asking request old.last) [] old.pass new.pass (outside came old.station.log old.station.clock) (outside left log new.station.clock)
    → old.station.log.faults ≤ log.faults
    → DialTakesBack left old.station.dial new.station.dial
    → Finishes stop end request.host log new.station.log
    → new.station ≡ record old.station { dial = new.station.dial; log = new.station.log; clock = new.station.clock }
    → HoldsOne stop request came old new
holds-one None end request came left log old new receives completes kept given_back finishes same = (
  end,
  record { left = left; log = log; receives = receives; completes = completes; given_back = given_back; logged = finishes.0; same = same },
  finishes.1,
)
holds-one (Some LogFault) end request came left log old new receives completes kept given_back finishes same = (
  end,
  record { left = left; log = log; receives = receives; completes = completes; given_back = given_back; logged = finishes.0; same = same },
  log-rose end receives.at_end.pass (outside came old.station.log old.station.clock) (outside left log new.station.clock) new.station.log receives.receives.cause kept finishes.1,
)
holds-one (Some Worn) end request came left log old new receives completes kept given_back finishes same = (
  end,
  record { left = left; log = log; receives = receives; completes = completes; given_back = given_back; logged = finishes.0; same = same },
  finishes.1,
  (let seen = receiving-stop end Worn receives.at_end.pass (outside came old.station.log old.station.clock) (outside left log new.station.clock) finishes.1 receives.receives.cause in
      let P : PassView → Type 0 = λ pass. length pass.seen ≡ MOST_TURNS in
      subst P receives.pass_is seen),
)
holds-one (Some Done) end request came left log old new receives completes kept given_back finishes same = absurd finishes
holds-one (Some NetFault) end request came left log old new receives completes kept given_back finishes same = absurd finishes
holds-one (Some OutOfMemory) end request came left log old new receives completes kept given_back finishes same = absurd finishes

pub tries-one : (stop : Option NodeStop) (request : RequestView) (came : LinkRecord) (lent : DialRecord) (old new : RequestMoment)
    → ConnectGives (λ (link : LinkRecord). link) (Linked came) (peer_of request) old.station.dial lent
    → HoldsOne stop request came (with_dial lent old) new → TriesOne stop request old new
tries-one None request came lent old new dialled holds =
    (Session holds.0 old.last new.last, (record { came = came; lent = lent; dialled = dialled; holds = holds.1 }, refl, refl), holds.2)
tries-one (Some LogFault) request came lent old new dialled holds =
    (Session holds.0 old.last new.last, (record { came = came; lent = lent; dialled = dialled; holds = holds.1 }, refl, refl), holds.2)
tries-one (Some Worn) request came lent old new dialled holds =
    (Session holds.0 old.last new.last, (record { came = came; lent = lent; dialled = dialled; holds = holds.1 }, refl, refl), holds.2, holds.3)
tries-one (Some Done) request came lent old new dialled holds = absurd holds
tries-one (Some NetFault) request came lent old new dialled holds = absurd holds
tries-one (Some OutOfMemory) request came lent old new dialled holds = absurd holds
