-- What stands besides where a session that was served stops the worker.
use Rattle.std.proofs.Common.{◌≡◌, ◌≤◌, ℕ, List, Some, refl, subst}
use Rattle.ldm_outside.specs.Count.{Rose}
use Rattle.ldm_outside.specs.Gate.{GateRecord}
use Rattle.ldm_outside.specs.Io.{SinkRecord}
use Rattle.ldm_outside.specs.Session.{SessionRecord}
use Rattle.ldm_outside.proofs.CallerLemmas.{Rose-later}
use Rattle.ldm_shared.specs.Passes.{PassView}
use Rattle.ldm_intake.specs.declared.end.RecvEnd.{RecvEnd}
use Rattle.ldm_downstream.specs.Receives.{Cause}
use Rattle.ldm_sender.specs.declared.end.SendEnd.{SendEnd}
use Rattle.ldm_sender.specs.declared.end.SendEnd.TheVariants as sending
use Rattle.ldm_sender.specs.Asked.{Asked, asked_of}
use Rattle.ldm_sender.specs.Ending.{IsEndOf}
use Rattle.ldm_sender.specs.Opening.{Answered}
use Rattle.ldm_upstream.specs.Feeds.{Feeds}
use Rattle.ldm_notify.specs.declared.end.NoteEnd.{NoteEnd}
use Rattle.ldm_notify.specs.Notifying as notifying
use Rattle.ldm_notify.specs.Notifies.{NotifiesTo, send_end}
use Rattle.ldm_serve.specs.declared.responded.Responded.{Responded}
use Rattle.ldm_serve.specs.declared.responded.Responded.TheVariants as responded
use Rattle.ldm_serve.specs.Responds.{goes_on}
use Rattle.ldm_serve.specs.declared.end.ServeEnd.{ServeEnd}
use Rattle.ldm_serve.specs.declared.end.ServeEnd.TheVariants as serving
use Rattle.ldm_serve.specs.Becoming.{IsFed, IsNotified, IsReceived, ungated}
use Rattle.ldm_serve.specs.Connection.{ServingMoment}
use Rattle.ldm_serve.specs.Serve.{ServesAll}
use Rattle.ldm_serve.specs.Client.{Client}
use Rattle.ldm_serve.specs.Steps.{response_of}
use Rattle.ldm_node.specs.declared.stop.NodeStop.{NodeStop}
use Rattle.ldm_node.specs.declared.stop.NodeStop.TheVariants.{Done, NetFault, LogFault, Worn, OutOfMemory}
use Rattle.ldm_node.specs.ServingEnds.{stop_by, stop_of_sending}
use Rattle.ldm_node.specs.SessionEnds.{stop_of_receiving}
use Rattle.ldm_node.proofs.Stopping.{StopsBy, by_stop, receiving-not_done, receiving-stop}

-- ---- what a connection became

-- A feeding of what was asked by the host.
pub record WasFed (why : SendEnd) (client : Client) (ahead : List ℕ) (old new : ServingMoment) : Type 0 where
  pub asked : Asked
  pub feeds : Feeds why asked ahead old.pass new.pass old.outside new.outside

pub was-fed : (why : SendEnd) (next : Responded) (client : Client) (ahead : List ℕ) (old new : ServingMoment) → IsFed why next client ahead old new
    → WasFed why client ahead old new
was-fed why responded.GoesOn client ahead old new is = absurd is
was-fed why (responded.Feeds ask) client ahead old new is =
    record { asked = asked_of client.host client.rules ask; feeds = is.0 }
was-fed why (responded.Receives class) client ahead old new is = absurd is
was-fed why (responded.Notifies ask) client ahead old new is = absurd is
was-fed why responded.Refused client ahead old new is = absurd is
was-fed why (responded.Denied rule) client ahead old new is = absurd is

-- A session of notices of what was asked by the host.
pub record WasNotified (why : NoteEnd) (client : Client) (old new : ServingMoment) : Type 0 where
  pub asked : Asked
  pub notifies : NotifiesTo (send_end why) asked old.pass new.pass old.outside new.outside

pub was-notified : (why : NoteEnd) (next : Responded) (client : Client) (old new : ServingMoment) → IsNotified why next client old new → WasNotified why client old new
was-notified why responded.GoesOn client old new is = absurd is
was-notified why (responded.Feeds ask) client old new is = absurd is
was-notified why (responded.Receives class) client old new is = absurd is
was-notified why (responded.Notifies ask) client old new is =
    record { asked = notifying.asked_of client.host client.rules ask; notifies = is.0 }
was-notified why responded.Refused client old new is = absurd is
was-notified why (responded.Denied rule) client old new is = absurd is

-- Why a receiving that was pushed ended.
pub record WasReceived (why : RecvEnd) (client : Client) (old new : ServingMoment) : Type 0 where
  pub before : SessionRecord
  pub after : SessionRecord
  pub log_before : before.log ≡ old.outside.log
  pub log_after : after.log ≡ new.outside.log
  pub cause : Cause why new.pass before after

pub was-received : (why : RecvEnd) (next : Responded) (client : Client) (ahead : List ℕ) (old new : ServingMoment) → IsReceived why next client ahead old new
    → WasReceived why client old new
was-received why responded.GoesOn client ahead old new is = absurd is
was-received why (responded.Feeds ask) client ahead old new is = absurd is
was-received why (responded.Receives class) client ahead old new is =
    let receives = is.0.1 in
    let P : PassView → Type 0 = λ pass. Cause why pass (ungated old.outside) (ungated new.outside) in
    record {
      before = ungated old.outside;
      after = ungated new.outside;
      log_before = refl;
      log_after = refl;
      cause = subst P receives.pass_is receives.receives.cause;
    }
was-received why (responded.Notifies ask) client ahead old new is = absurd is
was-received why responded.Refused client ahead old new is = absurd is
was-received why (responded.Denied rule) client ahead old new is = absurd is

-- ---- why it stops the worker

sending-stop : (why : SendEnd) (stop : NodeStop) (answered : Answered) (pass : PassView) (before after : SessionRecord) → stop_of_sending why ≡ Some stop
    → IsEndOf why answered pass before after → StopsBy stop pass before after
sending-stop sending.Stopped stop answered pass before after is cause = by_stop Done stop pass before after is cause
sending-stop sending.LogFault stop answered pass before after is cause = by_stop LogFault stop pass before after is cause
sending-stop sending.Worn stop answered pass before after is cause = by_stop Worn stop pass before after is cause
sending-stop _ stop answered pass before after is cause = cc

-- The session received, with this log. Its gate was not asked.
received-stop : (why : RecvEnd) (stop : NodeStop) (pass : PassView) (before after old new : SessionRecord) → before.log ≡ old.log → after.log ≡ new.log
    → stop_of_receiving why ≡ Some stop → Cause why pass before after → StopsBy stop pass old new
received-stop why LogFault pass before after old new log_before log_after is cause =
    let P : SinkRecord → Type 0 = λ log. Rose log.faults after.log.faults in
    let Q : SinkRecord → Type 0 = λ log. Rose old.log.faults log.faults in
    subst Q log_after (subst P log_before (receiving-stop why LogFault pass before after is cause))
received-stop why Worn pass before after old new log_before log_after is cause = receiving-stop why Worn pass before after is cause
received-stop why Done pass before after old new log_before log_after is cause = absurd (receiving-not_done why is)
received-stop why NetFault pass before after old new log_before log_after is cause = receiving-stop why NetFault pass before after is cause
received-stop why OutOfMemory pass before after old new log_before log_after is cause = receiving-stop why OutOfMemory pass before after is cause

-- it stands from the beginning of the connection on
from-begin : (stop : NodeStop) (pass : PassView) (old between new : SessionRecord) → between.gate ≡ old.gate → old.log.faults ≤ between.log.faults
    → StopsBy stop pass between new → StopsBy stop pass old new
from-begin Done pass old between new gate log stops =
    let P : GateRecord → Type 0 = λ gate. Rose gate.stops new.gate.stops in
    subst P gate stops
from-begin LogFault pass old between new gate log stops = Rose-later old.log.faults between.log.faults new.log.faults log stops
from-begin Worn pass old between new gate log stops = stops
from-begin NetFault pass old between new gate log stops = stops
from-begin OutOfMemory pass old between new gate log stops = stops

pub serves-stop : (end : ServeEnd) (stop : NodeStop) (client : Client) (old new : ServingMoment) → stop_by end ≡ Some stop → ServesAll end client old new
    → StopsBy stop new.pass old.outside new.outside
serves-stop (serving.Feed why) stop client old new is serves =
    let fed = was-fed why (goes_on (response_of client serves.ends.last)) client serves.ahead serves.between new serves.ends.becomes in
    from-begin stop new.pass old.outside serves.between.outside new.outside serves.reaches.gate serves.counts.log
    (sending-stop why stop fed.feeds.feeding.answered new.pass serves.between.outside new.outside is fed.feeds.cause)
serves-stop (serving.Notify why) stop client old new is serves =
    let notified = was-notified why (goes_on (response_of client serves.ends.last)) client serves.between new serves.ends.becomes in
    from-begin stop new.pass old.outside serves.between.outside new.outside serves.reaches.gate serves.counts.log
    (sending-stop (send_end why) stop notified.notifies.notifying.answered new.pass serves.between.outside new.outside is notified.notifies.cause)
serves-stop (serving.Receive why) stop client old new is serves =
    let received = was-received why (goes_on (response_of client serves.ends.last)) client serves.ahead serves.between new serves.ends.becomes in
    from-begin stop new.pass old.outside serves.between.outside new.outside serves.reaches.gate serves.counts.log
    (received-stop why stop new.pass received.before received.after serves.between.outside new.outside received.log_before received.log_after is received.cause)
serves-stop serving.Worn stop client old new is serves = by_stop Worn stop new.pass old.outside new.outside is serves.ends.runs_out.worn
serves-stop _ stop client old new is serves = cc
