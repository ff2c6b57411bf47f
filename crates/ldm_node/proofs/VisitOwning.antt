-- The log lines that a session writes itself.
use Rattle.std.proofs.Common.{◌≡◌, ◌⊎◌, ℕ, List, ◌++◌, inl, inr, ap, ◌∙◌}
use Rattle.std.specs.Option.{option_map}
use Rattle.ldm_outside.specs.Io.{SinkRecord, Takes}
use Rattle.ldm_outside.proofs.CallerLemmas.{Takes-nothing}
use Rattle.ldm_session.specs.Gaps.{gap_log}
use Rattle.ldm_sender.specs.declared.end.SendEnd.{SendEnd}
use Rattle.ldm_sender.specs.declared.end.SendEnd.TheVariants as sending
use Rattle.ldm_sender.specs.Acts.{Logged}
use Rattle.ldm_notify.specs.declared.end.NoteEnd.{NoteEnd}
use Rattle.ldm_notify.specs.Notifies.{send_end}
use Rattle.ldm_intake.specs.declared.end.RecvEnd.{RecvEnd}
use Rattle.ldm_serve.specs.declared.responded.Responded.{Responded}
use Rattle.ldm_serve.specs.declared.responded.Responded.TheVariants as responded
use Rattle.ldm_serve.specs.Responds.{goes_on}
use Rattle.ldm_serve.specs.declared.end.ServeEnd.{ServeEnd}
use Rattle.ldm_serve.specs.declared.end.ServeEnd.TheVariants as serving
use Rattle.ldm_serve.specs.Becoming.{IsDenied, IsFed, IsNotified, IsReceived, IsRefused}
use Rattle.ldm_serve.specs.Connection.{ServingMoment}
use Rattle.ldm_serve.specs.Serve.{EndsByLength, EndsByRecord, ServesAll}
use Rattle.ldm_serve.specs.Client.{Client}
use Rattle.ldm_serve.specs.Steps.{response_of}
use Rattle.ldm_node.specs.OwnLines.{Becoming, becoming_of, lines_fed, lines_notified, lines_received, lines_served, logged_of}

-- the log was not written before
takes-then : (old mid new : SinkRecord) (lines : List ℕ) → mid.written ≡ old.written → Takes mid lines new → Takes old lines new
takes-then old mid new lines same taken = taken ∙ ap (option_map (λ (before : List ℕ). before ++ lines)) same

-- ---- what a feeding, a notifying or a receiving wrote

logged-taken : (why : SendEnd) (old : SinkRecord) (lines : List ℕ) (new : SinkRecord) (logged : Logged why old lines new)
    → Takes old (logged_of why old lines new logged) new
logged-taken sending.Stopped old lines new logged = logged
logged-taken sending.Reclassed old lines new logged = logged
logged-taken (sending.Denied rule) old lines new logged = logged
logged-taken (sending.PeerEnd at) old lines new logged = logged
logged-taken sending.LinkFault old lines new logged = logged
logged-taken sending.LogFault old lines new logged = logged.3
logged-taken (sending.BadReply at) old lines new logged = logged
logged-taken sending.AllBusy old lines new logged = logged
logged-taken sending.Worn old lines new logged = logged.3
logged-taken sending.OutOfMemory old lines new logged = logged

fed-taken : (why : SendEnd) (next : Responded) (becoming : Becoming)
    (fed : IsFed why next becoming.client becoming.ahead becoming.old becoming.new)
    → Takes becoming.old.outside.log (lines_fed why next becoming fed) becoming.new.outside.log
fed-taken why responded.GoesOn becoming fed = absurd fed
fed-taken why (responded.Feeds ask) becoming fed =
    logged-taken why becoming.old.outside.log (gap_log becoming.client.host fed.0.called) becoming.new.outside.log fed.0.logged
fed-taken why (responded.Receives class) becoming fed = absurd fed
fed-taken why (responded.Notifies ask) becoming fed = absurd fed
fed-taken why responded.Refused becoming fed = absurd fed
fed-taken why (responded.Denied rule) becoming fed = absurd fed

notified-taken : (why : NoteEnd) (next : Responded) (becoming : Becoming)
    (notified : IsNotified why next becoming.client becoming.old becoming.new)
    → Takes becoming.old.outside.log (lines_notified why next becoming notified) becoming.new.outside.log
notified-taken why responded.GoesOn becoming notified = absurd notified
notified-taken why (responded.Feeds ask) becoming notified = absurd notified
notified-taken why (responded.Receives class) becoming notified = absurd notified
notified-taken why (responded.Notifies ask) becoming notified =
    logged-taken (send_end why) becoming.old.outside.log (gap_log becoming.client.host notified.0.called) becoming.new.outside.log notified.0.logged
notified-taken why responded.Refused becoming notified = absurd notified
notified-taken why (responded.Denied rule) becoming notified = absurd notified

received-taken : (why : RecvEnd) (next : Responded) (becoming : Becoming)
    (received : IsReceived why next becoming.client becoming.ahead becoming.old becoming.new)
    → Takes becoming.old.outside.log (lines_received why next becoming received) becoming.new.outside.log
received-taken why responded.GoesOn becoming received = absurd received
received-taken why (responded.Feeds ask) becoming received = absurd received
received-taken why (responded.Receives class) becoming received = received.0.1.receives.passed.logged
received-taken why (responded.Notifies ask) becoming received = absurd received
received-taken why responded.Refused becoming received = absurd received
received-taken why (responded.Denied rule) becoming received = absurd received

-- ---- ends that write nothing

refused-same : (place : ℕ) (next : Responded) (at : ℕ) (old new : ServingMoment) → IsRefused place next at old new → new ≡ old
refused-same place responded.GoesOn at old new is = absurd is
refused-same place (responded.Feeds ask) at old new is = absurd is
refused-same place (responded.Receives class) at old new is = absurd is
refused-same place (responded.Notifies ask) at old new is = absurd is
refused-same place responded.Refused at old new is = is.1
refused-same place (responded.Denied rule) at old new is = absurd is

denied-same : (rule : ℕ) (next : Responded) (old new : ServingMoment) → IsDenied rule next old new → new ≡ old
denied-same rule responded.GoesOn old new is = absurd is
denied-same rule (responded.Feeds ask) old new is = absurd is
denied-same rule (responded.Receives class) old new is = absurd is
denied-same rule (responded.Notifies ask) old new is = absurd is
denied-same rule responded.Refused old new is = absurd is
denied-same rule (responded.Denied first) old new is = is.1

written-of : (old new : ServingMoment) → new ≡ old → new.outside.log.written ≡ old.outside.log.written
written-of old new same = ap (λ (m : ServingMoment). m.outside.log.written) same

-- a session wrote these lines, and nothing else
pub served-taken : (end : ServeEnd) (client : Client) (old new : ServingMoment) (serves : ServesAll end client old new)
    → Takes old.outside.log (lines_served end client old new serves) new.outside.log
served-taken (serving.Feed why) client old new serves =
    let next = goes_on (response_of client serves.ends.last) in
    let becoming = becoming_of client serves.ahead serves.between new in
    takes-then old.outside.log serves.between.outside.log new.outside.log (lines_fed why next becoming serves.ends.becomes) serves.reaches.log
    (fed-taken why next becoming serves.ends.becomes)
served-taken (serving.Notify why) client old new serves =
    let next = goes_on (response_of client serves.ends.last) in
    let becoming = becoming_of client serves.ahead serves.between new in
    takes-then old.outside.log serves.between.outside.log new.outside.log (lines_notified why next becoming serves.ends.becomes) serves.reaches.log
    (notified-taken why next becoming serves.ends.becomes)
served-taken (serving.Receive why) client old new serves =
    let next = goes_on (response_of client serves.ends.last) in
    let becoming = becoming_of client serves.ahead serves.between new in
    takes-then old.outside.log serves.between.outside.log new.outside.log (lines_received why next becoming serves.ends.becomes) serves.reaches.log
    (received-taken why next becoming serves.ends.becomes)
served-taken (serving.BadFrame at) client old new serves =
    Takes-nothing old.outside.log new.outside.log (written-of serves.between new same ∙ serves.reaches.log)
  where
    same-by : EndsByRecord (serving.BadFrame at) client serves.answers serves.taken serves.ahead serves.between new
        ⊎ EndsByLength at serves.answers serves.taken serves.ahead serves.between new → new ≡ serves.between
    same-by (inl ends) = refused-same at (goes_on (response_of client ends.last)) ends.last.placed.at serves.between new ends.becomes
    same-by (inr ends) = ends.same

    same : new ≡ serves.between
    same = same-by serves.ends
served-taken (serving.Denied rule) client old new serves =
    let same = denied-same rule (goes_on (response_of client serves.ends.last)) serves.between new serves.ends.becomes in
    Takes-nothing old.outside.log new.outside.log (written-of serves.between new same ∙ serves.reaches.log)
served-taken serving.Ended client old new serves =
    Takes-nothing old.outside.log new.outside.log (written-of serves.between new serves.ends.0.same ∙ serves.reaches.log)
served-taken (serving.Truncated at) client old new serves =
    Takes-nothing old.outside.log new.outside.log (written-of serves.between new serves.ends.0.same ∙ serves.reaches.log)
served-taken serving.StreamLimit client old new serves =
    Takes-nothing old.outside.log new.outside.log (written-of serves.between new serves.ends.0.same ∙ serves.reaches.log)
served-taken serving.LinkFault client old new serves =
    Takes-nothing old.outside.log new.outside.log (written-of serves.between new serves.ends.1 ∙ serves.reaches.log)
served-taken serving.OutOfMemory client old new serves =
    Takes-nothing old.outside.log new.outside.log (written-of serves.between new serves.ends.1 ∙ serves.reaches.log)
served-taken serving.Worn client old new serves =
    Takes-nothing old.outside.log new.outside.log (ap (λ (m : ServingMoment). m.outside.log.written) serves.ends.same ∙ serves.reaches.log)
