-- The log lines that a session that was served wrote itself.
use Rattle.std.specs.Prelude.{ℕ, List, []}
use Rattle.ldm_outside.specs.Io.{SinkRecord}
use Rattle.ldm_session.specs.Gaps.{gap_log}
use Rattle.ldm_sender.specs.declared.end.SendEnd.{SendEnd}
use Rattle.ldm_sender.specs.declared.end.SendEnd.TheVariants as sending
use Rattle.ldm_sender.specs.Acts.{Logged}
use Rattle.ldm_notify.specs.declared.end.NoteEnd.{NoteEnd}
use Rattle.ldm_notify.specs.Notifies.{send_end}
use Rattle.ldm_intake.specs.declared.end.RecvEnd.{RecvEnd}
use Rattle.ldm_serve.specs.declared.responded.Responded.{Responded}
use Rattle.ldm_serve.specs.declared.responded.Responded.TheVariants as responded
use Rattle.ldm_serve.specs.declared.end.ServeEnd.{ServeEnd}
use Rattle.ldm_serve.specs.declared.end.ServeEnd.TheVariants as serving
use Rattle.ldm_serve.specs.Becoming.{IsFed, IsNotified, IsReceived}
use Rattle.ldm_serve.specs.Client.{Client}
use Rattle.ldm_serve.specs.Connection.{ServingMoment}
use Rattle.ldm_serve.specs.Responds.{goes_on}
use Rattle.ldm_serve.specs.Serve.{ServesAll}
use Rattle.ldm_serve.specs.Steps.{response_of}

-- the lines that a log took of these at that end of a sending: all of them, or the front that it took
abbrev pub logged_of : (why : SendEnd) (old : SinkRecord) (lines : List ℕ) (new : SinkRecord) → Logged why old lines new → List ℕ
logged_of sending.LogFault old lines new logged = logged.0
logged_of sending.Worn old lines new logged = logged.0
logged_of _ old lines new logged = lines

-- A connection becomes something else: who is served, the bytes behind the record that says so, and what is found and left.
pub record Becoming : Type 0 where
  pub client : Client
  pub ahead : List ℕ
  pub old : ServingMoment
  pub new : ServingMoment

abbrev pub becoming_of : Client → (ahead : List ℕ) → (old new : ServingMoment) → Becoming
becoming_of client ahead old new = record { client = client; ahead = ahead; old = old; new = new }

-- those of a feeding: of the losses that its calls were told
abbrev pub lines_fed : (why : SendEnd) (next : Responded) (becoming : Becoming) → IsFed why next becoming.client becoming.ahead becoming.old becoming.new → List ℕ
lines_fed why (responded.Feeds ask) becoming fed =
    logged_of why becoming.old.outside.log (gap_log becoming.client.host fed.0.called) becoming.new.outside.log fed.0.logged
lines_fed why _ becoming fed = []

-- those of a notifying: of the losses that its calls were told
abbrev pub lines_notified : (why : NoteEnd) (next : Responded) (becoming : Becoming) → IsNotified why next becoming.client becoming.old becoming.new → List ℕ
lines_notified why (responded.Notifies ask) becoming notified =
    logged_of (send_end why) becoming.old.outside.log (gap_log becoming.client.host notified.0.called) becoming.new.outside.log notified.0.logged
lines_notified why _ becoming notified = []

-- those of a receiving, which it names
abbrev pub lines_received : (why : RecvEnd) (next : Responded) (becoming : Becoming) → IsReceived why next becoming.client becoming.ahead becoming.old becoming.new → List ℕ
lines_received why (responded.Receives class) becoming received = received.0.1.receives.lines
lines_received why _ becoming received = []

-- The lines that a session wrote itself: those of the feeding, the notifying or the receiving that its last record made of it; else none.
abbrev pub lines_served : (end : ServeEnd) (client : Client) (old new : ServingMoment) → ServesAll end client old new → List ℕ
lines_served (serving.Feed why) client old new serves =
    lines_fed why (goes_on (response_of client serves.ends.last)) (becoming_of client serves.ahead serves.between new) serves.ends.becomes
lines_served (serving.Notify why) client old new serves =
    lines_notified why (goes_on (response_of client serves.ends.last)) (becoming_of client serves.ahead serves.between new) serves.ends.becomes
lines_served (serving.Receive why) client old new serves =
    lines_received why (goes_on (response_of client serves.ends.last)) (becoming_of client serves.ahead serves.between new) serves.ends.becomes
lines_served (serving.Denied rule) client old new serves = []
lines_served (serving.BadFrame at) client old new serves = []
lines_served serving.Ended client old new serves = []
lines_served (serving.Truncated at) client old new serves = []
lines_served serving.StreamLimit client old new serves = []
lines_served serving.LinkFault client old new serves = []
lines_served serving.Worn client old new serves = []
lines_served serving.OutOfMemory client old new serves = []
