-- A whole session of notices: how the request was answered, the turns, and how it ended. It is plain data. What was
-- called, sent and asked are functions of it.
use Rattle.std.specs.Prelude.{ℕ, false, List}
use Rattle.ldm_model.specs.declared.event.Entry.{Entry}
use Rattle.ldm_class.specs.Rules.{Rules, rules_for}
use Rattle.ldm_relay.specs.declared.message.Notifyme.{Notifyme}
use Rattle.ldm_relay.specs.Sent.{Sent}
use Rattle.ldm_sender.specs.declared.standing.Standing.{Standing}
use Rattle.ldm_sender.specs.Asked.{Asked}
use Rattle.ldm_sender.specs.Sending as sender
use Rattle.ldm_sender.specs.Sending.{Sending, IsSending}
pub use Rattle.ldm_sender.specs.Sending.{GoesOn, Stopped, Unanswered, MayTurn, begun, goes_of}
use Rattle.ldm_notify.specs.Turn.{Row, Handling, notice_kind}

-- who asks for notices, and by whose rules; no product is to come
abbrev pub asked_of : List ℕ → Rules → Notifyme → Asked
asked_of host rules ask =
    record { host = host; rules = rules_for false rules; xid = ask.xid; class = ask.class; max_hereis = 0 }

-- how its last turn ended
abbrev pub Last : Type 0
Last = sender.Last Row

abbrev pub Notifying : Type 0
Notifying = Sending Row Handling

-- a session of notices as it is to be
abbrev pub IsNotifying : Asked → Notifying → Type 0
IsNotifying asked notifying = IsSending notice_kind asked notifying

-- where it stands behind its turns
abbrev pub stands : Notifying → Standing
stands notifying = sender.stands notice_kind notifying

-- ---- its last turn

abbrev pub last_entries : ℕ → ℕ → Last → List Entry
last_entries actor k last = sender.last_entries notice_kind actor k last

abbrev pub last_messages : ℕ → Last → List Sent
last_messages next last = sender.last_messages notice_kind next last

-- ---- the whole

-- the calls on the queue, the last one apart, which closes the cursor
abbrev pub entries_of : ℕ → Asked → Notifying → List Entry
entries_of actor asked notifying = sender.entries_of notice_kind actor asked notifying

-- the messages that the peer is owed
abbrev pub messages_of : Asked → Notifying → List Sent
messages_of asked notifying = sender.messages_of notice_kind asked notifying

-- their records, one behind the other
abbrev pub bytes_of : Asked → Notifying → List ℕ
bytes_of asked notifying = sender.bytes_of notice_kind asked notifying

-- what the clock answered
abbrev pub instants_of : Notifying → List ℕ
instants_of notifying = sender.instants_of notice_kind notifying
