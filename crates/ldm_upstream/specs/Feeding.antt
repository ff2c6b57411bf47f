-- A whole feeding: how the request was answered, the turns, and how it ended. It is plain data. What was called, sent,
-- read and asked are functions of it.
use Rattle.std.specs.Prelude.{ℕ, List}
use Rattle.ldm_model.specs.declared.event.Entry.{Entry}
use Rattle.ldm_relay.specs.Sent.{Sent}
use Rattle.ldm_session.specs.Owed.{Code}
use Rattle.ldm_sender.specs.declared.standing.Standing.{Standing}
use Rattle.ldm_sender.specs.Asked.{Asked}
use Rattle.ldm_sender.specs.Sending as sender
use Rattle.ldm_sender.specs.Sending.{Sending, IsSending}
pub use Rattle.ldm_sender.specs.Sending.{GoesOn, Stopped, Unanswered, MayTurn, begun, last_instants, last_goes}
pub use Rattle.ldm_sender.specs.Sending.{last_given, goes_of, given_of}
use Rattle.ldm_upstream.specs.Turn.{Given, Handling, feeding_kind}
use Rattle.ldm_upstream.specs.Turns.{codes_of_turns}

-- how its last turn ended
abbrev pub Last : Type 0
Last = sender.Last Given

abbrev pub Feeding : Type 0
Feeding = Sending Given Handling

-- a feeding as it is to be
abbrev pub IsFeeding : Asked → Feeding → Type 0
IsFeeding asked feeding = IsSending feeding_kind asked feeding

abbrev pub IsLast : Asked → Last → Type 0
IsLast asked last = sender.IsLast feeding_kind asked last

-- where it stands behind its turns
abbrev pub stands : Feeding → Standing
stands feeding = sender.stands feeding_kind feeding

-- ---- its last turn

abbrev pub last_entries : ℕ → ℕ → Last → List Entry
last_entries actor k last = sender.last_entries feeding_kind actor k last

abbrev pub last_messages : ℕ → Last → List Sent
last_messages next last = sender.last_messages feeding_kind next last

-- ---- the whole

-- the calls on the queue, the last one apart, which closes the cursor
abbrev pub entries_of : ℕ → Asked → Feeding → List Entry
entries_of actor asked feeding = sender.entries_of feeding_kind actor asked feeding

-- the messages that the peer is owed
abbrev pub messages_of : Asked → Feeding → List Sent
messages_of asked feeding = sender.messages_of feeding_kind asked feeding

-- their records, one behind the other
abbrev pub bytes_of : Asked → Feeding → List ℕ
bytes_of asked feeding = sender.bytes_of feeding_kind asked feeding

-- the replies that came to announcements
abbrev pub codes_of : Feeding → List Code
codes_of feeding = codes_of_turns (sender.begun feeding) feeding.turns

-- what the clock answered
abbrev pub instants_of : Feeding → List ℕ
instants_of feeding = sender.instants_of feeding_kind feeding
