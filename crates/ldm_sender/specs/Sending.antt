-- A whole session of a sending end: how the request was answered, the turns, and how it ended. It is plain data. What
-- was called, sent and asked are functions of it.
use Rattle.std.specs.Prelude.{◌≡◌, ℕ, List, [], ◌∷◌, ◌++◌}
use Rattle.ldm_model.specs.declared.event.Reply.TheVariants as reply
use Rattle.ldm_model.specs.declared.event.Entry.{Entry}
use Rattle.ldm_outside.specs.declared.gate.Go.{Go}
use Rattle.ldm_outside.specs.declared.gate.Go.TheVariants as go
use Rattle.ldm_relay.specs.Sent.{Sent}
use Rattle.ldm_sender.specs.declared.standing.Standing.{Standing}
use Rattle.ldm_sender.specs.Asked.{Asked}
use Rattle.ldm_sender.specs.Calls.{stepped}
use Rattle.ldm_sender.specs.Deeds.{records_of}
use Rattle.ldm_sender.specs.Opening.{Answered, Opened, IsAnswerTo, class_answer_of, opening_entries, place_of}
use Rattle.ldm_sender.specs.Turn.{Kind, Turn, given_reply}
use Rattle.ldm_sender.specs.Turns.{AreTurns, after_turns, entries_of_turns, instants_of_turns, goes_of_turns}
use Rattle.ldm_sender.specs.Turns.{messages_of_turns, given_in_turns}

-- How the last turn ended, behind those that went on.
pub data Last (P : Type 0) : Type 0 where
  -- there was none
  GoesOn : Last P
  -- the cursor came to the end, and the gate said to stop
  Stopped : (end : ℕ) → Last P
  -- A product was announced, the clock answered that after it, and no reply came. Where the session broke off there, it
  -- was announced in part, or not at all.
  Unanswered : (given : P) → (at : ℕ) → Last P

pub record Sending (P H : Type 0) : Type 0 where
  pub answered : Answered
  -- the answer of the clock after the request was answered
  pub answered_at : ℕ
  pub turns : List (Turn P H)
  pub last : Last P

-- where the session stands before its first turn
abbrev pub begun : {P H : Type 0} → Sending P H → Standing
begun sending = record { next = 1; sent_at = sending.answered_at }

-- where it stands behind its turns
abbrev pub stands : {P H : Type 0} → Kind P H → Sending P H → Standing
stands kind sending = after_turns kind (begun sending) sending.turns

abbrev pub IsLast : {P H : Type 0} → Kind P H → Asked → Last P → Type 0
IsLast kind asked GoesOn = Unit {0}
IsLast kind asked (Stopped end) = Unit {0}
IsLast kind asked (Unanswered given at) = kind.IsAnnounced asked given

-- only a cursor that was opened makes turns
abbrev pub MayTurn : {P H : Type 0} → Answered → List (Turn P H) → Last P → Type 0
MayTurn (Opened missed k) turns last = Unit {0}
MayTurn _ turns last = (turns ≡ []) × (last ≡ GoesOn)

-- A session as it is to be.
pub record IsSending {P H : Type 0} (kind : Kind P H) (asked : Asked) (sending : Sending P H) : Type 0 where
  pub answered : IsAnswerTo asked sending.answered
  pub turns : AreTurns kind asked (begun sending) sending.turns
  pub last : IsLast kind asked sending.last
  pub opened : MayTurn sending.answered sending.turns sending.last

-- ---- its last turn

abbrev pub last_entries : {P H : Type 0} → Kind P H → ℕ → ℕ → Last P → List Entry
last_entries kind actor k GoesOn = []
last_entries kind actor k (Stopped end) = stepped actor k (reply.End end) ∷ []
last_entries kind actor k (Unanswered given at) = stepped actor k (given_reply (kind.row given)) ∷ []

abbrev pub last_messages : {P H : Type 0} → Kind P H → ℕ → Last P → List Sent
last_messages kind next GoesOn = []
last_messages kind next (Stopped end) = []
last_messages kind next (Unanswered given at) = kind.announcement next given

abbrev pub last_instants : {P : Type 0} → Last P → List ℕ
last_instants GoesOn = []
last_instants (Stopped end) = []
last_instants (Unanswered given at) = at ∷ []

abbrev pub last_goes : {P : Type 0} → Last P → List Go
last_goes GoesOn = []
last_goes (Stopped end) = go.Stop ∷ []
last_goes (Unanswered given at) = []

abbrev pub last_given : {P : Type 0} → Last P → List P
last_given GoesOn = []
last_given (Stopped end) = []
last_given (Unanswered given at) = given ∷ []

-- ---- the whole

-- the calls on the queue, the last one apart, which closes the cursor
abbrev pub entries_of : {P H : Type 0} → Kind P H → ℕ → Asked → Sending P H → List Entry
entries_of kind actor asked sending =
    opening_entries actor asked sending.answered
    ++ entries_of_turns kind actor (place_of sending.answered) sending.turns
    ++ last_entries kind actor (place_of sending.answered) sending.last

-- the messages that the peer is owed
abbrev pub messages_of : {P H : Type 0} → Kind P H → Asked → Sending P H → List Sent
messages_of kind asked sending =
    kind.answer asked.xid (class_answer_of sending.answered)
    ∷ (messages_of_turns kind (begun sending) sending.turns
    ++ last_messages kind (stands kind sending).next sending.last)

-- their records, one behind the other
abbrev pub bytes_of : {P H : Type 0} → Kind P H → Asked → Sending P H → List ℕ
bytes_of kind asked sending = records_of (messages_of kind asked sending)

-- what the clock answered: once after each message, and once where the gate said to go on
abbrev pub instants_of : {P H : Type 0} → Kind P H → Sending P H → List ℕ
instants_of kind sending =
    sending.answered_at ∷ (instants_of_turns kind sending.turns ++ last_instants sending.last)

-- what the gate answered
abbrev pub goes_of : {P H : Type 0} → Sending P H → List Go
goes_of sending = goes_of_turns sending.turns ++ last_goes sending.last

-- the products that the cursor was given
abbrev pub given_of : {P H : Type 0} → Sending P H → List P
given_of sending = given_in_turns sending.turns ++ last_given sending.last
