-- What is done with a product that the cursor of a notifier gives: a notice of it, or nothing. What the turns of a
-- session of notices come to follows from this.
use Rattle.std.specs.Prelude.{◌≡◌, ℕ, true, false, List, [], ◌∷◌}
use Rattle.ldm_model.specs.declared.event.Entry.{Entry}
use Rattle.ldm_model.specs.State.{State}
use Rattle.ldm_shared.specs.Staying.{HasRow}
use Rattle.ldm_relay.specs.Sent.{Sent}
use Rattle.ldm_relay.specs.Sent as sent
use Rattle.ldm_sender.specs.declared.standing.Standing.{Standing}
use Rattle.ldm_sender.specs.Asked.{Asked}
use Rattle.ldm_sender.specs.Calls.{later_call}
use Rattle.ldm_sender.specs.Due.{is_due}
use Rattle.ldm_sender.specs.Turn as sender
use Rattle.ldm_sender.specs.Turn.{Kind}
pub use Rattle.ldm_sender.specs.Turn.{Row, Lost, Gave, Quiet, Alive}

-- What was done with a product.
pub data Handling : Type 0 where
  -- it is not due
  Passed : Handling
  -- the peer is told of it, and then the clock answered that
  Told : (at : ℕ) → Handling

-- The peer is told exactly of the products that are due.
abbrev pub IsHandled : Asked → Row → Handling → Type 0
IsHandled asked row Passed = is_due asked row.time row.info ≡ false
IsHandled asked row (Told at) = is_due asked row.time row.info ≡ true

abbrev pub handling_messages : ℕ → Row → Handling → List Sent
handling_messages next row Passed = []
handling_messages next row (Told at) = sent.Notification next row.info ∷ []

-- what the clock answered
abbrev pub handling_instants : Handling → List ℕ
handling_instants Passed = []
handling_instants (Told at) = at ∷ []

-- where the session stands then
abbrev pub after_handling : Standing → Handling → Standing
after_handling standing Passed = standing
after_handling standing (Told at) = record { next = later_call standing.next 1; sent_at = at }

-- the row is the one of its number in a state: its product has that metadata, and was inserted then
abbrev pub IsIn : State → Row → Type 0
IsIn state row = (body : List ℕ) × HasRow row.n (record { info = row.info; body = body }) row.time state

-- ---- a session of notices, as a kind of sending

-- No product is read, and none announced.
abbrev pub notice_kind : Kind Row Handling
notice_kind = record {
  answer = λ xid answer. sent.NotifymeReply xid answer;
  row = λ row. row;
  IsIn = IsIn;
  IsHandled = IsHandled;
  entries = λ actor k row handling. [];
  messages = handling_messages;
  instants = handling_instants;
  after = λ standing row handling. after_handling standing handling;
  IsAnnounced = λ asked row. ⊥;
  announcement = λ next row. [];
}

-- ---- its turns

abbrev pub Turn : Type 0
Turn = sender.Turn Row Handling

abbrev pub turn_entries : ℕ → ℕ → Turn → List Entry
turn_entries actor k turn = sender.turn_entries notice_kind actor k turn

abbrev pub turn_messages : ℕ → Turn → List Sent
turn_messages next turn = sender.turn_messages notice_kind next turn

abbrev pub after_turn : Standing → Turn → Standing
after_turn standing turn = sender.after_turn notice_kind standing turn
