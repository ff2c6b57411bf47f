-- The turns of a session of notices, one after another.
use Rattle.std.specs.Prelude.{ℕ, List}
use Rattle.ldm_model.specs.declared.event.Entry.{Entry}
use Rattle.ldm_relay.specs.Sent.{Sent}
use Rattle.ldm_sender.specs.declared.standing.Standing.{Standing}
use Rattle.ldm_sender.specs.Asked.{Asked}
use Rattle.ldm_sender.specs.Turns as sender
use Rattle.ldm_notify.specs.Turn.{Turn, notice_kind}

abbrev pub IsTurn : Asked → Standing → Turn → Type 0
IsTurn asked standing turn = sender.IsTurn notice_kind asked standing turn

abbrev pub AreTurns : Asked → Standing → List Turn → Type 0
AreTurns asked standing turns = sender.AreTurns notice_kind asked standing turns

-- ---- what they come to

abbrev pub entries_of_turns : ℕ → ℕ → List Turn → List Entry
entries_of_turns actor k turns = sender.entries_of_turns notice_kind actor k turns

abbrev pub messages_of_turns : Standing → List Turn → List Sent
messages_of_turns standing turns = sender.messages_of_turns notice_kind standing turns
