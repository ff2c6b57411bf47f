-- The turns of a feeding, one after another.
use Rattle.std.specs.Prelude.{ℕ, List, [], ◌∷◌, ◌++◌}
use Rattle.ldm_model.specs.declared.event.Entry.{Entry}
use Rattle.ldm_relay.specs.Sent.{Sent}
use Rattle.ldm_session.specs.Owed.{Code}
use Rattle.ldm_sender.specs.declared.standing.Standing.{Standing}
use Rattle.ldm_sender.specs.Asked.{Asked}
use Rattle.ldm_sender.specs.Turns as sender
pub use Rattle.ldm_sender.specs.Turns.{goes_of_turns, given_in, given_in_turns}
use Rattle.ldm_upstream.specs.Turn.{Turn, feeding_kind, turn_codes, after_turn}

abbrev pub IsTurn : Asked → Standing → Turn → Type 0
IsTurn asked standing turn = sender.IsTurn feeding_kind asked standing turn

abbrev pub AreTurns : Asked → Standing → List Turn → Type 0
AreTurns asked standing turns = sender.AreTurns feeding_kind asked standing turns

-- where the feeding stands after them
abbrev pub after_turns : Standing → List Turn → Standing
after_turns standing turns = sender.after_turns feeding_kind standing turns

-- ---- what they come to

abbrev pub entries_of_turns : ℕ → ℕ → List Turn → List Entry
entries_of_turns actor k turns = sender.entries_of_turns feeding_kind actor k turns

abbrev pub messages_of_turns : Standing → List Turn → List Sent
messages_of_turns standing turns = sender.messages_of_turns feeding_kind standing turns

-- what the peer replied
abbrev pub codes_of_turns : Standing → List Turn → List Code
codes_of_turns standing [] = []
codes_of_turns standing (turn ∷ turns) =
    turn_codes standing.next turn ++ codes_of_turns (after_turn standing turn) turns
