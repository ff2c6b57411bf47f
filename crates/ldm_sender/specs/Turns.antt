-- Turns one after another, each as the one before it left the session.
use Rattle.std.specs.Prelude.{◌≡◌, ℕ, true, false, List, [], ◌∷◌, ◌++◌}
use Rattle.std.specs.List.{flat_map}
use Rattle.ldm_model.specs.declared.event.Entry.{Entry}
use Rattle.ldm_outside.specs.declared.gate.Go.{Go}
use Rattle.ldm_relay.specs.Sent.{Sent}
use Rattle.ldm_session.specs.Idle.{is_silent_since}
use Rattle.ldm_sender.specs.declared.standing.Standing.{Standing}
use Rattle.ldm_sender.specs.Asked.{Asked}
use Rattle.ldm_sender.specs.Turn.{Kind, Turn, Lost, Gave, Quiet, Alive, turn_entries, turn_messages, turn_instants}
use Rattle.ldm_sender.specs.Turn.{turn_goes, after_turn}

-- The clock decides on an IS_ALIVE.
abbrev pub IsTurn : {P H : Type 0} → Kind P H → Asked → Standing → Turn P H → Type 0
IsTurn kind asked standing (Lost count first last) = Unit {0}
IsTurn kind asked standing (Gave given handling) = kind.IsHandled asked given handling
IsTurn kind asked standing (Quiet end now) = is_silent_since standing.sent_at now ≡ false
IsTurn kind asked standing (Alive end now at) = is_silent_since standing.sent_at now ≡ true

abbrev pub AreTurns : {P H : Type 0} → Kind P H → Asked → Standing → List (Turn P H) → Type 0
AreTurns kind asked standing [] = Unit {0}
AreTurns kind asked standing (turn ∷ turns) =
    IsTurn kind asked standing turn × AreTurns kind asked (after_turn kind standing turn) turns

-- where the session stands after them
abbrev pub after_turns : {P H : Type 0} → Kind P H → Standing → List (Turn P H) → Standing
after_turns kind standing [] = standing
after_turns kind standing (turn ∷ turns) = after_turns kind (after_turn kind standing turn) turns

-- ---- what they come to

abbrev pub entries_of_turns : {P H : Type 0} → Kind P H → ℕ → ℕ → List (Turn P H) → List Entry
entries_of_turns kind actor k turns = flat_map (turn_entries kind actor k) turns

abbrev pub instants_of_turns : {P H : Type 0} → Kind P H → List (Turn P H) → List ℕ
instants_of_turns kind turns = flat_map (turn_instants kind) turns

abbrev pub goes_of_turns : {P H : Type 0} → List (Turn P H) → List Go
goes_of_turns turns = flat_map turn_goes turns

abbrev pub messages_of_turns : {P H : Type 0} → Kind P H → Standing → List (Turn P H) → List Sent
messages_of_turns kind standing [] = []
messages_of_turns kind standing (turn ∷ turns) =
    turn_messages kind standing.next turn ++ messages_of_turns kind (after_turn kind standing turn) turns

-- the products that the cursor was given
abbrev pub given_in : {P H : Type 0} → Turn P H → List P
given_in (Gave given handling) = given ∷ []
given_in _ = []

abbrev pub given_in_turns : {P H : Type 0} → List (Turn P H) → List P
given_in_turns turns = flat_map given_in turns
