-- One step of a cursor, and what follows it: the calls on the queue, and the messages. What is done with a product is
-- of some kind: a feeder gives it, and a notifier tells of it.
use Rattle.std.specs.Prelude.{ℕ, List, [], ◌∷◌, ◌++◌}
use Rattle.ldm_types.specs.Info.{Metadata}
use Rattle.ldm_model.specs.declared.event.Event.TheVariants.{Release}
use Rattle.ldm_model.specs.declared.event.Reply.{Reply}
use Rattle.ldm_model.specs.declared.event.Reply.TheVariants as reply
use Rattle.ldm_model.specs.declared.event.Entry.{Entry}
use Rattle.ldm_model.specs.State.{State}
use Rattle.ldm_outside.specs.declared.gate.Go.{Go}
use Rattle.ldm_outside.specs.declared.gate.Go.TheVariants as go
use Rattle.ldm_relay.specs.declared.message.ClassAnswer.{ClassAnswer}
use Rattle.ldm_relay.specs.Sent.{Sent}
use Rattle.ldm_relay.specs.Sent as sent
use Rattle.ldm_sender.specs.declared.standing.Standing.{Standing}
use Rattle.ldm_sender.specs.Asked.{Asked}
use Rattle.ldm_sender.specs.Calls.{later_call, stepped}

-- A product that a cursor was given: its number, its insertion time and its metadata.
pub record Row : Type 0 where
  pub n : ℕ
  pub time : ℕ
  pub info : Metadata

-- A kind of sending: what is known of a product that the cursor gives (`P`), what is done with it (`H`), and what that
-- comes to.
pub record Kind (P H : Type 0) : Type 1 where
  -- the message that answers the request
  pub answer : ℕ → ClassAnswer → Sent
  -- what the step of the cursor tells of the product, and whether a state has it so
  pub row : P → Row
  pub IsIn : State → P → Type 0
  -- what is to be done with it
  pub IsHandled : Asked → P → H → Type 0
  -- the calls on the queue before it is let go
  pub entries : ℕ → ℕ → P → H → List Entry
  -- the messages, of which the first has that number
  pub messages : ℕ → P → H → List Sent
  -- what the clock answers
  pub instants : H → List ℕ
  -- where the session stands then
  pub after : Standing → P → H → Standing
  -- which products are announced, and the messages that announce one: a session may end where no reply to them comes
  pub IsAnnounced : Asked → P → Type 0
  pub announcement : ℕ → P → List Sent

pub data Turn (P H : Type 0) : Type 0 where
  -- the cursor was told losses
  Lost : (count first last : ℕ) → Turn P H
  -- it was given a product, which it let go in the end
  Gave : (given : P) → (handling : H) → Turn P H
  -- It came to the end, and the gate said to go on; then the clock said `now`. An IS_ALIVE went or not.
  Quiet : (end now : ℕ) → Turn P H
  Alive : (end now at : ℕ) → Turn P H

-- ---- calls on the queue

-- the reply of the step that gives a product
abbrev pub given_reply : Row → Reply
given_reply row = reply.Product row.n row.time row.info

abbrev pub let_go : ℕ → ℕ → Row → Entry
let_go actor k row = record { actor = actor; event = Release k; reply = reply.Released row.n }

abbrev pub turn_entries : {P H : Type 0} → Kind P H → ℕ → ℕ → Turn P H → List Entry
turn_entries kind actor k (Lost count first last) = stepped actor k (reply.Gap count first last) ∷ []
turn_entries kind actor k (Gave given handling) =
    stepped actor k (given_reply (kind.row given))
    ∷ (kind.entries actor k given handling ++ let_go actor k (kind.row given) ∷ [])
turn_entries kind actor k (Quiet end now) = stepped actor k (reply.End end) ∷ []
turn_entries kind actor k (Alive end now at) = stepped actor k (reply.End end) ∷ []

-- ---- messages, by the number of the next call

abbrev pub turn_messages : {P H : Type 0} → Kind P H → ℕ → Turn P H → List Sent
turn_messages kind next (Lost count first last) = []
turn_messages kind next (Gave given handling) = kind.messages next given handling
turn_messages kind next (Quiet end now) = []
turn_messages kind next (Alive end now at) = sent.Isalive next ∷ []

-- ---- what was asked of others

-- what the clock answered
abbrev pub turn_instants : {P H : Type 0} → Kind P H → Turn P H → List ℕ
turn_instants kind (Lost count first last) = []
turn_instants kind (Gave given handling) = kind.instants handling
turn_instants kind (Quiet end now) = now ∷ []
turn_instants kind (Alive end now at) = now ∷ at ∷ []

-- what the gate answered
abbrev pub turn_goes : {P H : Type 0} → Turn P H → List Go
turn_goes (Lost count first last) = []
turn_goes (Gave given handling) = []
turn_goes (Quiet end now) = go.On ∷ []
turn_goes (Alive end now at) = go.On ∷ []

-- ---- where the session stands then

abbrev pub after_turn : {P H : Type 0} → Kind P H → Standing → Turn P H → Standing
after_turn kind standing (Lost count first last) = standing
after_turn kind standing (Gave given handling) = kind.after standing given handling
after_turn kind standing (Quiet end now) = standing
after_turn kind standing (Alive end now at) = record { next = later_call standing.next 1; sent_at = at }
