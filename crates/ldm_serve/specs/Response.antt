-- What a record that a server reads comes to, before the connection becomes a feeding, a receiving or a notifying.
use Rattle.std.specs.Prelude.{ℕ, List}
use Rattle.ldm_types.specs.Info.{Metadata}
use Rattle.ldm_types.specs.declared.class.ClassSpec.{ClassSpec}
use Rattle.ldm_relay.specs.Sent.{Sent}

pub data Response : Type 0 where
  -- the session goes on, and these messages are owed
  Says : (messages : List Sent) → Response
  -- the product is inserted at the clock's time, and the queue's answer is owed
  Puts : (xid : ℕ) → (info : Metadata) → (body : List ℕ) → Response
  -- the figures of the queue are owed
  Figures : (xid : ℕ) → Response
  -- from now on a feeding
  Feeds : (xid : ℕ) → (class : ClassSpec) → (max_hereis : ℕ) → Response
  -- the class is accepted: from now on a receiving, behind these messages
  Receives : (class : ClassSpec) → (messages : List Sent) → Response
  -- from now on a notifying
  Notifies : (xid : ℕ) → (class : ClassSpec) → Response
  -- the record is refused, and these messages are owed
  Refuses : (messages : List Sent) → Response
  -- the rules leave nothing of what the peer offers: the number of the first rule about the host, or 0 for none
  Denies : (rule : ℕ) → (messages : List Sent) → Response
