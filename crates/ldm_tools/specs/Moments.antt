-- What is seen of a run at a moment.
use Rattle.std.specs.Prelude.{ℕ, ◌≤◌, List}
use Rattle.ldm_outside.specs.Clock.{ClockRecord}
use Rattle.ldm_outside.specs.Dial.{DialRecord}
use Rattle.ldm_outside.specs.Io.{SinkRecord}
use Rattle.ldm_outside.specs.Link.{LinkRecord}
use Rattle.ldm_outside.specs.Store.{StoreRecord}
use Rattle.ldm_relay.specs.declared.message.PutAnswer.{PutAnswer}

-- What inserting uses of the outside, its log apart.
pub record Outside : Type 0 where
  pub store : StoreRecord
  pub net : DialRecord
  pub sink : SinkRecord
  pub clock : ClockRecord

abbrev pub outside_tells : {F N K C : Type 0} → (F → StoreRecord) → (N → DialRecord) → (K → SinkRecord) → (C → ClockRecord) → F → N → K → C → Outside
outside_tells store net sink clock of_store of_net of_sink of_clock =
    record { store = store of_store; net = net of_net; sink = sink of_sink; clock = clock of_clock }

-- No count fell.
pub record KeepsInsertCounts (old new : Outside) : Type 0 where
  pub store : old.store.faults ≤ new.store.faults
  pub long : old.store.long ≤ new.store.long
  pub net : old.net.faults ≤ new.net.faults
  pub ended : old.net.links.ended ≤ new.net.links.ended
  pub failed : old.net.links.failed ≤ new.net.links.failed
  pub sink : old.sink.faults ≤ new.sink.faults

-- What is used while a link is out.
pub record Hands : Type 0 where
  pub store : StoreRecord
  pub link : LinkRecord
  pub sink : SinkRecord
  pub clock : ClockRecord

abbrev pub hands_tell : {F L K C : Type 0} → (F → StoreRecord) → (L → LinkRecord) → (K → SinkRecord) → (C → ClockRecord) → F → L → K → C → Hands
hands_tell store link sink clock of_store of_link of_sink of_clock =
    record { store = store of_store; link = link of_link; sink = sink of_sink; clock = clock of_clock }

-- the same, where this link is out
abbrev pub hands_of : LinkRecord → Outside → Hands
hands_of link outside = record { store = outside.store; link = link; sink = outside.sink; clock = outside.clock }

-- no count of these fell
pub record KeepsHands (old new : Hands) : Type 0 where
  pub store : old.store.faults ≤ new.store.faults
  pub long : old.store.long ≤ new.store.long
  pub ends : old.link.ends ≤ new.link.ends
  pub faults : old.link.faults ≤ new.link.faults
  pub sink : old.sink.faults ≤ new.sink.faults

-- A moment of a run over a link: what is used, all bytes that the link gave, and the answers to the PUTs so far, in order.
pub record InsertMoment : Type 0 where
  pub hands : Hands
  pub given : List ℕ
  pub answers : List PutAnswer

abbrev pub moment : Hands → List ℕ → List PutAnswer → InsertMoment
moment hands given answers = record { hands = hands; given = given; answers = answers }
