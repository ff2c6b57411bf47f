-- What a record comes to.
use Rattle.std.specs.Prelude.{List}
use Rattle.ldm_relay.specs.declared.message.ClassAnswer.{ClassAnswer}
use Rattle.ldm_relay.specs.Sent.{Sent}
use Rattle.ldm_intake.specs.Notes.{Note}
use Rattle.ldm_intake.specs.Receiving.{Receiving}

pub data Step : Type 0 where
  -- the receiving goes on: the messages that the peer is owed, and what is logged
  Goes : (receiving : Receiving) → (replies : List Sent) → (notes : List Note) → Step
  -- the record is refused
  Bad : Step
  -- the peer declined the request by this answer
  Declined : (answer : ClassAnswer) → Step
