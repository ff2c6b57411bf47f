-- A feeder grants a part of what it was asked for, and the receiver asks for that.
use Rattle.std.specs.Prelude.{◌≡◌, ◌+◌, ◌<◌, true, false, [], ◌∷◌, length, None}
use Rattle.ldm_types.specs.declared.class.ClassSpec.{ClassSpec}
use Rattle.ldm_class.specs.Classes.{bad_place}
use Rattle.ldm_relay.specs.Fits.{ClassFits}
use Rattle.ldm_relay.specs.Sent as sent
use Rattle.ldm_intake.specs.declared.phase.Phase.TheVariants as phase
use Rattle.ldm_intake.specs.Answered.{number_of_request}
use Rattle.ldm_class.specs.Asking.{same_class}
use Rattle.ldm_intake.specs.Course.{Leads}
use Rattle.ldm_intake.specs.Receiving.{Receiving}
use Rattle.ldm_sender.specs.Asked.{Asked}
use Rattle.ldm_sender.specs.Opening.{Reclassed}
use Rattle.ldm_upstream.specs.Feeding.{IsFeeding}
use Rattle.ldm_session.specs.declared.limits.TheConstants.{LONGEST_STREAM}
use Rattle.ldm_downstream.specs.Pieces.{hand, joined}
use Rattle.ldm_downstream.specs.Received.{received}
use Rattle.ldm_between_ends.specs.Passing.{CarriesAll, HasAsked, Passing, record_at}

-- The answer was that class, which is another one and has no pattern that means nothing. It came whole to a receiver that had
-- asked once.
pub record IsNarrowing (p : Passing) (class : ClassSpec) : Type 0 where
  pub is : IsFeeding p.asked p.feeding
  pub answered : p.feeding.answered ≡ Reclassed class
  pub fits : ClassFits class
  pub meant : bad_place class.specs.items ≡ None
  pub other : same_class class p.asked.class ≡ false
  pub asker : HasAsked p.asked p.begins
  pub once : asker.again ≡ false
  pub carries : CarriesAll p
  pub few : p.at + length (joined p.pieces) < LONGEST_STREAM
  pub leads : Leads p.actor (received p.begins (record_at p.at) p.pieces) p.made p.came_to

-- a receiver that asks again
abbrev pub asking : Receiving → ClassSpec → Receiving
asking s class = record s { wanting = record s.wanting { class = class }; phase = phase.Asked class true }

-- Nothing is asked of the queue. The peer is owed the second request, and who is asked by it is asked by the receiver.
pub record Narrows (p : Passing) (class : ClassSpec) : Type 0 where
  pub none_made : p.made ≡ []
  pub came_to : p.came_to ≡ record {
    receiving = asking p.begins class;
    replies = sent.Feedme 2 class p.begins.max_hereis ∷ [];
    notes = [];
    end = None;
  }
  pub edge : hand (record_at p.at) p.pieces ≡ record_at (p.at + length (joined p.pieces))
  pub asks : (asked : Asked) → asked.class ≡ class → asked.xid ≡ number_of_request true → HasAsked asked p.came_to.receiving
