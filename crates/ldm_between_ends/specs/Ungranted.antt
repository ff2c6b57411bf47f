-- A feeder does not grant what it was asked for: all that comes is the reply.
use Rattle.std.specs.Prelude.{◌≡◌, ℕ, Option, Some, None}
use Rattle.ldm_relay.specs.Fits.{ClassAnswerFits}
use Rattle.ldm_intake.specs.declared.end.RecvEnd.{RecvEnd}
use Rattle.ldm_intake.specs.declared.end.RecvEnd.TheVariants.{BadFrame, Refused}
use Rattle.ldm_intake.specs.Answered.{by_answer}
use Rattle.ldm_intake.specs.Course.{Leads}
use Rattle.ldm_intake.specs.Step.{Step, Goes, Bad, Declined}
use Rattle.ldm_sender.specs.Opening.{Answered, Opened, class_answer_of}
use Rattle.ldm_upstream.specs.Feeding.{IsFeeding}
use Rattle.ldm_downstream.specs.Received.{received}
use Rattle.ldm_between_ends.specs.Passing.{Carries, HasAsked, Passing, record_at}

-- no cursor was opened
abbrev pub IsUnopened : Answered → Type 0
IsUnopened (Opened missed k) = ⊥
IsUnopened _ = Unit {0}

-- The request was not granted, and of the reply the first bytes came to a receiver that had asked, perhaps all.
pub record IsUngranted (p : Passing) : Type 0 where
  pub is : IsFeeding p.asked p.feeding
  pub unopened : IsUnopened p.feeding.answered
  pub fits : ClassAnswerFits (class_answer_of p.feeding.answered)
  pub asker : HasAsked p.asked p.begins
  pub carries : Carries p
  pub leads : Leads p.actor (received p.begins (record_at p.at) p.pieces) p.made p.came_to

-- how a step ends a receiving, if it does
abbrev pub EndsBy : Step → Option RecvEnd → Type 0
EndsBy (Goes receiving replies notes) end = end ≡ None
EndsBy Bad end = (at : ℕ) × (end ≡ Some (BadFrame at))
EndsBy (Declined answer) end = end ≡ Some (Refused answer)

-- By the whole reply it ends, or goes on.
abbrev pub EndsByReply : (p : Passing) → IsUngranted p → Type 0
EndsByReply p ungranted = EndsBy (by_answer p.begins p.asked.class ungranted.asker.again (class_answer_of p.feeding.answered)) p.came_to.end
