-- Calls of the queue within a record, and what gives up a reservation.
use Rattle.std.specs.Prelude.{◌≡◌, [], List, length}
use Rattle.ldm_model.specs.declared.event.Entry.{Entry}
use Rattle.ldm_shared.specs.Passes.{PassView, Calls}
use Rattle.ldm_shared.specs.declared.steps.TheConstants.{MOST_TURNS}
use Rattle.ldm_shared.specs.declared.turn.Turn.{Turn}
use Rattle.ldm_shared.specs.declared.turn.Turn.TheVariants.{Done, Worn}
use Rattle.ldm_intake.specs.declared.record_end.MessageEnd.{MessageEnd}
use Rattle.ldm_intake.specs.declared.record_end.MessageEnd.TheVariants as message_end
use Rattle.ldm_intake.specs.Course.{Leads}
use Rattle.ldm_intake.specs.Receiving.{Receiving}
use Rattle.ldm_intake.specs.Taken.{closing, taken_none}

-- how a message of a feed ends whose calls came to that
abbrev pub end_of_turn : {R : Type 0} → Turn R → MessageEnd
end_of_turn (Done reply) = message_end.Goes
end_of_turn (Worn turns) = message_end.Worn

-- What gives up the reservation that is open was asked of the queue with the pass, and was answered.
pub record HasClosed (old new : Receiving) (pass after : PassView) : Type 0 where
  pub made : List Entry
  pub leads : Leads pass.actor (closing (taken_none old)) made (taken_none new)
  pub calls : Calls pass after made

-- The queue can have no more calls: nothing was given up.
pub record HasKept (old new : Receiving) (pass after : PassView) : Type 0 where
  pub same : new ≡ old
  pub calls : Calls pass after []
  pub worn : length after.seen ≡ MOST_TURNS
