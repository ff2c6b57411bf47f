-- What taking one record comes to, by how it ends.
use Rattle.std.specs.Prelude.{◌≡◌, ℕ, List, [], ◌++◌, length}
use Rattle.ldm_model.specs.declared.event.Entry.{Entry}
use Rattle.ldm_relay.specs.Sent.{Sent}
use Rattle.ldm_shared.specs.Passes.{PassView, Calls}
use Rattle.ldm_shared.specs.declared.steps.TheConstants.{MOST_TURNS}
use Rattle.ldm_intake.specs.declared.record_end.AnswerEnd.{AnswerEnd}
use Rattle.ldm_intake.specs.declared.record_end.AnswerEnd.TheVariants as answer_end
use Rattle.ldm_intake.specs.declared.record_end.MessageEnd.{MessageEnd}
use Rattle.ldm_intake.specs.declared.record_end.MessageEnd.TheVariants as message_end
use Rattle.ldm_intake.specs.Course.{Course, Leads, Begins}
use Rattle.ldm_intake.specs.Notes.{Note, note_lines}
use Rattle.ldm_intake.specs.Receiving.{Receiving}
use Rattle.ldm_relay.specs.Spelling.{records_of}
use Rattle.ldm_intake.specs.Step.{Step, Goes, Bad, Declined}

-- What a record changes: the receiving, the pass, the bytes that the peer is owed, and those of the log.
pub record Standing : Type 0 where
  pub receiving : Receiving
  pub pass : PassView
  pub out : List ℕ
  pub notes : List ℕ

abbrev pub stands : Receiving → PassView → List ℕ → List ℕ → Standing
stands receiving pass out notes = record { receiving = receiving; pass = pass; out = out; notes = notes }

-- The course was gone to its end with the pass, and the receiving goes on. What is owed and logged stands behind what stood there.
pub record GoesOn (course : Course Step) (old new : Standing) : Type 0 where
  pub made : List Entry
  pub replies : List Sent
  pub notes : List Note
  pub leads : Leads old.pass.actor course made (Goes new.receiving replies notes)
  pub calls : Calls old.pass new.pass made
  pub sends : new.out ≡ old.out ++ records_of replies
  pub logs : new.notes ≡ old.notes ++ note_lines notes

-- The queue can have no more calls: of the course the first ones were made, and nothing else is changed.
pub record RunsOut (course : Course Step) (old new : Standing) : Type 0 where
  pub made : List Entry
  pub begins : Begins old.pass.actor course made
  pub calls : Calls old.pass new.pass made
  pub worn : length new.pass.seen ≡ MOST_TURNS
  pub same : new ≡ record old { pass = new.pass }

-- A message of a feed. One that is refused makes no call, and it changes nothing. Nor does want of memory.
abbrev pub TakesRecord : MessageEnd → Course Step → Standing → Standing → Type 0
TakesRecord message_end.Goes course old new = GoesOn course old new
TakesRecord message_end.Bad course old new = Leads old.pass.actor course [] Bad × (new ≡ old)
TakesRecord message_end.Worn course old new = RunsOut course old new
TakesRecord message_end.OutOfMemory course old new = new ≡ old

-- The reply to a request. One that is refused, or that declines, makes no call, and it changes nothing. Nor does want of memory.
abbrev pub TakesAnswer : AnswerEnd → Course Step → Standing → Standing → Type 0
TakesAnswer answer_end.Goes course old new = GoesOn course old new
TakesAnswer answer_end.Bad course old new = Leads old.pass.actor course [] Bad × (new ≡ old)
TakesAnswer (answer_end.Declined answer) course old new = Leads old.pass.actor course [] (Declined answer) × (new ≡ old)
TakesAnswer answer_end.OutOfMemory course old new = new ≡ old
