-- What becomes of a receiving, from one moment to another.
use Rattle.std.specs.Prelude.{◌≡◌, ℕ, List, [], ◌∷◌, ◌++◌, Option, None}
use Rattle.ldm_model.specs.declared.event.Entry.{Entry}
use Rattle.ldm_shared.specs.Passes.{Calls}
use Rattle.ldm_intake.specs.declared.end.RecvEnd.{RecvEnd}
use Rattle.ldm_intake.specs.Course.{Course, Leads, Begins}
use Rattle.ldm_intake.specs.Notes.{note_lines}
use Rattle.ldm_intake.specs.Receiving.{Receiving}
use Rattle.ldm_intake.specs.Record.{record_course}
use Rattle.ldm_relay.specs.Spelling.{records_of}
use Rattle.ldm_intake.specs.Taken.{Arrival, Taken, taken_none, taken}
use Rattle.ldm_intake.specs.TakesRecord.{Standing}
use Rattle.ldm_intake.specs.Turning.{HasClosed}

-- What the course asks was asked of the queue, and it came to this. The messages that the peer is owed stand behind those that were
-- there, and so do the log lines.
pub record Takes (course : Course Taken) (end : Option RecvEnd) (old new : Standing) : Type 0 where
  pub made : List Entry
  pub to : Taken
  pub leads : Leads old.pass.actor course made to
  pub end_is : to.end ≡ end
  pub calls : Calls old.pass new.pass made
  pub receiving : new.receiving ≡ to.receiving
  pub sends : new.out ≡ old.out ++ records_of to.replies
  pub logs : new.notes ≡ old.notes ++ note_lines to.notes

-- the first ones of what the next record asks the queue for
abbrev pub BeginsNext : ℕ → Receiving → List Arrival → List Entry → Type 0
BeginsNext actor s [] made = made ≡ []
BeginsNext actor s (arrival ∷ arrivals) made = Begins actor (record_course s arrival.now arrival.content) made

-- A receiving breaks off: the first of the records were taken, and the next one asked the queue for perhaps some of its events.
pub record BreaksOff (arrivals : List Arrival) (old new : Standing) : Type 0 where
  pub front : List Arrival
  pub behind : List Arrival
  pub all : arrivals ≡ front ++ behind
  pub between : Standing
  pub takes : Takes (taken (taken_none old.receiving) front) None old between
  pub made : List Entry
  pub begins : BeginsNext old.pass.actor between.receiving behind made
  pub calls : Calls between.pass new.pass made
  pub same : new ≡ record between { pass = new.pass }

-- What an end does: a reservation that is open is given up.
pub record GivesUp (old new : Standing) : Type 0 where
  pub closes : HasClosed old.receiving new.receiving old.pass new.pass
  pub sends : new.out ≡ old.out
  pub logs : new.notes ≡ old.notes
