-- The whole course of a cursor, as plain data: its turns up to the end of the queue, again and again.
use Rattle.std.specs.Prelude.{ℕ, List, [], ◌∷◌, ◌++◌, map}
use Rattle.std.specs.List.{flat_map}
use Rattle.ldm_model.specs.declared.event.Reply.{Reply}
use Rattle.ldm_model.specs.declared.event.Reply.TheVariants as reply
use Rattle.ldm_outside.specs.declared.gate.Go.{Go}
use Rattle.ldm_outside.specs.declared.gate.Go.TheVariants as go
use Rattle.ldm_outside.specs.Gate.{GateRecord}
use Rattle.ldm_session.specs.Exchange.{IdledAll}
use Rattle.ldm_pqact_conf.specs.Entries.{EntryView}
use Rattle.ldm_pqact.specs.declared.end.ActEnd.{ActEnd}
use Rattle.ldm_pqact.specs.declared.end.ActEnd.TheVariants as end
use Rattle.ldm_pqact.specs.Acting.{EndsSo, IsInHand, Run, Sight, parted_of}
use Rattle.ldm_shared.specs.Givens.{Turn, products_of, turn_reply}
use Rattle.ldm_pqact.specs.Turns.{deeds_of, lines_of}
use Rattle.ldm_shared.specs.Uses.{AreRows}
use Rattle.ldm_pqact.specs.Work.{Parted, Work, work_then}

-- Turns up to the end of the queue, and how many products it had had when the cursor came there.
pub record Stretch : Type 0 where
  pub turns : List Turn
  pub at : ℕ

-- how its steps were answered: the last one, that the cursor is at the end
abbrev pub stretch_replies : Stretch → List Reply
stretch_replies stretch = map turn_reply stretch.turns ++ reply.End stretch.at ∷ []

abbrev pub turns_in : List Stretch → List Turn
turns_in stretches = flat_map (λ (stretch : Stretch). stretch.turns) stretches

-- what entries make of them
abbrev pub work_in : List EntryView → List Stretch → Work
work_in entries stretches = record {
  answers = flat_map stretch_replies stretches;
  deeds = deeds_of entries (turns_in stretches);
  lines = lines_of entries (turns_in stretches);
}

pub record Course : Type 0 where
  -- behind each of these the gate said to go on
  pub stretches : List Stretch
  -- the turns behind them
  pub run : Run

-- all turns, in order
abbrev pub turns_of : Course → List Turn
turns_of course = turns_in course.stretches ++ (course.run.turns ++ course.run.in_hand)

-- what entries make of them: all turns of stretches are whole
abbrev pub course_work : ActEnd → List EntryView → Course → Parted
course_work why entries course =
    let run = parted_of why entries course.run in
    record { whole = work_then (work_in entries course.stretches) run.whole; in_hand = run.in_hand }

-- the gate is asked at the end of the queue alone, and `Stopped` is the end at which it said to stop
abbrev pub last_go : ActEnd → List Go
last_go end.Stopped = go.Stop ∷ []
last_go _ = []

-- what the gate answered
abbrev pub goes_of : ActEnd → Course → List Go
goes_of why course = map (λ (stretch : Stretch). go.On) course.stretches ++ last_go why

-- What is seen of a cursor's actions, with what the gate tells.
pub record Gated : Type 0 where
  pub sight : Sight
  pub gate : GateRecord

abbrev pub gated_of : Sight → GateRecord → Gated
gated_of sight gate = record { sight = sight; gate = gate }

-- Entries acted on the products of a cursor, up to an end.
pub record Follows (why : ActEnd) (entries : List EntryView) (k : ℕ) (old new : Gated) : Type 0 where
  pub course : Course
  pub is_in_hand : IsInHand why course.run.in_hand
  pub ends : EndsSo why k (course_work why entries course) old.sight new.sight
  pub rows : AreRows new.sight.pass (products_of (turns_of course))
  pub idled : IdledAll (goes_of why course) old.gate new.gate
