-- The turns of a session, as code makes them: it makes some and can go on, or it ends behind some, perhaps within one.
use Rattle.std.specs.Prelude.{◌≡◌, ℕ, List, ◌++◌, All, None}
use Rattle.ldm_model.specs.History.{after}
use Rattle.ldm_shared.specs.Passes.{PassView}
use Rattle.ldm_shared.specs.Reader.{HasCursor}
use Rattle.ldm_sender.specs.declared.end.SendEnd.{SendEnd}
use Rattle.ldm_sender.specs.declared.end.SendEnd.TheVariants as end
use Rattle.ldm_sender.specs.declared.standing.Standing.{Standing}
use Rattle.ldm_sender.specs.Asked.{Asked}
use Rattle.ldm_sender.specs.Deeds.{records_of}
use Rattle.ldm_sender.specs.Stopping.{KeepsCursor}
use Rattle.ldm_sender.specs.Acts.{Situation, Act, Acts, EndsAct, IsAllSent, then_act, is_whole}
use Rattle.ldm_sender.specs.Ending.{StopsTurns}
use Rattle.ldm_sender.specs.Turn.{Kind, Turn}
use Rattle.ldm_sender.specs.Turns.{AreTurns, after_turns, entries_of_turns, instants_of_turns, goes_of_turns}
use Rattle.ldm_sender.specs.Turns.{messages_of_turns, given_in_turns}
use Rattle.ldm_sender.specs.Sending.{Last, Stopped, Unanswered, IsLast, last_entries, last_messages, last_instants}
use Rattle.ldm_sender.specs.Sending.{last_goes, last_given}

-- turns, and how the last one ended
pub record Course (P H : Type 0) : Type 0 where
  pub turns : List (Turn P H)
  pub last : Last P

-- what turns come to
abbrev pub turns_act : {P H : Type 0} → Kind P H → ℕ → ℕ → Standing → List (Turn P H) → Act
turns_act kind actor k standing turns = record {
  deed = record {
    entries = entries_of_turns kind actor k turns;
    bytes = records_of (messages_of_turns kind standing turns);
    instants = instants_of_turns kind turns;
  };
  goes = goes_of_turns turns;
}

-- what the last turn comes to
abbrev pub last_act : {P H : Type 0} → Kind P H → ℕ → ℕ → ℕ → Last P → Act
last_act kind actor k next last = record {
  deed = record {
    entries = last_entries kind actor k last;
    bytes = records_of (last_messages kind next last);
    instants = last_instants last;
  };
  goes = last_goes last;
}

-- what they come to, one behind the other
abbrev pub course_act : {P H : Type 0} → Kind P H → ℕ → ℕ → Standing → Course P H → Act
course_act kind actor k standing course = then_act (turns_act kind actor k standing course.turns)
    (last_act kind actor k (after_turns kind standing course.turns).next course.last)

-- the products that the cursor was given
abbrev pub course_given : {P H : Type 0} → Course P H → List P
course_given course = given_in_turns course.turns ++ last_given course.last

-- a product is the one of its number in what was seen
abbrev pub IsRowIn : {P H : Type 0} → Kind P H → PassView → P → Type 0
IsRowIn kind pass given = kind.IsIn (after pass.arena pass.slots pass.seen) given

-- each is
abbrev pub AreRows : {P H : Type 0} → Kind P H → PassView → List P → Type 0
AreRows kind pass givens = All (IsRowIn kind pass) givens

-- These turns were made, in which the link gave these bytes, and the cursor can go on.
pub record MakesTurns {P H : Type 0} (kind : Kind P H) (asked : Asked) (k : ℕ) (standing standing' : Standing)
    (turns : List (Turn P H)) (came : List ℕ) (old new : Situation) : Type 0 where
  pub are_turns : AreTurns kind asked standing turns
  pub acts : Acts asked.host came old new (turns_act kind old.moment.pass.actor k standing turns)
  pub stands : standing' ≡ after_turns kind standing turns
  pub cursor : HasCursor new.moment.pass k None
  pub rows : AreRows kind new.moment.pass (given_in_turns turns)

-- how the last turn ended, where it did
abbrev pub IsLastOf : {P : Type 0} → SendEnd → Last P → Type 0
IsLastOf end.Stopped last = (at : ℕ) × (last ≡ Stopped at)
IsLastOf {P} (end.PeerEnd place) last = (given : P) × (at : ℕ) × (last ≡ Unanswered given at)
IsLastOf {P} (end.BadReply place) last = (given : P) × (at : ℕ) × (last ≡ Unanswered given at)
IsLastOf _ last = Unit {0}

-- These turns were made, in which the link gave these bytes, and then it ended.
pub record EndsTurns {P H : Type 0} (kind : Kind P H) (why : SendEnd) (asked : Asked) (k : ℕ) (standing : Standing)
    (course : Course P H) (came : List ℕ) (old new : Situation) : Type 0 where
  pub are_turns : AreTurns kind asked standing course.turns
  pub is_last : IsLast kind asked course.last
  pub last_of_end : IsLastOf why course.last
  pub ends : EndsAct (is_whole why) why asked.host came old new
      (course_act kind old.moment.pass.actor k standing course)
  pub all_sent : IsAllSent (is_whole why) new.moment.out
  pub cause : StopsTurns why old new
  pub cursor : KeepsCursor why new.moment.pass k
  pub rows : AreRows kind new.moment.pass (course_given course)
