-- What a call that sends comes to, at each of its ends: the session that it made, or a front of it.
use Rattle.std.specs.Prelude.{◌≡◌, ℕ, List, ◌++◌}
use Rattle.ldm_model.specs.declared.event.Entry.{Entry}
use Rattle.ldm_outside.specs.declared.gate.Go.{Go}
use Rattle.ldm_outside.specs.Session.{SessionRecord}
use Rattle.ldm_shared.specs.Passes.{PassView, Calls}
use Rattle.ldm_session.specs.Exchange.{Exchanged, AnsweredAll, IdledAll}
use Rattle.ldm_session.specs.Gaps.{gap_log}
use Rattle.ldm_session.specs.Part.{IsPart}
use Rattle.ldm_sender.specs.declared.end.SendEnd.{SendEnd}
use Rattle.ldm_sender.specs.Asked.{Asked}
use Rattle.ldm_sender.specs.Opening.{Answered}
use Rattle.ldm_sender.specs.Calls.{MayBeUnmade}
use Rattle.ldm_sender.specs.Does.{IsAllBut}
use Rattle.ldm_sender.specs.Acts.{Situation, Act, IsStop, Logged, EndsAct, IsAllSent, is_whole}
use Rattle.ldm_sender.specs.Ending.{IsEndOf, IsLeft, closing_of, session_of}
use Rattle.ldm_sender.specs.Turn.{Kind}
use Rattle.ldm_sender.specs.Sending.{Sending, IsSending, entries_of, bytes_of, instants_of, goes_of, given_of}
use Rattle.ldm_sender.specs.Course.{AreRows, IsLastOf}

-- A session of that kind was made up to an end, in which the link gave these bytes: all of it where the end is a whole
-- one, and else of each part a front. No product is of it that no step of the cursor gave.
pub record Sends {P H : Type 0} (kind : Kind P H) (why : SendEnd) (asked : Asked) (given : List ℕ)
    (old new : PassView) (before after : SessionRecord) : Type 0 where
  pub sending : Sending P H
  pub is_sending : IsSending kind asked sending
  -- the calls on the queue, and the one that closes the cursor; each step of it was made
  pub called : List Entry
  pub called_part : IsAllBut (is_whole why) MayBeUnmade called (entries_of kind old.actor asked sending)
  pub made : Calls old new (called ++ closing_of old.actor why sending.answered)
  -- each product that the cursor gave is the one of its number
  pub rows : AreRows kind new (given_of sending)
  -- what the link was sent, and what it gave
  pub sent : List ℕ
  pub sent_part : IsPart (is_whole why) sent (bytes_of kind asked sending)
  pub exchanged : Exchanged before.link sent given after.link
  pub left : IsLeft why after.link
  -- the clock, the gate and the log
  pub instants : List ℕ
  pub instants_part : IsPart (is_whole why) instants (instants_of kind sending)
  pub answered : AnsweredAll instants before.clock after.clock
  pub goes : List Go
  pub goes_part : IsAllBut (is_whole why) IsStop goes (goes_of sending)
  pub idled : IdledAll goes before.gate after.gate
  pub logged : Logged why before.log (gap_log asked.host called) after.log
  -- why it ended, and how its last turn did
  pub last : IsLastOf why sending.last
  pub cause : IsEndOf why sending.answered new before after

-- ---- its parts

-- what a session comes to
abbrev pub sending_act : {P H : Type 0} → Kind P H → ℕ → Asked → Sending P H → Act
sending_act kind actor asked sending = record {
  deed = record {
    entries = entries_of kind actor asked sending;
    bytes = bytes_of kind asked sending;
    instants = instants_of kind sending;
  };
  goes = goes_of sending;
}

-- A session was made up to an end, and its cursor is not closed yet.
pub record HasSent {P H : Type 0} (kind : Kind P H) (why : SendEnd) (asked : Asked) (given : List ℕ)
    (answered : Answered) (old new : Situation) : Type 0 where
  pub sending : Sending P H
  pub is_answered : sending.answered ≡ answered
  pub is_sending : IsSending kind asked sending
  pub ends : EndsAct (is_whole why) why asked.host given old new
      (sending_act kind old.moment.pass.actor asked sending)
  pub all_sent : IsAllSent (is_whole why) new.moment.out
  pub rows : AreRows kind new.moment.pass (given_of sending)
  pub last : IsLastOf why sending.last
  pub cause : IsEndOf why sending.answered new.moment.pass (session_of old) (session_of new)
