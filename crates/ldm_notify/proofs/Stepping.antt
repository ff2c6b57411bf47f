-- One turn: a step of the cursor, and what follows it.
use Rattle.std.proofs.Common.{ℕ, [], ◌∷◌}
use Rattle.std.specs.Prelude.{Result, Ok, Err}
use Rattle.ldm_outside.specs.Link.{IsNotClosed}
use Rattle.ldm_shared.specs.Passes.{PassView, Makes}
use Rattle.ldm_sender.specs.declared.end.SendEnd.{SendEnd}
use Rattle.ldm_sender.specs.declared.end.SendEnd.TheVariants as end
use Rattle.ldm_sender.specs.declared.standing.Standing.{Standing}
use Rattle.ldm_sender.specs.Asked.{Asked}
use Rattle.ldm_sender.specs.Calls.{stepped}
use Rattle.ldm_sender.specs.Does.{SendingMoment}
use Rattle.ldm_sender.specs.Acts.{Situation, situation_of}
use Rattle.ldm_sender.specs.Course.{IsRowIn}
use Rattle.ldm_sender.specs.Ending.{StopsTurns}
use Rattle.ldm_sender.specs.Stopping.{StopsSending}
use Rattle.ldm_sender.specs.Turn.{given_reply}
use Rattle.ldm_sender.proofs.Opened.{stops_cut}
use Rattle.ldm_sender.proofs.Steps.{RowsStay}
use Rattle.ldm_sender.proofs.Stepping.{StepsBy, gave, gave_ended, with_pass}
use Rattle.ldm_notify.specs.Turn.{Row, notice_kind}
use Rattle.ldm_notify.specs.Telling.{Handles}
use Rattle.ldm_notify.specs.Course.{TurnsBy}
use Rattle.ldm_notify.proofs.Turning.{notice_lawful}

-- no product was given
pub steps_by : (result : Result (Unit {0}) SendEnd) (asked : Asked) (k : ℕ) (s s' : Standing) (old new : Situation)
    → StepsBy result notice_kind asked k s s' old new → TurnsBy result asked k s s' old new
steps_by (Ok done) asked k s s' old new steps = (steps.turns, steps.makes)
steps_by (Err why) asked k s s' old new steps = (steps.course, steps.ends)

stops_turns : (why : SendEnd) (a : Situation) (old : PassView) (new : SendingMoment)
    → StopsSending why (with_pass a old).moment new → StopsTurns why a (situation_of new a.log a.gate)
stops_turns end.LinkFault a old new cause = cause
stops_turns end.Worn a old new cause = cause
stops_turns end.OutOfMemory a old new cause = tt
stops_turns end.Stopped a old new cause = absurd cause
stops_turns end.Reclassed a old new cause = absurd cause
stops_turns (end.Denied rule) a old new cause = absurd cause
stops_turns (end.PeerEnd place) a old new cause = absurd cause
stops_turns (end.BadReply place) a old new cause = absurd cause
stops_turns end.LogFault a old new cause = absurd cause
stops_turns end.AllBusy a old new cause = absurd cause

pub gave_by : (result : Result (Unit {0}) SendEnd) (asked : Asked) (k : ℕ) (row : Row) (s s' : Standing) (a : Situation)
    (old : PassView) (new : SendingMoment) → RowsStay → IsRowIn notice_kind old row → IsNotClosed a.moment.link
    → Makes a.moment.pass old (stepped a.moment.pass.actor k (given_reply row) ∷ [])
    → Handles result asked k row s s' (with_pass a old).moment new
    → TurnsBy result asked k s s' a (situation_of new a.log a.gate)
gave_by (Ok done) asked k row s s' a old new law is unclosed makes handled = (
  _,
  gave notice_kind asked k s a notice_lawful row handled.handling law [] old new is unclosed makes handled.is_handled s'
      handled.does handled.stands handled.cursor,
)
gave_by (Err why) asked k row s s' a old new law is unclosed makes ended = (
  _,
  gave_ended notice_kind asked k s a notice_lawful row ended.handling law [] old new is unclosed makes ended.is_handled
      why (stops_cut why (with_pass a old).moment new ended.cause) ended.breaks
      (stops_turns why a old new ended.cause) ended.cursor,
)
