-- What it comes to that a request is answered: the calls that open a cursor, and the answer.
use Rattle.std.specs.Prelude.{◌≡◌, ℕ, List, [], ◌∷◌, length, Bool, false, Option, Some, None, Result, Ok, Err}
use Rattle.ldm_model.specs.declared.event.Entry.{Entry}
use Rattle.ldm_outside.specs.Clock.{ClockRecord}
use Rattle.ldm_outside.specs.Link.{LinkRecord}
use Rattle.ldm_relay.specs.declared.message.ClassAnswer.{ClassAnswer}
use Rattle.ldm_relay.specs.Sent as sent
use Rattle.ldm_shared.specs.Passes.{PassView, Makes}
use Rattle.ldm_shared.specs.declared.steps.TheConstants.{MOST_TURNS}
use Rattle.ldm_shared.specs.declared.turn.Turn.{Turn}
use Rattle.ldm_shared.specs.declared.turn.Turn.TheVariants.{Done, Worn}
use Rattle.ldm_shared.specs.declared.reader.Reader.{Reader}
use Rattle.ldm_shared.specs.Reader.{HasCursor}
use Rattle.ldm_sender.specs.declared.end.SendEnd.{SendEnd}
use Rattle.ldm_sender.specs.Asked.{Asked}
use Rattle.ldm_sender.specs.Opening.{Opened, Busy, MayMiss, opening_entries}
use Rattle.ldm_sender.specs.Deeds.{Deed, records_of}
use Rattle.ldm_sender.specs.Does.{SendingMoment, moment_of, Does, Breaks}
use Rattle.ldm_session.specs.Part.{IsPart}
use Rattle.ldm_sender.specs.Stopping.{StopsSending}

-- the answer is owed, and the clock is asked
abbrev pub answer_deed : ℕ → ClassAnswer → ℕ → Deed
answer_deed xid answer at =
    record { entries = []; bytes = records_of (sent.FeedmeReply xid answer ∷ []); instants = at ∷ [] }

-- It was sent, and the clock said this.
abbrev pub AnswersClass : Result ℕ SendEnd → ℕ → ClassAnswer → (old new : SendingMoment) → Type 0
AnswersClass (Ok at) xid answer old new = Does [] old new (answer_deed xid answer at)
AnswersClass (Err why) xid answer old new = (at : ℕ) × Breaks [] old new (answer_deed xid answer at)
    × StopsSending why old new

-- A cursor was opened.
pub record OpensCursor (asked : Asked) (k : ℕ) (old new : PassView) : Type 0 where
  pub missed : Bool
  pub may_miss : MayMiss asked missed
  pub makes : Makes old new (opening_entries old.actor asked (Opened missed k))
  pub cursor : HasCursor new k None

-- All were taken.
pub record FindsBusy (asked : Asked) (old new : PassView) : Type 0 where
  pub missed : Bool
  pub may_miss : MayMiss asked missed
  pub makes : Makes old new (opening_entries old.actor asked (Busy missed))

-- The queue has had all its calls before one was opened.
pub record FindsWornFirst (asked : Asked) (old new : PassView) : Type 0 where
  pub missed : Bool
  pub may_miss : MayMiss asked missed
  pub called : List Entry
  pub makes : Makes old new called
  pub part : IsPart false called (opening_entries old.actor asked (Busy missed))
  pub long : length new.seen ≡ MOST_TURNS

abbrev pub OpensFor : Turn (Option Reader) → Asked → (old new : PassView) → Type 0
OpensFor (Done (Some reader)) asked old new = OpensCursor asked reader.k old new
OpensFor (Done None) asked old new = FindsBusy asked old new
OpensFor (Worn turns) asked old new = FindsWornFirst asked old new

-- a request was answered for which no cursor is opened
abbrev pub Declines : Result (Unit {0}) SendEnd → ℕ → ClassAnswer → (pass : PassView) → (link : LinkRecord)
    → (clock : ClockRecord) → (link' : LinkRecord) → (clock' : ClockRecord) → Type 0
Declines (Ok done) xid answer pass link clock link' clock' =
    (at : ℕ) × Does [] (moment_of pass link clock []) (moment_of pass link' clock' []) (answer_deed xid answer at)
Declines (Err why) xid answer pass link clock link' clock' =
    (at : ℕ) × (out : List ℕ) × Breaks [] (moment_of pass link clock []) (moment_of pass link' clock' out)
    (answer_deed xid answer at)
    × StopsSending why (moment_of pass link clock []) (moment_of pass link' clock' out)
