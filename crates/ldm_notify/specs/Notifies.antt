-- What a call that tells of products comes to, at each of its ends: the session of notices that it made, or a front of
-- it.
use Rattle.std.specs.Prelude.{[]}
use Rattle.ldm_outside.specs.Session.{SessionRecord}
use Rattle.ldm_shared.specs.Passes.{PassView}
use Rattle.ldm_sender.specs.declared.end.SendEnd.{SendEnd}
use Rattle.ldm_sender.specs.declared.end.SendEnd.TheVariants as end
use Rattle.ldm_sender.specs.Asked.{Asked}
use Rattle.ldm_sender.specs.Opening.{Answered}
use Rattle.ldm_sender.specs.Acts.{Situation}
use Rattle.ldm_sender.specs.Sends.{Sends, HasSent}
use Rattle.ldm_notify.specs.declared.end.NoteEnd.{NoteEnd}
use Rattle.ldm_notify.specs.declared.end.NoteEnd.TheVariants as note
use Rattle.ldm_notify.specs.Turn.{notice_kind}

-- the same end, as one of any sending end
abbrev pub send_end : NoteEnd → SendEnd
send_end note.Stopped = end.Stopped
send_end note.Reclassed = end.Reclassed
send_end (note.Denied rule) = end.Denied rule
send_end note.LinkFault = end.LinkFault
send_end note.LogFault = end.LogFault
send_end note.AllBusy = end.AllBusy
send_end note.Worn = end.Worn
send_end note.OutOfMemory = end.OutOfMemory

-- A session of notices was made up to an end, as any session of a sending end is. The link gave nothing.
pub record NotifiesTo (why : SendEnd) (asked : Asked) (old new : PassView) (before after : SessionRecord) : Type 0 where
  pub sends : Sends notice_kind why asked [] old new before after
  pub open sends use {
    sending as notifying,
    is_sending as is_notifying,
    called,
    called_part,
    made,
    rows,
    sent,
    sent_part,
    exchanged,
    left,
    instants,
    instants_part,
    answered,
    goes,
    goes_part,
    idled,
    logged,
    last,
    cause,
  }

abbrev pub Notifies : NoteEnd → Asked → (old new : PassView) → (before after : SessionRecord) → Type 0
Notifies why asked old new before after = NotifiesTo (send_end why) asked old new before after

-- A session of notices was made up to an end, and its cursor is not closed yet.
abbrev pub HasNotified : SendEnd → Asked → Answered → (old new : Situation) → Type 0
HasNotified why asked answered old new = HasSent notice_kind why asked [] answered old new
