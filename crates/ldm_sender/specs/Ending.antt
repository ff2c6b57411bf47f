-- How the sending end of a session ends: its cursor, its link, and why.
use Rattle.std.specs.Prelude.{◌≡◌, ℕ, List, [], length, Bool, true}
use Rattle.ldm_types.specs.declared.class.ClassSpec.{ClassSpec}
use Rattle.ldm_model.specs.declared.event.Entry.{Entry}
use Rattle.ldm_outside.specs.Count.{Rose}
use Rattle.ldm_outside.specs.Link.{LinkRecord, IsNotClosed}
use Rattle.ldm_outside.specs.Session.{SessionRecord}
use Rattle.ldm_shared.specs.Passes.{PassView}
use Rattle.ldm_shared.specs.declared.steps.TheConstants.{MOST_TURNS}
use Rattle.ldm_sender.specs.declared.end.SendEnd.{SendEnd}
use Rattle.ldm_sender.specs.declared.end.SendEnd.TheVariants as end
use Rattle.ldm_sender.specs.Opening.{Answered, Denied, Reclassed, Busy, closing_entries}
use Rattle.ldm_sender.specs.Acts.{Situation}

-- the call that closes the cursor, where one was opened and the queue can have a call more
abbrev pub closing_of : ℕ → SendEnd → Answered → List Entry
closing_of actor end.Worn answered = []
closing_of actor _ answered = closing_entries actor answered

-- only a session that the gate stopped closes the link
abbrev pub IsLeft : SendEnd → LinkRecord → Type 0
IsLeft end.Stopped link = link.closed ≡ true
IsLeft _ link = IsNotClosed link

-- why it ended
abbrev pub IsEndOf : SendEnd → Answered → (new : PassView) → (before after : SessionRecord) → Type 0
IsEndOf end.Stopped answered new before after = Rose before.gate.stops after.gate.stops
IsEndOf end.Reclassed answered new before after = (class : ClassSpec) × (answered ≡ Reclassed class)
IsEndOf (end.Denied rule) answered new before after = answered ≡ Denied rule
IsEndOf (end.PeerEnd at) answered new before after = Rose before.link.ends after.link.ends
IsEndOf end.LinkFault answered new before after = Rose before.link.faults after.link.faults
IsEndOf end.LogFault answered new before after = Rose before.log.faults after.log.faults
IsEndOf (end.BadReply at) answered new before after = Unit {0}
IsEndOf end.AllBusy answered new before after = (missed : Bool) × (answered ≡ Busy missed)
IsEndOf end.Worn answered new before after = length new.seen ≡ MOST_TURNS
IsEndOf end.OutOfMemory answered new before after = Unit {0}

-- ends that await no reply
abbrev pub AwaitsNone : SendEnd → Type 0
AwaitsNone (end.PeerEnd at) = ⊥
AwaitsNone (end.BadReply at) = ⊥
AwaitsNone _ = Unit {0}

-- what the outside of the session tells in a situation
abbrev pub session_of : Situation → SessionRecord
session_of situation =
    record { link = situation.moment.link; log = situation.log; clock = situation.moment.clock; gate = situation.gate }

-- why turns end
abbrev pub StopsTurns : SendEnd → Situation → Situation → Type 0
StopsTurns end.Stopped old new = Rose old.gate.stops new.gate.stops
StopsTurns (end.PeerEnd at) old new = Rose old.moment.link.ends new.moment.link.ends
StopsTurns (end.BadReply at) old new = Unit {0}
StopsTurns end.LinkFault old new = Rose old.moment.link.faults new.moment.link.faults
StopsTurns end.LogFault old new = Rose old.log.faults new.log.faults
StopsTurns end.Worn old new = length new.moment.pass.seen ≡ MOST_TURNS
StopsTurns end.OutOfMemory old new = Unit {0}
StopsTurns _ old new = ⊥
