-- What a session of notices comes to: once its cursor is closed, or where none was opened.
use Rattle.std.proofs.Common.{◌≡◌, ℕ, [], subst}
use Rattle.ldm_outside.specs.Session.{SessionRecord, KeepsFaults}
use Rattle.ldm_shared.specs.Passes.{PassView}
use Rattle.ldm_sender.specs.declared.end.SendEnd.{SendEnd}
use Rattle.ldm_sender.specs.declared.end.SendEnd.TheVariants as end
use Rattle.ldm_sender.specs.Asked.{Asked}
use Rattle.ldm_sender.specs.Ending.{AwaitsNone}
use Rattle.ldm_sender.specs.Sends.{Sends}
use Rattle.ldm_sender.specs.Sending.{Last, Unanswered, IsLast}
use Rattle.ldm_sender.proofs.Sent.{unsent}
use Rattle.ldm_sender.proofs.Unturned.{Unturned}
use Rattle.ldm_notify.specs.Turn.{Row, notice_kind}
use Rattle.ldm_notify.specs.Notifies.{NotifiesTo}
use Rattle.ldm_notify.proofs.Turning.{notice_lawful}

pub unnoted : (why : SendEnd) (asked : Asked) (old new : PassView) (before after : SessionRecord)
    → Unturned why asked old new before after
    → NotifiesTo why asked old new before after × KeepsFaults before after
unnoted why asked old new before after unturned =
    let sent = unsent notice_kind notice_lawful asked why old new before after unturned in
    (record { sends = sent.0 }, sent.1)

-- its cursor is closed
pub notified : (why : SendEnd) (asked : Asked) (old new : PassView) (before after : SessionRecord)
    → Sends notice_kind why asked [] old new before after × KeepsFaults before after
    → NotifiesTo why asked old new before after × KeepsFaults before after
notified why asked old new before after sent = (record { sends = sent.0 }, sent.1)

-- no announcement is
none_unanswered : (asked : Asked) (last : Last Row) → IsLast notice_kind asked last → (row : Row) (at : ℕ)
    → last ≡ Unanswered row at → ⊥
none_unanswered asked last is row at unanswered = subst (λ (l : Last Row). IsLast notice_kind asked l) unanswered is

-- an end that a session of notices came to awaits no reply
pub awaits_none : (why : SendEnd) (asked : Asked) (old new : PassView) (before after : SessionRecord)
    → NotifiesTo why asked old new before after → AwaitsNone why
awaits_none (end.PeerEnd place) asked old new before after notifies =
    none_unanswered asked notifies.notifying.last notifies.is_notifying.last notifies.last.0 notifies.last.1 notifies.last.2
awaits_none (end.BadReply place) asked old new before after notifies =
    none_unanswered asked notifies.notifying.last notifies.is_notifying.last notifies.last.0 notifies.last.1 notifies.last.2
awaits_none end.Stopped asked old new before after notifies = tt
awaits_none end.Reclassed asked old new before after notifies = tt
awaits_none (end.Denied rule) asked old new before after notifies = tt
awaits_none end.LinkFault asked old new before after notifies = tt
awaits_none end.LogFault asked old new before after notifies = tt
awaits_none end.AllBusy asked old new before after notifies = tt
awaits_none end.Worn asked old new before after notifies = tt
awaits_none end.OutOfMemory asked old new before after notifies = tt
