-- A session of notices to which nothing happens ends as its request was answered.
use Rattle.std.proofs.Common.{◌≡◌, ◌∙◌, ℕ, List, inl, inr, refl, sym, subst, arith}
use Rattle.ldm_outside.specs.Session.{SessionRecord}
use Rattle.ldm_shared.specs.Passes.{PassView}
use Rattle.ldm_sender.specs.Asked.{Asked}
use Rattle.ldm_sender.specs.Opening.{Answered, Denied, Reclassed, Busy, Opened}
use Rattle.ldm_notify.specs.declared.end.NoteEnd.{NoteEnd}
use Rattle.ldm_notify.specs.declared.end.NoteEnd.TheVariants as note
use Rattle.ldm_notify.specs.Turn.{Turn}
use Rattle.ldm_notify.specs.Notifying.{Last, GoesOn, Stopped, MayTurn}
use Rattle.ldm_notify.specs.Notifies.{Notifies}
use Rattle.ldm_notify.specs.Complete.{HasCallsLeft, IsEndFor, NoneFailed}

stopped-end : (answered : Answered) (turns : List Turn) (last : Last) (at : ℕ) → MayTurn answered turns last
    → last ≡ Stopped at → IsEndFor answered note.Stopped
stopped-end (Opened missed k) turns last at may is = inl refl
stopped-end (Denied rule) turns last at may is = let no : GoesOn ≡ Stopped at = sym may.1 ∙ is in absurd (cc no)
stopped-end (Reclassed class) turns last at may is = let no : GoesOn ≡ Stopped at = sym may.1 ∙ is in absurd (cc no)
stopped-end (Busy missed) turns last at may is = let no : GoesOn ≡ Stopped at = sym may.1 ∙ is in absurd (cc no)

memory-end : (answered : Answered) → IsEndFor answered note.OutOfMemory
memory-end (Opened missed k) = inr refl
memory-end (Denied rule) = inr refl
memory-end (Reclassed class) = inr refl
memory-end (Busy missed) = inr refl

pub completes : (why : NoteEnd) (asked : Asked) (old new : PassView) (before after : SessionRecord)
    → (notified : Notifies why asked old new before after) → NoneFailed before after → HasCallsLeft new
    → IsEndFor notified.notifying.answered why
completes note.Stopped asked old new before after notified none few =
    let notifying = notified.notifying in
    stopped-end notifying.answered notifying.turns notifying.last notified.last.0 notified.is_notifying.opened
    notified.last.1
completes note.Reclassed asked old new before after notified none few =
    subst (λ (a : Answered). IsEndFor a note.Reclassed) (sym notified.cause.1) (inl refl)
completes (note.Denied rule) asked old new before after notified none few =
    subst (λ (a : Answered). IsEndFor a (note.Denied rule)) (sym notified.cause) (inl refl)
completes note.LinkFault asked old new before after notified none few = absurd (none.link notified.cause)
completes note.LogFault asked old new before after notified none few = absurd (none.log notified.cause)
completes note.AllBusy asked old new before after notified none few =
    subst (λ (a : Answered). IsEndFor a note.AllBusy) (sym notified.cause.1) (inl refl)
completes note.Worn asked old new before after notified none few = absurd (omega (arith, few, notified.cause))
completes note.OutOfMemory asked old new before after notified none few = memory-end notified.notifying.answered
