-- How a session of notices ends where nothing fails.
use Rattle.std.specs.Prelude.{◌≡◌, ◌⊎◌, ◌<◌, length}
use Rattle.ldm_outside.specs.Count.{Rose}
use Rattle.ldm_outside.specs.Session.{SessionRecord}
use Rattle.ldm_shared.specs.Passes.{PassView}
use Rattle.ldm_shared.specs.declared.steps.TheConstants.{MOST_TURNS}
use Rattle.ldm_sender.specs.Opening.{Answered, Denied, Reclassed, Busy, Opened}
use Rattle.ldm_notify.specs.declared.end.NoteEnd.{NoteEnd}
use Rattle.ldm_notify.specs.declared.end.NoteEnd.TheVariants as note

-- No count of faults rose: neither link nor log failed.
pub record NoneFailed (before after : SessionRecord) : Type 0 where
  pub link : ¬ Rose before.link.faults after.link.faults
  pub log : ¬ Rose before.log.faults after.log.faults

-- the queue can have a call more
abbrev pub HasCallsLeft : PassView → Type 0
HasCallsLeft pass = length pass.seen < MOST_TURNS

-- The answer to the request decides the end: a cursor that was opened is stepped until the gate says to stop. Or there
-- is
-- no memory.
abbrev pub IsEndFor : Answered → NoteEnd → Type 0
IsEndFor (Denied rule) why = (why ≡ note.Denied rule) ⊎ (why ≡ note.OutOfMemory)
IsEndFor (Reclassed class) why = (why ≡ note.Reclassed) ⊎ (why ≡ note.OutOfMemory)
IsEndFor (Busy missed) why = (why ≡ note.AllBusy) ⊎ (why ≡ note.OutOfMemory)
IsEndFor (Opened missed k) why = (why ≡ note.Stopped) ⊎ (why ≡ note.OutOfMemory)
