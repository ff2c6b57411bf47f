-- How a part of a sending breaks off: what is left of the cursor, and why.
use Rattle.std.specs.Prelude.{◌≡◌, ℕ, length, Option}
use Rattle.ldm_outside.specs.Count.{Rose}
use Rattle.ldm_shared.specs.Passes.{PassView}
use Rattle.ldm_shared.specs.declared.steps.TheConstants.{MOST_TURNS}
use Rattle.ldm_shared.specs.Reader.{HasCursor}
use Rattle.ldm_sender.specs.declared.end.SendEnd.{SendEnd}
use Rattle.ldm_sender.specs.declared.end.SendEnd.TheVariants as end
use Rattle.ldm_sender.specs.Does.{SendingMoment}

-- The cursor is there still, so that it can be closed; of a queue that has had all its calls nothing is said.
abbrev pub KeepsCursor : SendEnd → PassView → ℕ → Type 0
KeepsCursor end.Worn pass k = Unit {0}
KeepsCursor _ pass k = (held : Option ℕ) × HasCursor pass k held

-- why a message is not gathered or sent, or a call not made
abbrev pub StopsSending : SendEnd → SendingMoment → SendingMoment → Type 0
StopsSending end.LinkFault old new = Rose old.link.faults new.link.faults
StopsSending end.Worn old new = length new.pass.seen ≡ MOST_TURNS
StopsSending end.OutOfMemory old new = Unit {0}
StopsSending _ old new = ⊥
