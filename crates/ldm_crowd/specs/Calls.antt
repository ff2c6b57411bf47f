-- What the call of a line does to a pass.
use Rattle.std.specs.Prelude.{Option}
use Rattle.ldm_model.specs.declared.event.Event.{Event}
use Rattle.ldm_model.specs.declared.event.Reply.{Reply}
use Rattle.ldm_calls.specs.Lines.{IsMadeBy}
use Rattle.ldm_shared.specs.Passes.{PassView, Grows}

-- The pass grows by an event and its reply.
abbrev pub IsGrown : PassView → Event → Reply → PassView → Type 0
IsGrown old event answer new = Grows old new event answer

-- The pass grows by the event of a line. Without an event no call is made, and the answer is `without`.
abbrev pub GrowsBy : Reply → Option Event → Reply → PassView → PassView → Type 0
GrowsBy without event answer old new = IsMadeBy IsGrown without event answer old new
