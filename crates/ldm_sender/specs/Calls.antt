-- The numbers of a sending end's calls on the link, and the steps of its cursor.
use Rattle.std.specs.Prelude.{ℕ, ◌+◌, ◌%◌, ◌^◌}
use Rattle.ldm_model.specs.declared.event.Event.{Event}
use Rattle.ldm_model.specs.declared.event.Event.TheVariants.{OpenCursor, Step}
use Rattle.ldm_model.specs.declared.event.Reply.{Reply}
use Rattle.ldm_model.specs.declared.event.Reply.TheVariants.{Opened}
use Rattle.ldm_model.specs.declared.event.Entry.{Entry}

-- the number of the call that comes so many calls later
abbrev pub later_call : ℕ → ℕ → ℕ
later_call next calls = (next + calls) % 2 ^ 32

-- a step of the cursor at that place, and its answer
abbrev pub stepped : ℕ → ℕ → Reply → Entry
stepped actor k answer = record { actor = actor; event = Step k; reply = answer }

abbrev pub MayBeUnmadeBy : Event → Reply → Type 0
MayBeUnmadeBy (Step k) answer = ⊥
MayBeUnmadeBy (OpenCursor feed from) (Opened k) = ⊥
MayBeUnmadeBy _ answer = Unit {0}

-- A call that an end at which not all is done may leave out: none that opened a cursor, and no step of one. Steps alone
-- give products,
-- and tell losses and the end of the queue.
abbrev pub MayBeUnmade : Entry → Type 0
MayBeUnmade entry = MayBeUnmadeBy entry.event entry.reply
