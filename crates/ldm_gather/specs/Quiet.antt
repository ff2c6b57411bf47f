-- Calls that are about no cursor: those of a receiving.
use Rattle.std.specs.Prelude.{◌≡◌, List, [], ◌∷◌, None}
use Rattle.ldm_model.specs.declared.event.Event.{Event}
use Rattle.ldm_model.specs.declared.event.Entry.{Entry}
use Rattle.ldm_model.specs.Law.{place_of_event}
use Rattle.ldm_shared.specs.Passes.{PassView, Calls}

-- the event is about no cursor that is open
abbrev pub IsQuiet : Event → Type 0
IsQuiet event = place_of_event event ≡ None

abbrev pub AreQuiet : List Entry → Type 0
AreQuiet [] = Unit {0}
AreQuiet (entry ∷ entries) = IsQuiet entry.event × AreQuiet entries

-- The calls that were made with the pass since then are about no cursor that is open.
pub record CallsQuietly (old new : PassView) : Type 0 where
  pub made : List Entry
  pub calls : Calls old new made
  pub quiet : AreQuiet made
