-- An actor's lines, answered from the actor's entries in a history.
use Rattle.std.specs.Prelude.{◌≡◌, List, [], ◌∷◌, Option, Some, None}
use Rattle.ldm_model.specs.declared.event.Event.{Event}
use Rattle.ldm_model.specs.declared.event.Reply.{Reply}
use Rattle.ldm_model.specs.declared.event.Entry.{Entry}
use Rattle.ldm_script.specs.Order.{Asked}
use Rattle.ldm_script.specs.declared.order.LastPlaces.{LastPlaces}
use Rattle.ldm_script.specs.Resolve.{resolved, unresolved, last_after}

-- What a line is answered, the places that were opened and reserved last then, and the entries that are left for the lines behind it.
pub record Told : Type 0 where
  pub reply : Reply
  pub last : LastPlaces
  pub left : List Entry

-- The reply to an event is that of the next entry. Without an event there is no entry, and the reply is `without`.
abbrev pub told_of : LastPlaces → Reply → Option Event → List Entry → Told
told_of last without None entries = record { reply = without; last = last; left = entries }
told_of last without (Some event) [] = record { reply = without; last = last; left = [] }
told_of last without (Some event) (entry ∷ entries) = record { reply = entry.reply; last = last_after last entry.reply; left = entries }

-- so for a line, whose `.` stands for one of these places
abbrev pub told : LastPlaces → Asked → List Entry → Told
told last asked entries = told_of last (unresolved asked) (resolved last asked) entries

-- the next entry is of the event of a line, where it has one
abbrev pub IsMade : Option Event → List Entry → Type 0
IsMade None entries = Unit {0}
IsMade (Some event) [] = ⊥
IsMade (Some event) (entry ∷ entries) = entry.event ≡ event

-- The entries are those of these lines: one for each line that has an event, in order, and no more. `last` has the places that were
-- opened and reserved last before the first of them.
abbrev pub AreEntriesOf : LastPlaces → List Asked → List Entry → Type 0
AreEntriesOf last [] entries = entries ≡ []
AreEntriesOf last (asked ∷ lines) entries =
    IsMade (resolved last asked) entries × AreEntriesOf (told last asked entries).last lines (told last asked entries).left

-- what each of these lines is answered
abbrev pub replies_of : LastPlaces → List Asked → List Entry → List Reply
replies_of last [] entries = []
replies_of last (asked ∷ lines) entries =
    (told last asked entries).reply ∷ replies_of (told last asked entries).last lines (told last asked entries).left

-- the places that were opened and reserved last after these lines
abbrev pub last_of : LastPlaces → List Asked → List Entry → LastPlaces
last_of last [] entries = last
last_of last (asked ∷ lines) entries = last_of (told last asked entries).last lines (told last asked entries).left
