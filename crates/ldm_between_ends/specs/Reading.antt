-- Calls that only read: they change cursor places, and leave all products and reservations of a queue as they are.
use Rattle.std.specs.Prelude.{◌≡◌, Bool, true, false}
use Rattle.ldm_model.specs.declared.event.Event.{Event}
use Rattle.ldm_model.specs.declared.event.Event.TheVariants.{OpenCursor, Step, Read, Release, Close}
use Rattle.ldm_model.specs.declared.event.Entry.{Entry}
use Rattle.ldm_model.specs.State.{State}

abbrev pub is_reading : Event → Bool
is_reading (OpenCursor feed start) = true
is_reading (Step k) = true
is_reading (Read k offset len) = true
is_reading (Release k) = true
is_reading (Close k) = true
is_reading _ = false

abbrev pub OnlyReads : Entry → Type 0
OnlyReads entry = is_reading entry.event ≡ true

-- All is as it was, but for cursor places.
pub record KeepsProducts (old new : State) : Type 0 where
  pub arena : new.arena ≡ old.arena
  pub slots : new.slots ≡ old.slots
  pub rows : new.rows ≡ old.rows
  pub reservations : new.reservations ≡ old.reservations
