-- A queue after its cursors were closed and its reservations given up.
use Rattle.std.specs.Prelude.{ℕ, ◌+◌, List, [], ◌∷◌, ◌++◌, replicate, Option, Some, None}
use Rattle.ldm_model.specs.declared.event.Entry.{Entry}
use Rattle.ldm_model.specs.declared.event.Event.TheVariants.{Close, Discard}
use Rattle.ldm_model.specs.declared.event.Reply.TheVariants.{Closed, Discarded}
use Rattle.ldm_model.specs.State.{State, Cursor, Reservation}

-- the state of which nothing is open any more
abbrev pub reopened : State → State
reopened s = record s { cursors = replicate 64 None; reservations = replicate 64 None }

-- each open cursor of these places, the first of which has that number, is closed by its owner
abbrev pub closes : ℕ → List (Option Cursor) → List Entry
closes k [] = []
closes k (None ∷ places) = closes (k + 1) places
closes k (Some cursor ∷ places) = record { actor = cursor.actor; event = Close k; reply = Closed } ∷ closes (k + 1) places

-- and each open reservation is given up by its owner
abbrev pub discards : ℕ → List (Option Reservation) → List Entry
discards r [] = []
discards r (None ∷ places) = discards (r + 1) places
discards r (Some reservation ∷ places) = record { actor = reservation.actor; event = Discard r; reply = Discarded } ∷ discards (r + 1) places

-- what is called so that nothing is open any more
abbrev pub closings : State → List Entry
closings s = closes 0 s.cursors ++ discards 0 s.reservations
