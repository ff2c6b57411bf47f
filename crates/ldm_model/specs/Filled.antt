-- What the entries of a history fill into a reservation, and which of them ends it.
use Rattle.std.specs.Prelude.{ℕ, ◌==◌, Bool, false, ◌&&◌, List, [], ◌∷◌, ◌++◌, if◌then◌else◌}
use Rattle.ldm_model.specs.declared.event.Event.{Event}
use Rattle.ldm_model.specs.declared.event.Event.TheVariants.{Fill, Commit, Discard}
use Rattle.ldm_model.specs.declared.event.Reply.{Reply}
use Rattle.ldm_model.specs.declared.event.Reply.TheVariants.{Filled, Committed, Duplicate, TimeEnd, Discarded}
use Rattle.ldm_model.specs.declared.event.Entry.{Entry}

-- the bytes that a call fills into the reservation of a place
abbrev pub bytes_of_fill : ℕ → Event → Reply → List ℕ
bytes_of_fill r (Fill q bytes) (Filled left) = if q == r then bytes else []
bytes_of_fill r _ _ = []

-- the bytes that an entry fills into an actor's reservation
abbrev pub bytes_of_entry : ℕ → ℕ → Entry → List ℕ
bytes_of_entry actor r entry = if entry.actor == actor then bytes_of_fill r entry.event entry.reply else []

-- the bytes that entries fill into it, joined in order
abbrev pub bytes_filled : ℕ → ℕ → List Entry → List ℕ
bytes_filled actor r [] = []
bytes_filled actor r (entry ∷ entries) = bytes_of_entry actor r entry ++ bytes_filled actor r entries

-- whether a call ends the reservation of a place
abbrev pub ends_place : ℕ → Event → Reply → Bool
ends_place r (Discard q) Discarded = q == r
ends_place r (Commit q now) (Committed n time) = q == r
ends_place r (Commit q now) (Duplicate n) = q == r
ends_place r (Commit q now) TimeEnd = q == r
ends_place r _ _ = false

-- whether an entry ends an actor's reservation
abbrev pub ends : ℕ → ℕ → Entry → Bool
ends actor r entry = entry.actor == actor && ends_place r entry.event entry.reply
