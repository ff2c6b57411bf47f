-- The reservation places of a queue.
use Rattle.std.specs.Prelude.{ℕ, ◌-◌, ◌==◌, ◌++◌, List, [], set, slice_index_or, length, Option, Some, None, if◌then◌else◌}
use Rattle.ldm_types.specs.Info.{Metadata}
use Rattle.ldm_model.specs.Product.{Product}
use Rattle.ldm_model.specs.State.{State, Reservation}
use Rattle.ldm_model.specs.Outcome.{Outcome, unchanged}
use Rattle.ldm_model.specs.declared.event.Reply.TheVariants as reply

-- the reservation of a place, if it is open
abbrev pub reservation_at : State → ℕ → Option Reservation
reservation_at s r = slice_index_or s.reservations r None

-- the state with a place changed
abbrev pub with_reservation : State → ℕ → Option Reservation → State
with_reservation s r place = record s { reservations = set s.reservations r place }

-- a reservation, where it is the actor's
abbrev pub if_reserved_by : ℕ → Option Reservation → Option Reservation
if_reserved_by actor None = None
if_reserved_by actor (Some reservation) = if reservation.actor == actor then Some reservation else None

-- the actor's reservation at a place, if it has one there
abbrev pub reservation_of : State → ℕ → ℕ → Option Reservation
reservation_of s actor r = if_reserved_by actor (reservation_at s r)

-- what an event on a reservation does, if the actor has a reservation there
abbrev pub on_reservation : State → Option Reservation → (Reservation → Outcome) → Outcome
on_reservation s None act = unchanged s reply.NoReservation
on_reservation s (Some reservation) act = act reservation

-- a reservation with no byte of the body yet
abbrev pub new_reservation : ℕ → Metadata → ℕ → Reservation
new_reservation actor info place = record { actor = actor; info = info; place = place; filled = [] }

-- a reservation with these bytes behind those that it has
abbrev pub with_bytes : List ℕ → Reservation → Reservation
with_bytes bytes reservation = record reservation { filled = reservation.filled ++ bytes }

-- how many bytes of the body are left
abbrev pub left_of : Reservation → ℕ
left_of reservation = reservation.info.size - length reservation.filled

-- the product that a reservation becomes
abbrev pub product_of : Reservation → Product
product_of reservation = record { info = reservation.info; body = reservation.filled }
