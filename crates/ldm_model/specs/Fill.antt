-- Filling bytes into a reserved region, and giving a reservation up.
use Rattle.std.specs.Prelude.{ℕ, nat_lt, List, length, Some, None, if◌then◌else◌}
use Rattle.ldm_model.specs.declared.event.Reply.TheVariants as reply
use Rattle.ldm_model.specs.State.{State, Reservation}
use Rattle.ldm_model.specs.Outcome.{Outcome, unchanged}
use Rattle.ldm_model.specs.Reservation.{reservation_of, with_reservation, on_reservation, with_bytes, left_of}

-- no more bytes than are left
abbrev pub fill_open : State → ℕ → List ℕ → Reservation → Outcome
fill_open s r bytes reservation =
    if nat_lt (left_of reservation) (length bytes)
    then unchanged s (reply.Overfill (left_of reservation))
    else record { reply = reply.Filled (left_of (with_bytes bytes reservation)); state = with_reservation s r (Some (with_bytes bytes reservation)) }

unfoldable pub fill : State → ℕ → ℕ → List ℕ → Outcome
fill s actor r bytes = on_reservation s (reservation_of s actor r) (fill_open s r bytes)

-- the place is empty then, and the region is free
unfoldable pub discard : State → ℕ → ℕ → Outcome
discard s actor r =
    on_reservation s (reservation_of s actor r) (λ reservation. record { reply = reply.Discarded; state = with_reservation s r None })
