-- Committing a reservation, by five cases in this order: no reservation, not whole, a duplicate, no insertion time left,
-- committed. In the first two nothing changes; in the others the reservation ends.
use Rattle.std.specs.Prelude.{ℕ, nat_lt, Option, Some, None, if◌then◌else◌}
use Rattle.ldm_model.specs.declared.event.Reply.TheVariants as reply
use Rattle.ldm_model.specs.State.{State, Queued, Reservation, end_of, last_time, queued, queued_with}
use Rattle.ldm_model.specs.Outcome.{Outcome, unchanged}
use Rattle.ldm_model.specs.Insert.{admit, time_after, is_last}
use Rattle.ldm_model.specs.Reservation.{reservation_of, with_reservation, on_reservation, left_of, product_of}

-- the cases of no insertion time left, and committed: the product is admitted at the place where it was filled in
abbrev pub commit_new : State → ℕ → Reservation → Outcome
commit_new s now reservation =
    if is_last (last_time s)
    then unchanged s reply.TimeEnd
    else record { reply = reply.Committed (end_of s) (time_after (last_time s) now); state = admit s now (product_of reservation) (Some reservation.place) }

-- the case of a duplicate, and those behind it, in the state in which the reservation has ended
abbrev pub commit_whole : State → ℕ → Reservation → Option Queued → Outcome
commit_whole s now reservation (Some q) = unchanged s (reply.Duplicate q.number)
commit_whole s now reservation None = commit_new s now reservation

-- the case of a body that is not whole, and those behind it
abbrev pub commit_open : State → ℕ → ℕ → Reservation → Outcome
commit_open s r now reservation =
    if nat_lt 0 (left_of reservation)
    then unchanged s (reply.Unfilled (left_of reservation))
    else commit_whole (with_reservation s r None) now reservation (queued_with reservation.info.signature (queued s))

-- all five cases
unfoldable pub commit : State → ℕ → ℕ → ℕ → Outcome
commit s actor r now = on_reservation s (reservation_of s actor r) (commit_open s r now)
