-- Reserving a region, by five cases in this order: larger than the arena, a duplicate, all places taken, locked, reserved. In
-- the first four nothing changes.
use Rattle.std.specs.Prelude.{ℕ, nat_lt, Option, Some, None, if◌then◌else◌}
use Rattle.std.specs.Option.{option_map}
use Rattle.ldm_types.specs.Info.{Metadata}
use Rattle.ldm_model.specs.declared.event.Reply.TheVariants.{TooBig, Duplicate, AllReserved, Locked, Reserved}
use Rattle.ldm_model.specs.Product.{extent_of}
use Rattle.ldm_model.specs.State.{State, Queued, queued, queued_with}
use Rattle.ldm_model.specs.Room.{fit_in}
use Rattle.ldm_model.specs.Outcome.{Outcome, unchanged}
use Rattle.ldm_model.specs.Evict.{count_held}
use Rattle.ldm_model.specs.Cursor.{least_empty}
use Rattle.ldm_model.specs.Insert.{after_evicting, evictions}
use Rattle.ldm_model.specs.Reservation.{with_reservation, new_reservation}

-- the state with a reservation at the best fit
abbrev pub with_reserved : State → ℕ → Metadata → ℕ → State
with_reserved s actor info r = with_reservation s r (option_map (new_reservation actor info) (fit_in s (extent_of info)))

-- the cases locked and reserved
abbrev pub reserve_by_evictions : State → ℕ → Metadata → ℕ → Option ℕ → Outcome
reserve_by_evictions s actor info r None = unchanged s (Locked (count_held s))
reserve_by_evictions s actor info r (Some j) = record {
  reply = Reserved r j;
  state = with_reserved (after_evicting s j) actor info r;
}

-- the case of all places taken, and those behind it
abbrev pub reserve_at : State → ℕ → Metadata → Option ℕ → Outcome
reserve_at s actor info None = unchanged s AllReserved
reserve_at s actor info (Some r) = reserve_by_evictions s actor info r (evictions s (extent_of info))

-- the case of a duplicate, and those behind it
abbrev pub reserve_fitting : State → ℕ → Metadata → Option Queued → Outcome
reserve_fitting s actor info (Some q) = unchanged s (Duplicate q.number)
reserve_fitting s actor info None = reserve_at s actor info (least_empty s.reservations)

-- all five cases
unfoldable pub reserve : State → ℕ → Metadata → Outcome
reserve s actor info =
    if nat_lt s.arena (extent_of info)
    then unchanged s (TooBig (extent_of info) s.arena)
    else reserve_fitting s actor info (queued_with info.signature (queued s))
