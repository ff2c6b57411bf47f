-- Inserting a product, by five cases in this order: larger than the arena, a duplicate, no insertion time
-- left, locked, admitted. In the first four nothing changes.
use Rattle.std.specs.Prelude.{ℕ, ◌+◌, Bool, false, nat_lt, nat_le, [], ◌∷◌, ◌++◌, length, take, max, Option, Some, None, if◌then◌else◌}
use Rattle.std.specs.List.{find, range_with_len}
use Rattle.ldm_types.specs.declared.limits.TheConstants.{GREATEST_INSTANT}
use Rattle.ldm_model.specs.declared.event.Reply.TheVariants.{Admitted, TooBig, Duplicate, TimeEnd, Locked}
use Rattle.ldm_model.specs.Product.{Product, extent_of}
use Rattle.ldm_model.specs.State.{State, Queued, end_of, last_time, queued, queued_with}
use Rattle.ldm_model.specs.Room.{fit_in, has_room}
use Rattle.ldm_model.specs.Outcome.{Outcome, unchanged}
use Rattle.ldm_model.specs.Evict.{count_held, unheld, evict_all}

-- the state after the first j of the rows that nobody holds are evicted
abbrev pub after_evicting : State → ℕ → State
after_evicting s j = evict_all s (take j (unheld s))

-- the least number of the oldest rows that nobody holds after whose eviction there is room
abbrev pub evictions : State → ℕ → Option ℕ
evictions s need = find (λ j. has_room (after_evicting s j) need) (range_with_len 0 (length (unheld s) + 1))

-- the insertion time: now, and later than the last one
abbrev pub time_after : Option ℕ → ℕ → ℕ
time_after None now = now
time_after (Some last) now = max now (last + 1)

-- the state with a product admitted at a place, at the moment `now`
abbrev pub admit : State → ℕ → Product → Option ℕ → State
admit s now p place = record s { rows = s.rows ++ record { product = p; time = time_after (last_time s) now; place = place } ∷ [] }

-- admitted at the best fit, after so many evictions led to this state
abbrev pub admitted : State → ℕ → Product → ℕ → Outcome
admitted s now p evicted = record {
  reply = Admitted (end_of s) (time_after (last_time s) now) evicted;
  state = admit s now p (fit_in s (extent_of p.info));
}

-- the cases locked and admitted
abbrev pub insert_by_evictions : State → ℕ → Product → Option ℕ → Outcome
insert_by_evictions s now p None = unchanged s (Locked (count_held s))
insert_by_evictions s now p (Some j) = admitted (after_evicting s j) now p j

abbrev pub is_last : Option ℕ → Bool
is_last None = false
is_last (Some last) = nat_le GREATEST_INSTANT last

-- the case of no insertion time left, and those behind it
abbrev pub insert_new : State → ℕ → Product → Outcome
insert_new s now p =
    if is_last (last_time s) then unchanged s TimeEnd else insert_by_evictions s now p (evictions s (extent_of p.info))

-- the case of a duplicate, and those behind it
abbrev pub insert_fitting : State → ℕ → Product → Option Queued → Outcome
insert_fitting s now p (Some q) = unchanged s (Duplicate q.number)
insert_fitting s now p None = insert_new s now p

-- all five cases
unfoldable pub insert : State → ℕ → Product → Outcome
insert s now p =
    if nat_lt s.arena (extent_of p.info)
    then unchanged s (TooBig (extent_of p.info) s.arena)
    else insert_fitting s now p (queued_with p.info.signature (queued s))
