-- Orders, one after another, on a queue: `.` becomes the cursor that the actor opened last, or its last reservation.
use Rattle.std.specs.Prelude.{ℕ, List, [], ◌∷◌, ◌++◌, set, slice_index_or, replicate, Option, Some, None, option_map}
use Rattle.ldm_model.specs.declared.event.Event.{Event}
use Rattle.ldm_model.specs.declared.event.Reply.{Reply}
use Rattle.ldm_model.specs.declared.event.Reply.TheVariants as reply
use Rattle.ldm_model.specs.declared.event.Entry.{Entry}
use Rattle.ldm_model.specs.State.{State, empty}
use Rattle.ldm_model.specs.Outcome.{Outcome}
use Rattle.ldm_model.specs.Next.{next}
use Rattle.ldm_script.specs.declared.order.LastPlaces.{LastPlaces}
use Rattle.ldm_script.specs.declared.order.Place.TheVariants.{At, Last}
use Rattle.ldm_script.specs.declared.order.ReservePlace.TheVariants as reserve_place
use Rattle.ldm_script.specs.Order.{Order, Asked, Plain, OnCursor, OnReservation}

-- no cursor was opened and no region reserved yet
abbrev pub no_places : LastPlaces
no_places = record { opened = None; reserved = None }

-- A queue in a play: its state, for each of the 64 actors the places that it was last answered `opened` and `reserved`, and the
-- calls so far with their replies.
pub record Playing : Type 0 where
  pub state : State
  pub last : List LastPlaces
  pub history : List Entry

-- a new queue
abbrev pub new_play : ℕ → ℕ → Playing
new_play arena slots = record { state = empty arena slots; last = replicate 64 no_places; history = [] }

-- The event that is asked for, by the places that the actor was last answered `opened` and `reserved`. None where `.` names no
-- place yet.
abbrev pub resolved : LastPlaces → Asked → Option Event
resolved last (Plain event) = Some event
resolved last (OnCursor (At k) event) = Some (event k)
resolved last (OnCursor Last event) = option_map event last.opened
resolved last (OnReservation (reserve_place.At r) event) = Some (event r)
resolved last (OnReservation reserve_place.Last event) = option_map event last.reserved

-- what is answered where `.` names no place yet
abbrev pub unresolved : Asked → Reply
unresolved (OnReservation place event) = reply.NoReservation
unresolved _ = reply.NoCursor

-- the places that an actor was last answered, after a reply to it
abbrev pub last_after : LastPlaces → Reply → LastPlaces
last_after last (reply.Opened k) = record last { opened = Some k }
last_after last (reply.Reserved r evicted) = record last { reserved = Some r }
last_after last _ = last

-- those of all actors, after one was answered
abbrev pub after_reply : List LastPlaces → ℕ → Reply → List LastPlaces
after_reply last actor reply = set last actor (last_after (slice_index_or last actor no_places) reply)

-- what an order is answered, and the play that follows
pub record Answered : Type 0 where
  pub reply : Reply
  pub playing : Playing

abbrev pub after_outcome : Playing → ℕ → Event → Outcome → Answered
after_outcome p actor event outcome = record {
  reply = outcome.reply;
  playing = record {
    state = outcome.state;
    last = after_reply p.last actor outcome.reply;
    history = p.history ++ record { actor = actor; event = event; reply = outcome.reply } ∷ [];
  };
}

-- without an event nothing changes
abbrev pub answer_event : Playing → ℕ → Reply → Option Event → Answered
answer_event p actor without None = record { reply = without; playing = p }
answer_event p actor without (Some event) = after_outcome p actor event (next p.state actor event)

abbrev pub answer_order : Playing → Order → Answered
answer_order p order = answer_event p order.actor (unresolved order.asked) (resolved (slice_index_or p.last order.actor no_places) order.asked)
