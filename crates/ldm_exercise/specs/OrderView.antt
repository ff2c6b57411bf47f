-- The orders of an exercise that the program makes, as contracts see them.
use Rattle.std.specs.Prelude.{ℕ, ◌-◌, ◌^◌, ◌<◌, replicate}
use Rattle.ldm_model.specs.declared.event.Event.{Event}
use Rattle.ldm_model.specs.declared.event.Event.TheVariants as event
use Rattle.ldm_model.specs.declared.event.Start.TheVariants.{Oldest}
use Rattle.ldm_script.specs.Order.{Order, Asked, Plain, OnCursor}
use Rattle.ldm_script.specs.declared.order.Place.TheVariants.{At}
use Rattle.ldm_exercise.specs.declared.order.Request.{Request}
use Rattle.ldm_exercise.specs.declared.order.Request.TheVariants as request
use Rattle.ldm_exercise.specs.declared.order.Order.{Order as MadeOrder}
use Rattle.ldm_exercise.specs.declared.order.TheConstants.{BODY_LIMIT, READ_SIZE}

-- what an actor asks for with a request: of cursors that of its own number
abbrev pub asked_of : ℕ → Request → Asked
asked_of actor request.Open = Plain (event.OpenCursor (record { 0 = 2 ^ 32 - 1 }) Oldest)
asked_of actor (request.Insert info byte) = Plain (event.Insert info.arrival info (replicate info.size byte))
asked_of actor request.Step = OnCursor (At actor) (λ k. event.Step k)
asked_of actor request.Read = OnCursor (At actor) (λ k. event.Read k 0 READ_SIZE)
asked_of actor request.Release = OnCursor (At actor) (λ k. event.Release k)

abbrev pub order_of : MadeOrder → Order
order_of order = record { actor = order.actor; asked = asked_of order.actor order.request }

-- the event of a request
abbrev pub event_of : ℕ → Request → Event
event_of actor request.Open = event.OpenCursor (record { 0 = 2 ^ 32 - 1 }) Oldest
event_of actor (request.Insert info byte) = event.Insert info.arrival info (replicate info.size byte)
event_of actor request.Step = event.Step actor
event_of actor request.Read = event.Read actor 0 READ_SIZE
event_of actor request.Release = event.Release actor

-- a body that is inserted is below the limit
abbrev pub IsShort : Request → Type 0
IsShort (request.Insert info byte) = info.size < BODY_LIMIT
IsShort _ = Unit {0}
