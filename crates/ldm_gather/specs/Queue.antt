-- A queue of one's own, with its only pass.
use Rattle.std.specs.Prelude.{◌≡◌, ℕ, ◌<◌, List, [], ◌∷◌, None, false}
use Rattle.std.specs.Vec.{vec_len}
use Rattle.ldm_model.specs.declared.event.Event.{Event}
use Rattle.ldm_model.specs.declared.event.Event.TheVariants as event
use Rattle.ldm_model.specs.declared.event.Start.TheVariants as start
use Rattle.ldm_model.specs.declared.event.Reply.TheVariants as reply
use Rattle.ldm_shared.specs.Passes.{IsPassOf, Makes, PassView, SharedView, entry_of, new_pass}
use Rattle.ldm_shared.specs.Reader.{HasCursor}
use Rattle.ldm_intake.specs.Opening.{request_of}
use Rattle.ldm_relay.specs.Spelling.{records_of}
use Rattle.ldm_downstream.specs.ReceiverView.{before_stream}
use Rattle.ldm_gather.specs.declared.gatherer.Gatherer.{Gatherer}
use Rattle.ldm_gather.specs.declared.limits.TheConstants.{EVERY_FEEDTYPE, PASSES}
use Rattle.ldm_gather.specs.Orders.{OrderView, asks_for, order_view}

-- Before its first call: it is as large as the order says.
pub record IsNewQueue (order : OrderView) (queue : SharedView) (pass : PassView) : Type 0 where
  pub arena : queue.arena ≡ order.arena
  pub slots : queue.slots ≡ order.slots
  pub passes : queue.passes ≡ PASSES
  pub first : pass ≡ new_pass queue 0

-- a cursor for all feedtypes, from the oldest product on
abbrev pub opening : Event
opening = event.OpenCursor (record { 0 = EVERY_FEEDTYPE }) start.Oldest

-- A queue was made, as large as the order says, and a cursor of it was opened at that place.
pub record Opens (order : OrderView) (k : ℕ) (pass : PassView) : Type 0 where
  pub queue : SharedView
  pub arena : queue.arena ≡ order.arena
  pub slots : queue.slots ≡ order.slots
  pub passes : queue.passes ≡ PASSES
  pub opened : Makes (new_pass queue 0) pass (entry_of (new_pass queue 0) opening (reply.Opened k) ∷ [])

-- It has its cursor, and the request that it begins with is owed.
pub record IsOpen (it : Gatherer) : Type 0 where
  pub of : IsPassOf it.shared it.pass
  pub cursor : HasCursor it.pass it.reader.k None
  pub receiver : it.receiver ≡ before_stream (asks_for (order_view it.order)) false
  pub owed : it.buffers.out.items ≡ records_of (request_of (asks_for (order_view it.order)))
  pub no_notes : it.buffers.notes.items ≡ []
  pub room : 0 < vec_len it.buffers.piece
