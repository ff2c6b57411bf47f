-- What is asked for, as plain data.
use Rattle.std.specs.Prelude.{◌≡◌, ℕ, List, Option, None, option_map}
use Rattle.ldm_types.specs.declared.class.ClassSpec.{ClassSpec}
use Rattle.ldm_outside.specs.Dial.{Asked}
use Rattle.ldm_intake.specs.Opening.{requesting}
use Rattle.ldm_intake.specs.Receiving.{Receiving}
use Rattle.ldm_gather.specs.declared.limits.TheConstants.{ARENA, LARGEST_HEREIS, SLOTS}
use Rattle.ldm_gather.specs.declared.order.Asking.{Asking}
use Rattle.ldm_gather.specs.declared.order.Order.{Order}

-- Whom to ask for which products, for how many of them, and the sizes of the queue that they come into.
pub record OrderView : Type 0 where
  pub peer : Asked
  pub class : ClassSpec
  -- the signature of the last product that was received before, if one was
  pub last : Option (List ℕ)
  pub count : Option ℕ
  pub arena : ℕ
  pub slots : ℕ

abbrev pub order_view : Order → OrderView
order_view order = record {
  peer = record { host = order.host.now; port = order.port };
  class = order.class.now;
  last = option_map (λ signature. signature.0) order.last;
  count = order.count;
  arena = order.arena;
  slots = order.slots;
}

-- an order of all products, with a queue of the usual sizes
abbrev pub usual_order : Asked → ClassSpec → Option ℕ → OrderView
usual_order peer class count = record { peer = peer; class = class; last = None; count = count; arena = ARENA; slots = SLOTS }

-- what a peer is asked for: the products of the class, behind the last one
abbrev pub asks_for : OrderView → Receiving
asks_for order = requesting order.class order.last LARGEST_HEREIS

-- that order, and that name for its losses
pub record IsAsking (order : OrderView) (name : List ℕ) (asking : Asking) : Type 0 where
  pub is_order : order_view asking.order ≡ order
  pub is_name : asking.name.now ≡ name
