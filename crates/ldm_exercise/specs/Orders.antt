-- The script of an exercise, as orders.
use Rattle.std.specs.Prelude.{ℕ, zero, suc, ◌+◌, ◌-◌, ◌/◌, ◌%◌, ◌^◌, ◌==◌, nat_lt, List, [], ◌∷◌, ◌++◌, codes, replicate, if◌then◌else◌}
use Rattle.std.specs.Int.{w32, to_be_bytes}
use Rattle.ldm_types.specs.Info.{Metadata}
use Rattle.ldm_model.specs.declared.event.Event.TheVariants as event
use Rattle.ldm_model.specs.declared.event.Start.TheVariants.{Oldest}
use Rattle.ldm_script.specs.Order.{Order, Asked, Plain, OnCursor}
use Rattle.ldm_script.specs.declared.order.Place.TheVariants.{At}
use Rattle.ldm_exercise.specs.Draws.{after_draw, drawn}

-- `A open ANY oldest`
abbrev pub opening : ℕ → Order
opening actor = record { actor = actor; asked = Plain (event.OpenCursor (record { 0 = 2 ^ 32 - 1 }) Oldest) }

-- the actors from 0 to 3 open a cursor each
abbrev pub openings : List Order
openings = opening 0 ∷ opening 1 ∷ opening 2 ∷ opening 3 ∷ []

-- the metadata of the product that order i inserts, where s and d are drawn
abbrev pub info_drawn : ℕ → ℕ → ℕ → Metadata
info_drawn i s d = record {
  arrival = 1000000 + i;
  signature = replicate 12 0 ++ to_be_bytes w32 (d % 1024);
  origin = codes "h";
  feed = 2 ^ (d / 1024 % 32);
  seqno = i;
  ident = codes "x";
  size = s % 40000;
}

-- its body, of bytes that are all the same
abbrev pub body_drawn : ℕ → ℕ → List ℕ
body_drawn s d = replicate (s % 40000) (d % 256)

abbrev pub inserting : ℕ → ℕ → ℕ → Asked
inserting i s d = Plain (event.Insert (1000000 + i) (info_drawn i s d) (body_drawn s d))

-- an order that was drawn, and the state of the generator after it
pub record Drawn : Type 0 where
  pub order : Order
  pub state : ℕ

-- what an actor asks for in order i, by its choice, and the state of the generator after both were drawn
abbrev pub order_chosen : ℕ → ℕ → ℕ → ℕ → Drawn
order_chosen i actor choice x =
    if nat_lt choice 3 then record {
      order = record { actor = actor; asked = inserting i (drawn x) (drawn (after_draw x)) };
      state = after_draw (after_draw x);
    }
    else if nat_lt choice 5 then record { order = record { actor = actor; asked = OnCursor (At actor) (λ k. event.Step k) }; state = x }
    else if choice == 5 then record { order = record { actor = actor; asked = OnCursor (At actor) (λ k. event.Read k 0 64) }; state = x }
    else record { order = record { actor = actor; asked = OnCursor (At actor) (λ k. event.Release k) }; state = x }

-- order i, from a state of the generator on
unfoldable pub order_drawn : ℕ → ℕ → Drawn
order_drawn i x = order_chosen i (drawn x % 4) (drawn x / 4 % 8) (after_draw x)

-- the first orders that are drawn, and the state of the generator after them
pub record AllDrawn : Type 0 where
  pub orders : List Order
  pub state : ℕ

-- with order i behind those before it
abbrev pub with_next : ℕ → AllDrawn → AllDrawn
with_next i all = record { orders = all.orders ++ (order_drawn i all.state).order ∷ []; state = (order_drawn i all.state).state }

-- the first so many, from a number on
abbrev pub orders_drawn : ℕ → ℕ → AllDrawn
orders_drawn number zero = record { orders = []; state = number }
orders_drawn number (suc i) = with_next i (orders_drawn number i)

-- the script of `exercise NUMBER COUNT`
abbrev pub script : ℕ → ℕ → List Order
script number count = openings ++ (orders_drawn number count).orders
