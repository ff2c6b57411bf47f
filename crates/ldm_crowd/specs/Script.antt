-- The script of a crowd: what each actor asks for.
use Rattle.std.specs.Prelude.{ℕ, ◌+◌, ◌==◌, List, [], ◌∷◌, map, filter, Option, Some, None, Result, Ok, Err}
use Rattle.std.specs.List.{range_with_len}
use Rattle.ldm_script.specs.Lines.{lines_of}
use Rattle.ldm_script.specs.Order.{Order, Asked}
use Rattle.ldm_script.specs.Grammar.{read_line}
use Rattle.ldm_crowd.specs.declared.orders.OrdersFault.{OrdersFault}
use Rattle.ldm_crowd.specs.declared.orders.OrdersFault.TheVariants as fault

-- a line of that number, by what it was read as, and what stands behind it
abbrev pub with_line : ℕ → Result (Option Order) ℕ → Result (List Order) OrdersFault → Result (List Order) OrdersFault
with_line number (Err column) behind = Err (fault.BadLine number column)
with_line number (Ok None) behind = behind
with_line number (Ok (Some order)) (Ok orders) = Ok (order ∷ orders)
with_line number (Ok (Some order)) (Err fault) = Err fault

-- The orders in these lines, of which the first has that number; or the first line outside the grammar, with the column of its
-- first fault.
abbrev pub orders_from : ℕ → ℕ → List (List ℕ) → Result (List Order) OrdersFault
orders_from actors number [] = Ok []
orders_from actors number (line ∷ lines) = with_line number (read_line actors line) (orders_from actors (number + 1) lines)

-- the orders of an actor, in order
abbrev pub asked_by : ℕ → List Order → List Asked
asked_by actor orders = map (λ (order : Order). order.asked) (filter (λ (order : Order). order.actor == actor) orders)

-- the orders of each of so many actors
abbrev pub by_actor : ℕ → List Order → List (List Asked)
by_actor actors orders = map (λ actor. asked_by actor orders) (range_with_len 0 actors)

abbrev pub dealt : ℕ → Result (List Order) OrdersFault → Result (List (List Asked)) OrdersFault
dealt actors (Ok orders) = Ok (by_actor actors orders)
dealt actors (Err fault) = Err fault

-- What a text is as a script of so many actors: for each actor what it asks for, in order; or its first line outside the grammar.
-- Lines are numbered from 1.
abbrev pub script_of : ℕ → List ℕ → Result (List (List Asked)) OrdersFault
script_of actors text = dealt actors (orders_from actors 1 (lines_of text))
