-- What contracts see of the orders of a script.
use Rattle.std.specs.Prelude.{◌≡◌, ℕ, List, [], ◌∷◌, map, Option, Some, Result, Ok, Err}
use Rattle.std.specs.List.{All}
use Rattle.ldm_model.specs.declared.event.Event.TheVariants as event
use Rattle.ldm_script.specs.Order.{Order, Asked, Plain}
use Rattle.ldm_script.specs.Grammar.{read_line}
use Rattle.ldm_crowd.specs.declared.orders.OrdersFault.{OrdersFault}
use Rattle.ldm_crowd.specs.declared.orders.OrdersFault.TheVariants as fault
use Rattle.ldm_crowd.specs.Script.{by_actor, script_of}

-- a line that asks for something
abbrev pub IsOrder : ℕ → List ℕ → Type 0
IsOrder actors line = (order : Order) × (read_line actors line ≡ Ok (Some order))

-- what a line asks for, where it asks for something
abbrev pub asked_of_reading : Result (Option Order) ℕ → Asked
asked_of_reading (Ok (Some order)) = order.asked
asked_of_reading _ = Plain event.Stat

abbrev pub asked_in : ℕ → List ℕ → Asked
asked_in actors line = asked_of_reading (read_line actors line)

-- a fault of reading a text as a script of so many actors, where it comes
abbrev pub IsFaultOf : ℕ → List ℕ → OrdersFault → Type 0
IsFaultOf actors text (fault.BadLine line column) = script_of actors text ≡ Err (fault.BadLine line column)
IsFaultOf actors text fault.OutOfMemory = Unit {0}

-- The lines of an actor that ask for something, in order, and of how many actors the script is.
pub record ActorLinesView : Type 0 where
  pub actors : ℕ
  pub lines : List (List ℕ)

-- what they ask for
abbrev pub asked_lines : ActorLinesView → List Asked
asked_lines part = map (λ line. asked_in part.actors line) part.lines

-- the script that the lines of all actors are
abbrev pub script_in : List ActorLinesView → List (List Asked)
script_in parts = map asked_lines parts

-- these orders are dealt out to so many actors
pub record AreDealt (actors : ℕ) (orders : List Order) (parts : List ActorLinesView) : Type 0 where
  pub same : All (λ (part : ActorLinesView). part.actors ≡ actors) parts
  pub script : script_in parts ≡ by_actor actors orders

-- the order that a line is, where it is one
abbrev pub orders_of_reading : Result (Option Order) ℕ → List Order
orders_of_reading (Ok (Some order)) = order ∷ []
orders_of_reading _ = []

abbrev pub orders_in : ℕ → List ℕ → List Order
orders_in actors line = orders_of_reading (read_line actors line)

-- a fault of reading the line of that number, where it comes
abbrev pub IsFaultOfLine : ℕ → ℕ → List ℕ → OrdersFault → Type 0
IsFaultOfLine actors number line (fault.BadLine at column) = (at ≡ number) × (read_line actors line ≡ Err column)
IsFaultOfLine actors number line fault.OutOfMemory = Unit {0}
