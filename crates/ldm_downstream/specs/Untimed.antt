-- Records, whenever they came.
use Rattle.std.specs.Prelude.{List, map}
use Rattle.ldm_rpc.specs.Streams.{Placed}
use Rattle.ldm_intake.specs.Taken.{Arrival}

-- the places and contents of records that came
abbrev pub untimed : List Arrival → List Placed
untimed arrivals = map (λ (arrival : Arrival). record { at = arrival.at; content = arrival.content }) arrivals
