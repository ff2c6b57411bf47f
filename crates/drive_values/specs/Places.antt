-- What a reader within a stream, and the records that came out of it, are in the terms of the records of a stream.
use Rattle.std.specs.Prelude.{◌≡◌, ℕ, List, ◌++◌, map}
use Rattle.ldm_rpc.specs.declared.fault.RpcFault.{RpcFault}
use Rattle.ldm_rpc.specs.declared.fault.RpcFault.TheVariants.{TooLong, OutOfMemory}
use Rattle.ldm_rpc.specs.Streams.{Position, Placed, in_hand, records_in}
use Rattle.drive_values.specs.declared.records.places.Found.{Found}
use Rattle.drive_values.specs.declared.records.places.Stream.{Stream}

abbrev pub position_of : Stream → Position
position_of stream = record { reading = stream.records; begins = stream.begins; came = stream.came }

abbrev pub placed_of : Found → Placed
placed_of found = record { at = found.at; content = found.content.items }

abbrev pub all_of : List Found → List Placed
all_of found = map placed_of found

-- A stream ends by a fault. Where a record is too long, the records before it came out, and it begins where the reader says.
abbrev pub EndsBy : RpcFault → Stream → Stream → List Placed → List Placed → List ℕ → Type 0
EndsBy (TooLong at) old new before out piece =
    (out ≡ before ++ records_in (position_of old) piece) × ((in_hand (position_of old) piece).reading ≡ new.records) × ((in_hand (position_of old) piece).begins ≡ new.begins)
EndsBy OutOfMemory old new before out piece = Unit {0}
