-- What contracts see of what reads the calls of a connection.
use Rattle.std.specs.Prelude.{◌≡◌, false}
use Rattle.ldm_relay.specs.declared.message.TheConstants.{LARGEST_RECORD}
use Rattle.ldm_rpc.specs.Reading.{is_whole}
use Rattle.ldm_rpc.specs.Streams.{Position, at_start}
use Rattle.ldm_serve.specs.declared.serving.Serving.TheInside.{Inside}

-- what is in hand of its stream
abbrev pub position_of : Inside → Position
position_of s = record { reading = s.records; begins = s.begins; came = s.came }

-- no record is complete and not forgotten
abbrev pub IsReady : Inside → Type 0
IsReady s = is_whole s.records ≡ false

-- before the first byte of a connection
abbrev pub beginning : Position
beginning = at_start LARGEST_RECORD
