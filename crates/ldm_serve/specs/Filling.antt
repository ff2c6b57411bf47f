-- What receiving straight into the record in hand does.
use Rattle.std.specs.Prelude.{◌≡◌, ℕ, ◌+◌, ◌≤◌, false, List, length}
use Rattle.ldm_outside.specs.declared.io.Got.{Got}
use Rattle.ldm_outside.specs.Link.{LinkRecord}
use Rattle.ldm_rpc.specs.Reading.{after, bytes_taken, is_faulty, is_whole}
use Rattle.ldm_rpc.specs.Streams.{Position}
use Rattle.ldm_downstream.specs.declared.limits.TheConstants.{LONGEST_PIECE}
use Rattle.ldm_downstream.specs.Filling.{Receives}

-- A reader goes on by the bytes that a link gave, so many at most and no more than are received at once, and the record in hand is not complete behind them.
pub record Fills (got : Got) (room : ℕ) (p q : Position) (old new : LinkRecord) : Type 0 where
  pub bytes : List ℕ
  pub ready : is_whole p.reading ≡ false
  pub receives : Receives got bytes old new
  pub few : length bytes ≤ room
  pub small : length bytes ≤ LONGEST_PIECE
  pub taken : length bytes ≡ bytes_taken p.reading bytes
  pub hand_is : q ≡ record { reading = after p.reading bytes; begins = p.begins; came = p.came + length bytes }
  pub unended : is_whole q.reading ≡ false
  pub sound : is_faulty q.reading ≡ false
