-- What receiving straight into the record in hand does.
use Rattle.std.specs.Prelude.{◌≡◌, ℕ, ◌<◌, ◌≤◌, false, List, [], length}
use Rattle.ldm_outside.specs.declared.io.Got.{Got}
use Rattle.ldm_outside.specs.declared.io.Got.TheVariants.{Bytes, End, Failed}
use Rattle.ldm_outside.specs.Link.{Gave, IsNotClosed, LinkRecord, RecvGives}
use Rattle.ldm_rpc.specs.Reading.{is_faulty}
use Rattle.ldm_rpc.specs.Streams.{Position, in_hand, records_in}
use Rattle.ldm_session.specs.declared.limits.TheConstants.{LONGEST_STREAM}
use Rattle.ldm_downstream.specs.declared.limits.TheConstants.{LONGEST_PIECE}

-- these bytes came, or none
abbrev pub Came : Got → List ℕ → LinkRecord → LinkRecord → Type 0
Came (Bytes n) bytes old new = (n ≡ length bytes) × (0 < n) × Gave old bytes new
Came End bytes old new = (bytes ≡ []) × RecvGives End [] old new
Came Failed bytes old new = (bytes ≡ []) × RecvGives Failed [] old new

-- what one call of a link did that brought these bytes, or none
pub record Receives (got : Got) (bytes : List ℕ) (old new : LinkRecord) : Type 0 where
  pub came : Came got bytes old new
  pub faults : old.faults ≤ new.faults
  pub ends : old.ends ≤ new.ends
  pub unclosed : IsNotClosed new

-- A reader goes on by the bytes that a link gave at once, or none. They complete no record, and more can be taken of the stream.
pub record Fills (got : Got) (p q : Position) (old new : LinkRecord) : Type 0 where
  pub bytes : List ℕ
  pub came : Came got bytes old new
  pub few : length bytes ≤ LONGEST_PIECE
  pub no_record : records_in p bytes ≡ []
  pub hand_is : q ≡ in_hand p bytes
  pub sound : is_faulty q.reading ≡ false
  pub below : q.came < LONGEST_STREAM
