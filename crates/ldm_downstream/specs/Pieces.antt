-- A stream that comes in pieces: which records they complete, and when.
use Rattle.std.specs.Prelude.{ℕ, ◌-◌, List, [], ◌∷◌, ◌++◌, take, map}
use Rattle.std.specs.List.{flat_map}
use Rattle.ldm_relay.specs.declared.message.TheConstants.{LARGEST_RECORD}
use Rattle.ldm_rpc.specs.Streams.{Position, Placed, at_start, records_in, in_hand}
use Rattle.ldm_intake.specs.Taken.{Arrival}
use Rattle.ldm_session.specs.declared.limits.TheConstants.{LONGEST_STREAM}

-- A piece of a stream: the moment at which it came, and its bytes.
pub record Piece : Type 0 where
  pub now : ℕ
  pub bytes : List ℕ

-- the bytes of pieces, joined
abbrev pub joined : List Piece → List ℕ
joined pieces = flat_map (λ (piece : Piece). piece.bytes) pieces

-- before the first byte of a stream
abbrev pub beginning : Position
beginning = at_start LARGEST_RECORD

-- what is taken of bytes that come: all, up to the limit of a stream
abbrev pub within : Position → List ℕ → List ℕ
within p bytes = take (LONGEST_STREAM - p.came) bytes

-- records that were complete at a moment
abbrev pub arrived : ℕ → List Placed → List Arrival
arrived now records = map (λ (placed : Placed). record { now = now; at = placed.at; content = placed.content }) records

-- the records that pieces complete, in order, each at the moment of the piece that has its last byte
unfoldable pub arrivals : Position → List Piece → List Arrival
arrivals p [] = []
arrivals p (piece ∷ pieces) = arrived piece.now (records_in p (within p piece.bytes)) ++ arrivals (in_hand p (within p piece.bytes)) pieces

-- what is in hand behind pieces
unfoldable pub hand : Position → List Piece → Position
hand p [] = p
hand p (piece ∷ pieces) = hand (in_hand p (within p piece.bytes)) pieces
