-- What a reader has in hand, by the bytes of the stream: the front of a record, a whole record, or one that is too
-- long.
use Rattle.std.specs.Prelude.{◌≡◌, ℕ, ◌+◌, ◌*◌, ◌<◌, ◌≤◌, List, ◌++◌, length, fold, Bool, All}
use Rattle.std.specs.List.{flat_map}
use Rattle.ldm_types.specs.Info.{AreBytes}
use Rattle.ldm_rpc.specs.declared.fault.RpcFault.{RpcFault}
use Rattle.ldm_rpc.specs.declared.fault.RpcFault.TheVariants.{TooLong, OutOfMemory}
use Rattle.ldm_rpc.specs.declared.stage.Stage.{Stage}
use Rattle.ldm_rpc.specs.declared.stage.Stage.TheVariants.{Header, Fragment, Whole, Faulty}
use Rattle.ldm_rpc.specs.declared.stage.TheConstants.{LAST_FRAGMENT}
use Rattle.ldm_rpc.specs.Reading.{Reading, place}
use Rattle.ldm_rpc.specs.Spelling.{Record, Fits, IsShort, content, fragments, header, joined, spelling}
use Rattle.ldm_rpc.specs.Streams.{Position, Placed, placed}

-- bytes as a number, the highest first
abbrev pub number_of : List ℕ → ℕ
number_of bytes = fold (λ n byte. n * 256 + byte) 0 bytes

-- whole fragments, and fewer than four bytes of a header
pub record IsInHeader (s : Reading) (came number : ℕ) (bytes : List ℕ) : Type 0 where
  pub before : List (List ℕ)
  pub part : List ℕ
  pub spelled : bytes ≡ fragments before ++ part
  pub short : All IsShort before
  pub came_is : came ≡ length part
  pub few : length part < 4
  pub number_is : number ≡ number_of part
  pub part_bytes : AreBytes part
  pub content_is : s.content ≡ joined before
  pub within : length (joined before) ≤ s.limit
  pub place_is : s.next_header_at ≡ place (length (fragments before))

-- whole fragments, a header, and fewer bytes than it announces, for all of which the limit has room
pub record IsInFragment (s : Reading) (left : ℕ) (last : Bool) (bytes : List ℕ) : Type 0 where
  pub before : List (List ℕ)
  pub part : List ℕ
  pub spelled : bytes ≡ fragments before ++ (header last (length part + left) ++ part)
  pub short : All IsShort before
  pub more : 0 < left
  pub len : length part + left < LAST_FRAGMENT
  pub content_is : s.content ≡ joined before ++ part
  pub within : length (joined before) + (length part + left) ≤ s.limit
  pub place_is : s.next_header_at ≡ place (length (fragments before) + 4 + (length part + left))

-- a whole record
pub record IsRecord (s : Reading) (bytes : List ℕ) : Type 0 where
  pub of : Record
  pub fits : Fits s.limit of
  pub spelled : bytes ≡ spelling of
  pub content_is : s.content ≡ content of

-- whole fragments, and a header that announces more than the limit has room for
pub record IsTooLong (s : Reading) (at : ℕ) (bytes : List ℕ) : Type 0 where
  pub before : List (List ℕ)
  pub last : Bool
  pub len : ℕ
  pub more : List ℕ
  pub spelled : bytes ≡ fragments before ++ (header last len ++ more)
  pub short : All IsShort before
  pub len_short : len < LAST_FRAGMENT
  pub within : length (joined before) ≤ s.limit
  pub beyond : s.limit < length (joined before) + len
  pub place_is : at ≡ place (length (fragments before))

abbrev pub IsRefused : RpcFault → Reading → List ℕ → Type 0
IsRefused (TooLong at) s bytes = IsTooLong s at bytes
IsRefused OutOfMemory s bytes = ⊥

abbrev pub IsFrontAt : Stage → Reading → List ℕ → Type 0
IsFrontAt (Header came number) s bytes = IsInHeader s came number bytes
IsFrontAt (Fragment left last) s bytes = IsInFragment s left last bytes
IsFrontAt Whole s bytes = IsRecord s bytes
IsFrontAt (Faulty fault) s bytes = IsRefused fault s bytes

-- what the bytes of the record in hand are
abbrev pub IsFront : Reading → List ℕ → Type 0
IsFront s bytes = IsFrontAt s.stage s bytes

-- A stream is records, one behind the other from a place on, and then what a reader has in hand. These records come out,
-- each with its place, and the one in hand begins behind them.
pub record Splits (limit at : ℕ) (stream : List ℕ) (out : List Placed) (p : Position) : Type 0 where
  pub records : List Record
  pub front : List ℕ
  pub spelled : stream ≡ flat_map spelling records ++ front
  pub fits : All (Fits limit) records
  pub out_is : out ≡ placed at records
  pub begins_is : p.begins ≡ at + length (flat_map spelling records)
  pub came_is : p.came ≡ at + length stream
  pub front_is : IsFront p.reading front
