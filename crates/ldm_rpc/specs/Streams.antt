-- The records that come out of a stream, each with its place, and what is in hand of the next one.
use Rattle.std.specs.Prelude.{ℕ, ◌+◌, List, [], ◌∷◌, ◌++◌, length, if◌then◌else◌}
use Rattle.ldm_rpc.specs.Reading.{Reading, after_byte, begun, is_whole, next_of}
use Rattle.ldm_rpc.specs.Spelling.{Record, content, spelling}

-- a reader within a stream
pub record Position : Type 0 where
  pub reading : Reading
  -- where in the stream the record in hand begins
  pub begins : ℕ
  -- how many bytes of the stream came
  pub came : ℕ

-- before the first byte of a record that begins there
abbrev pub before_record : ℕ → ℕ → Position
before_record limit at = record { reading = begun limit; begins = at; came = at }

-- before the first byte of a stream
abbrev pub at_start : ℕ → Position
at_start limit = before_record limit 0

-- A record that came out: where in the stream its first fragment begins, and its content.
pub record Placed : Type 0 where
  pub at : ℕ
  pub content : List ℕ

-- the record in hand, where it is complete
abbrev pub given : ℕ → Reading → List Placed
given begins s = if is_whole s then record { at = begins; content = s.content } ∷ [] else []

-- Where so many bytes came and the reader is so: a complete record is forgotten, and the next one begins there.
abbrev pub forgets : ℕ → ℕ → Reading → Position
forgets begins came s = record { reading = next_of s; begins = if is_whole s then came else begins; came = came }

-- the records that these bytes complete, each forgotten before the byte behind it
unfoldable pub records_in : Position → List ℕ → List Placed
records_in p [] = []
records_in p (byte ∷ bytes) =
    let s = after_byte p.reading byte in
    given p.begins s ++ records_in (forgets p.begins (p.came + 1) s) bytes

-- what is in hand behind them
unfoldable pub in_hand : Position → List ℕ → Position
in_hand p [] = p
in_hand p (byte ∷ bytes) = in_hand (forgets p.begins (p.came + 1) (after_byte p.reading byte)) bytes

-- records one behind the other from a place on, each with its own place
unfoldable pub placed : ℕ → List Record → List Placed
placed at [] = []
placed at (r ∷ records) = record { at = at; content = content r } ∷ placed (at + length (spelling r)) records
