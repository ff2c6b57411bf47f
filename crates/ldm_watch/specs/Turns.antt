-- What the bytes of a piece do.
use Rattle.std.specs.Prelude.{◌≡◌, ◌⊎◌, ℕ, ◌+◌, ◌<◌, ◌≤◌, true, false, List, length, Option, Some, None, Result, Ok, Err}
use Rattle.ldm_rpc.specs.Reading.{after, bytes_taken, is_faulty}
use Rattle.ldm_rpc.specs.Streams.{Position, Placed, forgets, given, records_in, in_hand}
use Rattle.ldm_watch.specs.declared.end.WatchEnd.{WatchEnd}
use Rattle.ldm_watch.specs.declared.end.WatchEnd.TheVariants.{BadFrame}
use Rattle.ldm_watch.specs.declared.stop.Stop.{Stop}
use Rattle.ldm_watch.specs.declared.stop.Stop.TheVariants.{Over, OutOfMemory}
use Rattle.ldm_watch.specs.Taking.{Standing, StopsBy, Takes, TakesAll}
use Rattle.ldm_watch.specs.Told.{end_behind, within}

-- these records were taken, and the one behind them is too long
pub record TooLong (stop : Stop) (records : List Placed) (p : Position) (old new : Standing) : Type 0 where
  pub takes : TakesAll records old new
  pub faulty : is_faulty p.reading ≡ true
  pub stop_is : stop ≡ Over (BadFrame p.begins)

abbrev pub Cuts : Stop → List Placed → Position → Standing → Standing → Type 0
Cuts stop records p old new = TooLong stop records p old new ⊎ StopsBy stop records old new

-- the record that bytes complete first, if they complete one
abbrev pub first_of : Position → List ℕ → List Placed
first_of p bytes = given p.begins (after p.reading bytes)

-- what is in hand behind that record, or behind all of the bytes
abbrev pub behind : Position → List ℕ → Position
behind p bytes = forgets p.begins (p.came + bytes_taken p.reading bytes) (after p.reading bytes)

-- a reader goes on by so many of these bytes: up to the end of a record, or all
pub record Reads (p : Position) (bytes : List ℕ) (n : ℕ) (q : Position) : Type 0 where
  pub count : n ≡ bytes_taken p.reading bytes
  pub some : 0 < n
  pub most : n ≤ length bytes
  pub hand_is : q ≡ behind p bytes
  pub sound : is_faulty q.reading ≡ false

-- what becomes of the first record in some bytes
pub record TakesFirst (bytes : List ℕ) (n : ℕ) (p q : Position) (old new : Standing) : Type 0 where
  pub reads : Reads p bytes n q
  pub takes : TakesAll (first_of p bytes) old new

abbrev pub Turns : Result ℕ Stop → List ℕ → Position → Position → Standing → Standing → Type 0
Turns (Ok n) bytes p q old new = TakesFirst bytes n p q old new
Turns (Err stop) bytes p q old new = Cuts stop (first_of p bytes) (behind p bytes) old new

-- what becomes of all records in some bytes
pub record TakesBytes (bytes : List ℕ) (p q : Position) (old new : Standing) : Type 0 where
  pub takes : TakesAll (records_in p bytes) old new
  pub hand_is : q ≡ in_hand p bytes
  pub sound : is_faulty q.reading ≡ false

abbrev pub Runs : Option Stop → List ℕ → Position → Position → Standing → Standing → Type 0
Runs None bytes p q old new = TakesBytes bytes p q old new
Runs (Some stop) bytes p q old new = Cuts stop (records_in p bytes) (in_hand p bytes) old new

-- what becomes of all records in a piece
pub record TakesPiece (piece : List ℕ) (p q : Position) (old new : Standing) : Type 0 where
  pub takes : TakesAll (records_in p (within p piece)) old new
  pub hand_is : q ≡ in_hand p (within p piece)
  pub goes_on : end_behind q None ≡ None

-- The records of a piece were taken, up to one that ended it, or all of them; and then what is in hand behind them ended it.
pub record EndsIn (end : WatchEnd) (piece : List ℕ) (p : Position) (old new : Standing) : Type 0 where
  pub by_record : Option WatchEnd
  pub takes : Takes (records_in p (within p piece)) by_record old new
  pub end_is : end_behind (in_hand p (within p piece)) by_record ≡ Some end

abbrev pub Passes : Option Stop → List ℕ → Position → Position → Standing → Standing → Type 0
Passes None piece p q old new = TakesPiece piece p q old new
Passes (Some (Over end)) piece p q old new = EndsIn end piece p old new
Passes (Some OutOfMemory) piece p q old new = Unit {0}
