-- What a reader of records heard of a link.
use Rattle.std.specs.Prelude.{◌≡◌, ℕ, ◌≤◌, List, [], ◌∷◌, ◌++◌, length, true, IfSome, Result, Ok, Err}
use Rattle.ldm_outside.specs.Count.{Rose}
use Rattle.ldm_outside.specs.Link.{LinkRecord}
use Rattle.ldm_rpc.specs.declared.fault.RpcFault.TheVariants as fault
use Rattle.ldm_rpc.specs.declared.stage.Stage.TheVariants.{Faulty}
use Rattle.ldm_rpc.specs.Reading.{is_whole}
use Rattle.ldm_rpc.specs.Streams.{Placed, forgets}
use Rattle.ldm_session.specs.declared.limits.TheConstants.{LONGEST_STREAM}
use Rattle.ldm_session.specs.Exchange.{Exchanged}
use Rattle.ldm_session.specs.Owed.{hand_given, records_given}
use Rattle.ldm_tools.specs.declared.reader.LinkReader.{LinkReader}
use Rattle.ldm_tools.specs.declared.reader.NoRecord.{NoRecord}
use Rattle.ldm_tools.specs.declared.reader.NoRecord.TheVariants.{Ended, TooLong, StreamLimit, LinkFault, OutOfMemory}

-- Of all bytes that a link gave, the reader is behind these records.
pub record Heard (given : List ℕ) (heard : List Placed) (reader : LinkReader) : Type 0 where
  -- the bytes that it looked at; the others wait
  pub seen : List ℕ
  pub all : given ≡ seen ++ reader.waiting
  pub records : records_given seen ≡ heard
  pub hand : hand_given seen ≡ forgets reader.begins reader.came reader.records
  pub came : reader.came ≡ length seen
  pub most : length given ≤ LONGEST_STREAM

-- the record in hand, with its place
abbrev pub in_reader : LinkReader → Placed
in_reader reader = record { at = reader.begins; content = reader.records.content }

-- One more record was heard, which is in hand.
abbrev pub HeardOne : List ℕ → List Placed → LinkReader → Type 0
HeardOne given heard reader = Heard given (heard ++ in_reader reader ∷ []) reader × (is_whole reader.records ≡ true)

-- No record is behind these.
abbrev pub HeardNone : List ℕ → List Placed → Type 0
HeardNone given heard = records_given given ≡ heard

-- no record is behind these, and what is behind them begins there and is too long for a reply
pub record IsTooLong (at : ℕ) (given : List ℕ) (heard : List Placed) : Type 0 where
  pub none : HeardNone given heard
  pub at_is : at ≡ (hand_given given).begins
  pub place : ℕ
  pub too_long : (hand_given given).reading.stage ≡ Faulty (fault.TooLong place)

-- these are the first records
abbrev pub HeardSome : List ℕ → List Placed → Type 0
HeardSome given heard = (behind : List Placed) × (records_given given ≡ heard ++ behind)

-- What an answer says of all that the link gave up to it.
abbrev pub Tells : Result (Unit {0}) NoRecord → List ℕ → List Placed → LinkReader → Type 0
Tells (Ok done) given heard new = HeardOne given heard new
Tells (Err (Ended at)) given heard new = HeardNone given heard × (at ≡ length given)
Tells (Err (TooLong at)) given heard new = IsTooLong at given heard
Tells (Err StreamLimit) given heard new = HeardNone given heard × (length given ≡ LONGEST_STREAM)
Tells (Err LinkFault) given heard new = HeardNone given heard
Tells (Err OutOfMemory) given heard new = HeardSome given heard

-- The link was at its end, or it failed.
abbrev pub IsCaused : Result (Unit {0}) NoRecord → LinkRecord → LinkRecord → Type 0
IsCaused (Ok done) old new = Unit {0}
IsCaused (Err (Ended at)) old new = Rose old.ends new.ends × IfSome new.left (λ rest. rest ≡ [])
IsCaused (Err (TooLong at)) old new = Unit {0}
IsCaused (Err StreamLimit) old new = Unit {0}
IsCaused (Err LinkFault) old new = Rose old.faults new.faults
IsCaused (Err OutOfMemory) old new = Unit {0}

-- What hearing a record did.
pub record Hears (result : Result (Unit {0}) NoRecord) (old new : LinkReader) (old_link new_link : LinkRecord) : Type 0 where
  -- the link gave these bytes, and was sent none
  pub more : List ℕ
  pub exchanged : Exchanged old_link [] more new_link
  pub cause : IsCaused result old_link new_link
  pub told : (given : List ℕ) (heard : List Placed) → Heard given heard old → Tells result (given ++ more) heard new
