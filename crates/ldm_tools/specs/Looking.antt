-- What the parts of hearing a record do: forgetting the one before, looking at what waits, and receiving more.
use Rattle.std.specs.Prelude.{◌≡◌, ℕ, ◌+◌, ◌-◌, ◌^◌, ◌<◌, ◌≤◌, min, List, [], length, drop, Bool, true, false, Result, Ok, Err}
use Rattle.ldm_outside.specs.Count.{Rose}
use Rattle.ldm_outside.specs.Link.{LinkRecord}
use Rattle.ldm_rpc.specs.declared.fault.RpcFault.{RpcFault}
use Rattle.ldm_rpc.specs.declared.fault.RpcFault.TheVariants as fault
use Rattle.ldm_rpc.specs.declared.stage.Stage.TheVariants.{Faulty}
use Rattle.ldm_rpc.specs.Reading.{after, bytes_taken, is_whole, next_of}
use Rattle.ldm_rpc.specs.Streams.{Placed, forgets}
use Rattle.ldm_session.specs.declared.limits.TheConstants.{LONGEST_STREAM}
use Rattle.ldm_session.specs.Exchange.{Exchanged}
use Rattle.ldm_tools.specs.declared.reader.LinkReader.{LinkReader}
use Rattle.ldm_tools.specs.declared.reader.NoRecord.{NoRecord}
use Rattle.ldm_tools.specs.declared.reader.NoRecord.TheVariants.{Ended, TooLong, StreamLimit, LinkFault, OutOfMemory}
use Rattle.ldm_tools.specs.Hearing.{Heard, HeardOne, HeardSome, IsCaused, IsTooLong}

-- A record that is complete was forgotten, and the next one begins behind it.
pub record Forgets (old new : LinkReader) : Type 0 where
  pub records : new.records ≡ next_of old.records
  pub hand : forgets new.begins new.came new.records ≡ forgets old.begins old.came old.records
  pub came : new.came ≡ old.came
  pub waiting : new.waiting ≡ old.waiting
  pub ready : is_whole new.records ≡ false

-- What waits was looked at, up to the end of the record in hand.
pub record Looks (old new : LinkReader) : Type 0 where
  pub count : ℕ
  pub count_is : count ≡ bytes_taken old.records old.waiting
  pub within : count ≤ length old.waiting
  pub up_to : count < length old.waiting → is_whole new.records ≡ true
  pub records : new.records ≡ after old.records old.waiting
  pub begins : new.begins ≡ old.begins
  pub came : new.came ≡ min (old.came + count) (2 ^ 64 - 1)
  pub waiting : new.waiting ≡ drop count old.waiting

-- the same; or the record in hand is too long
abbrev pub Pushes : Result (Unit {0}) RpcFault → LinkReader → LinkReader → Type 0
Pushes (Ok done) old new = Looks old new
Pushes (Err (fault.TooLong at)) old new = ((after old.records old.waiting).stage ≡ Faulty (fault.TooLong at)) × (new.begins ≡ old.begins)
Pushes (Err fault.OutOfMemory) old new = Unit {0}

-- What waits has the record, or no record comes, or more has to come for it.
abbrev pub Shows : Result Bool NoRecord → List ℕ → List Placed → LinkReader → Type 0
Shows (Ok true) given heard new = HeardOne given heard new
Shows (Ok false) given heard new = Heard given heard new
Shows (Err (Ended at)) given heard new = ⊥
Shows (Err (TooLong at)) given heard new = IsTooLong at given heard
Shows (Err StreamLimit) given heard new = ⊥
Shows (Err LinkFault) given heard new = ⊥
Shows (Err OutOfMemory) given heard new = HeardSome given heard

-- Where the record is complete it is in hand. Where more has to come, nothing waits, and all that waited was counted.
abbrev pub WaitsOn : Result Bool NoRecord → LinkReader → LinkReader → Type 0
WaitsOn (Ok true) old new = is_whole new.records ≡ true
WaitsOn (Ok false) old new =
    (new.waiting ≡ []) × (is_whole new.records ≡ false) × (new.came ≡ min (old.came + length old.waiting) (2 ^ 64 - 1))
WaitsOn (Err no_record) old new = Unit {0}

-- what comes without a link
abbrev pub IsOwn : NoRecord → Type 0
IsOwn (Ended at) = ⊥
IsOwn (TooLong at) = Unit {0}
IsOwn StreamLimit = ⊥
IsOwn LinkFault = ⊥
IsOwn OutOfMemory = Unit {0}

-- a piece came in place of what waited
pub record Gets (old new : LinkReader) (old_link new_link : LinkRecord) : Type 0 where
  pub same : new ≡ record old { waiting = new.waiting }
  pub exchanged : Exchanged old_link [] new.waiting new_link
  pub some : 0 < length new.waiting
  pub most : old.came + length new.waiting ≤ LONGEST_STREAM

-- A piece was received where nothing waited, or none was.
abbrev pub Receives : Result (Unit {0}) NoRecord → LinkReader → LinkReader → LinkRecord → LinkRecord → Type 0
Receives (Ok done) old new old_link new_link = Gets old new old_link new_link
Receives (Err (Ended at)) old new old_link new_link =
    (at ≡ old.came) × Exchanged old_link [] [] new_link × IsCaused (Err (Ended at)) old_link new_link
Receives (Err (TooLong at)) old new old_link new_link = ⊥
Receives (Err StreamLimit) old new old_link new_link = (LONGEST_STREAM ≤ old.came) × (new_link ≡ old_link)
Receives (Err LinkFault) old new old_link new_link = Exchanged old_link [] [] new_link × Rose old_link.faults new_link.faults
Receives (Err OutOfMemory) old new old_link new_link = ⊥
