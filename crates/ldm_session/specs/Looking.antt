-- What the parts of hearing a reply do: looking at what waits, and receiving more.
use Rattle.std.specs.Prelude.{◌≡◌, ℕ, ◌+◌, ◌<◌, ◌≤◌, List, [], length, drop, true, Option, Some, None, Result, Ok, Err}
use Rattle.ldm_outside.specs.Link.{LinkRecord}
use Rattle.ldm_relay.specs.declared.message.SoonAnswer.{SoonAnswer}
use Rattle.ldm_rpc.specs.declared.fault.RpcFault.{RpcFault}
use Rattle.ldm_rpc.specs.declared.fault.RpcFault.TheVariants as fault
use Rattle.ldm_rpc.specs.declared.stage.Stage.TheVariants.{Faulty}
use Rattle.ldm_rpc.specs.Reading.{after, bytes_taken, is_whole, next_of}
use Rattle.ldm_session.specs.declared.replies.NoReply.{NoReply}
use Rattle.ldm_session.specs.declared.replies.NoReply.TheVariants.{PeerEnd, BadReply, LinkFault, OutOfMemory}
use Rattle.ldm_session.specs.declared.replies.Replies.{Replies}
use Rattle.ldm_session.specs.Exchange.{Exchanged}
use Rattle.ldm_session.specs.Hearing.{Heard, IsCaused, Tells}
use Rattle.ldm_session.specs.Owed.{Code, place_told}

-- What waits was looked at, up to the end of the record in hand.
pub record Looks (old new : Replies) : Type 0 where
  pub count : ℕ
  pub count_is : count ≡ bytes_taken (next_of old.records) old.waiting
  pub within : count ≤ length old.waiting
  pub up_to : count < length old.waiting → is_whole new.records ≡ true
  pub records : new.records ≡ after (next_of old.records) old.waiting
  pub begins : new.begins ≡ old.begins
  pub came : new.came ≡ place_told (old.came + count)
  pub waiting : new.waiting ≡ drop count old.waiting

-- the same; or the record in hand is too long
abbrev pub Pushes : Result (Unit {0}) RpcFault → Replies → Replies → Type 0
Pushes (Ok done) old new = Looks old new
Pushes (Err (fault.TooLong at)) old new =
    ((after (next_of old.records) old.waiting).stage ≡ Faulty (fault.TooLong at)) × (new.begins ≡ old.begins)
Pushes (Err fault.OutOfMemory) old new = Unit {0}

-- What waits has the reply, or is no reply, or more has to come for it.
abbrev pub Reads : Result (Option SoonAnswer) NoReply → ℕ → List ℕ → List Code → Replies → Type 0
Reads (Ok None) xid given codes new = Heard given codes new × (new.waiting ≡ [])
Reads (Ok (Some answer)) xid given codes new = Tells (Ok answer) xid given codes new
Reads (Err no_reply) xid given codes new = Tells (Err no_reply) xid given codes new

-- what comes without a link
abbrev pub IsOwn : NoReply → Type 0
IsOwn (PeerEnd at) = ⊥
IsOwn (BadReply at) = Unit {0}
IsOwn LinkFault = ⊥
IsOwn OutOfMemory = Unit {0}

-- A piece was received where nothing waited, or none was.
abbrev pub Receives : Result (Unit {0}) NoReply → Replies → Replies → LinkRecord → LinkRecord → Type 0
Receives (Ok done) old new old_link new_link =
    (new ≡ record old { waiting = new.waiting }) × Exchanged old_link [] new.waiting new_link
Receives (Err (PeerEnd at)) old new old_link new_link =
    (at ≡ old.came) × Exchanged old_link [] [] new_link × IsCaused (Err (PeerEnd at)) old_link new_link
Receives (Err (BadReply at)) old new old_link new_link = ⊥
Receives (Err LinkFault) old new old_link new_link = Exchanged old_link [] [] new_link × IsCaused (Err LinkFault) old_link new_link
Receives (Err OutOfMemory) old new old_link new_link = ⊥
