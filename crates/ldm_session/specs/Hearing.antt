-- What a reader of replies heard of a link.
use Rattle.std.specs.Prelude.{◌≡◌, ℕ, List, [], ◌∷◌, ◌++◌, length, false, Result, Ok, Err}
use Rattle.ldm_outside.specs.Count.{Rose}
use Rattle.ldm_outside.specs.Link.{LinkRecord}
use Rattle.ldm_relay.specs.declared.message.SoonAnswer.{SoonAnswer}
use Rattle.ldm_rpc.specs.Reading.{is_whole}
use Rattle.ldm_rpc.specs.Streams.{Placed}
use Rattle.ldm_session.specs.declared.replies.NoReply.{NoReply}
use Rattle.ldm_session.specs.declared.replies.NoReply.TheVariants.{PeerEnd, BadReply, LinkFault, OutOfMemory}
use Rattle.ldm_session.specs.declared.replies.Replies.{Replies}
use Rattle.ldm_session.specs.Exchange.{Exchanged}
use Rattle.ldm_session.specs.Owed.{Code, AreReplies, IsNoReply, Said, hand_given, place_told, records_given}

-- Of all bytes that a link gave, the reader is behind the replies to these announcements.
pub record Heard (given : List ℕ) (codes : List Code) (replies : Replies) : Type 0 where
  -- the bytes that it looked at; the others wait
  pub seen : List ℕ
  pub all : given ≡ seen ++ replies.waiting
  pub each : AreReplies codes (records_given seen)
  pub reading : replies.records ≡ (hand_given seen).reading
  pub begins : replies.begins ≡ place_told (hand_given seen).begins
  pub came : replies.came ≡ place_told (length seen)
  pub ready : is_whole replies.records ≡ false

-- What an answer says of all that the link gave up to it.
abbrev pub Tells : Result SoonAnswer NoReply → ℕ → List ℕ → List Code → Replies → Type 0
-- the next record is the reply to the announcement of that number
Tells (Ok answer) xid given codes new = Heard given (codes ++ record { xid = xid; answer = answer } ∷ []) new
-- no record is behind the replies, and so many bytes came
Tells (Err (PeerEnd at)) xid given codes new = Said given codes [] × (at ≡ place_told (length given))
-- what is behind the replies at that byte is not the reply
Tells (Err (BadReply at)) xid given codes new = (behind : List Placed) × (Said given codes behind × IsNoReply xid at given behind)
Tells (Err LinkFault) xid given codes new = (behind : List Placed) × Said given codes behind
Tells (Err OutOfMemory) xid given codes new = (behind : List Placed) × Said given codes behind

-- The link was at its end, or it failed.
abbrev pub IsCaused : Result SoonAnswer NoReply → LinkRecord → LinkRecord → Type 0
IsCaused (Ok answer) old new = Unit {0}
IsCaused (Err (PeerEnd at)) old new = Rose old.ends new.ends
IsCaused (Err (BadReply at)) old new = Unit {0}
IsCaused (Err LinkFault) old new = Rose old.faults new.faults
IsCaused (Err OutOfMemory) old new = Unit {0}

-- What hearing the reply to the announcement of that number did.
pub record Hears (result : Result SoonAnswer NoReply) (xid : ℕ) (old new : Replies) (old_link new_link : LinkRecord) : Type 0 where
  -- the link gave these bytes, and was sent none
  pub more : List ℕ
  pub exchanged : Exchanged old_link [] more new_link
  pub cause : IsCaused result old_link new_link
  pub told : (given : List ℕ) (codes : List Code) → Heard given codes old → Tells result xid (given ++ more) codes new
