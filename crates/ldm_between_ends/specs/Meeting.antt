-- A call that feeds and a call that receives, at the two ends of one connection, each at whatever end.
use Rattle.std.specs.Prelude.{◌≡◌, ◌⊎◌, ℕ, ◌<◌, ◌≤◌, Bool, true, List, [], ◌∷◌, ◌++◌, length, Option}
use mathlib.Core.List.{IsPrefix}
use Rattle.ldm_types.specs.declared.class.ClassSpec.{ClassSpec}
use Rattle.ldm_types.specs.declared.limits.TheConstants.{LARGEST_ARENA}
use Rattle.ldm_model.specs.declared.event.Event.TheVariants.{Discard}
use Rattle.ldm_model.specs.declared.event.Reply.{Reply}
use Rattle.ldm_model.specs.declared.event.Entry.{Entry}
use Rattle.ldm_outside.specs.Session.{SessionRecord}
use Rattle.ldm_shared.specs.Passes.{PassView, Calls}
use Rattle.ldm_relay.specs.Sent as sent
use Rattle.ldm_intake.specs.declared.end.RecvEnd.{RecvEnd}
use Rattle.ldm_intake.specs.declared.end.RecvEnd.TheVariants.{Ended, Truncated, BadFrame, Refused, LinkFault, LogFault, StreamLimit, Worn, OutOfMemory}
use Rattle.ldm_intake.specs.Course.{entry_by}
use Rattle.ldm_intake.specs.Opening.{request_of, requesting}
use Rattle.ldm_intake.specs.Receiving.{Receiving}
use Rattle.ldm_relay.specs.Spelling.{records_of}
use Rattle.ldm_intake.specs.Taken.{Arrival}
use Rattle.ldm_session.specs.declared.limits.TheConstants.{LONGEST_STREAM}
use Rattle.ldm_sender.specs.declared.end.SendEnd.{SendEnd}
use Rattle.ldm_sender.specs.Asked.{Asked}
use Rattle.ldm_sender.specs.Opening.{Opened}
use Rattle.ldm_upstream.specs.Feeds.{Feeds}
use Rattle.ldm_downstream.specs.Pieces.{Piece, arrivals, beginning, joined}
use Rattle.ldm_downstream.specs.Receives.{ReceivesAll, is_whole_end}
use Rattle.ldm_downstream.specs.Taking.{BeginsNext}
use Rattle.ldm_between_ends.specs.Passing.{moments_of}
use Rattle.ldm_between_ends.specs.Session.{Session, IsSession}

-- ---- the two calls, by their contracts

-- A call of `feed`, or of `feed_behind` with the bytes that came ahead.
pub record FeedingCall : Type 0 where
  pub asked : Asked
  pub ahead : List ℕ
  pub end : SendEnd
  -- its pass and its outside, before and after
  pub old : PassView
  pub new : PassView
  pub before : SessionRecord
  pub after : SessionRecord
  pub feeds : Feeds end asked ahead old new before after

-- A call of `receive`.
pub record ReceivingCall : Type 0 where
  pub class : ClassSpec
  pub behind : Option (List ℕ)
  pub max_hereis : ℕ
  pub end : RecvEnd
  pub last : Option (List ℕ)
  pub old : PassView
  pub new : PassView
  pub before : SessionRecord
  pub after : SessionRecord
  pub receives : ReceivesAll end last (requesting class behind max_hereis) [] old new before after

-- the receiver before the first piece
abbrev pub begins_of : ReceivingCall → Receiving
begins_of r = requesting r.class r.behind r.max_hereis

-- the pieces that came to it, and their bytes: those that its link gave
abbrev pub pieces_of : ReceivingCall → List Piece
pieces_of r = r.receives.receives.pieces

abbrev pub came_to : ReceivingCall → List ℕ
came_to r = r.receives.receives.passed.given

-- the bytes that it sent
abbrev pub sent_by : ReceivingCall → List ℕ
sent_by r = r.receives.receives.sent

-- ---- one connection

-- The one was asked what the other asks, and of what either sent the first bytes came to the other, perhaps all.
pub record Connects (f : FeedingCall) (r : ReceivingCall) : Type 0 where
  pub asks : request_of (begins_of r) ≡ sent.Feedme f.asked.xid f.asked.class f.asked.max_hereis ∷ []
  pub down : IsPrefix (came_to r) f.feeds.sent
  -- the request came first, and then what the feeder got
  pub up : IsPrefix (records_of (request_of (begins_of r)) ++ (f.ahead ++ f.feeds.given)) (sent_by r)
  -- the stream is below its limit, and the feeder's queue has an arena that a queue can have
  pub few : length (came_to r) < LONGEST_STREAM
  pub arena : f.old.arena ≤ LARGEST_ARENA

-- the request was granted
abbrev pub WasGranted : FeedingCall → Type 0
WasGranted f = (missed : Bool) × (k : ℕ) × (f.feeds.feeding.answered ≡ Opened missed k)

-- ---- what it comes to

-- a reservation that was open is given up, or none was
abbrev pub IsGivenUp : ℕ → List Entry → Type 0
IsGivenUp actor made = (made ≡ []) ⊎ ((r : ℕ) × (reply : Reply) × (made ≡ entry_by actor (Discard r) reply ∷ []))

-- What a receiver asked its queue behind the records that it took: perhaps the first events of the next record, and then to give up
-- what was open.
pub record AsksBehind (actor : ℕ) (s : Receiving) (behind : List Arrival) (made : List Entry) : Type 0 where
  pub begun : List Entry
  pub closed : List Entry
  pub all : made ≡ begun ++ closed
  pub begins : BeginsNext actor s behind begun
  pub closes : IsGivenUp actor closed

-- The session of the two calls: what the one fed, and what the other took of it.
pub record IsSessionOf (f : FeedingCall) (r : ReceivingCall) (s : Session) : Type 0 where
  pub is : IsSession s
  -- the feeder
  pub pass : s.pass ≡ f.new
  pub asked : s.passing.asked ≡ f.asked
  pub feeding : s.passing.feeding ≡ f.feeds.feeding
  -- The receiver from the first byte on, and the last product that it took: the one that the call answers.
  pub begins : s.passing.begins ≡ begins_of r
  pub at : s.passing.at ≡ 0
  pub last : s.passing.came_to.receiving.last ≡ r.last
  -- Its pieces are those that came, at a whole end of the receiver all of them, and else up to the end of a record. These are the records
  -- behind them.
  pub whole : is_whole_end r.end ≡ true → s.passing.pieces ≡ pieces_of r
  pub bytes : IsPrefix (joined s.passing.pieces) (came_to r)
  pub moments : IsPrefix (moments_of s.passing.pieces) (moments_of (pieces_of r))
  pub behind : List Arrival
  pub records : arrivals beginning (pieces_of r) ≡ arrivals beginning s.passing.pieces ++ behind
  -- what it asked of its queue for them, and behind that
  pub actor : s.passing.actor ≡ r.old.actor
  pub more : List Entry
  pub calls : Calls r.old r.new (s.passing.made ++ more)
  pub more_is : AsksBehind r.old.actor s.passing.came_to.receiving behind more

-- ends that are not of the bytes that came
abbrev pub IsNoFault : RecvEnd → Type 0
IsNoFault Ended = Unit {0}
IsNoFault (Truncated at) = Unit {0}
IsNoFault (BadFrame at) = ⊥
IsNoFault (Refused answer) = ⊥
IsNoFault LinkFault = Unit {0}
IsNoFault LogFault = Unit {0}
IsNoFault StreamLimit = ⊥
IsNoFault Worn = Unit {0}
IsNoFault OutOfMemory = Unit {0}
