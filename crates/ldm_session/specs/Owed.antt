-- The replies that a sender of announcements is owed, in the bytes that its link gives.
use Rattle.std.specs.Prelude.{◌≡◌, ℕ, ◌-◌, ◌^◌, min, List, [], ◌∷◌, ◌++◌, Ok}
use Rattle.ldm_rpc.specs.declared.fault.RpcFault.TheVariants.{TooLong}
use Rattle.ldm_rpc.specs.declared.stage.Stage.TheVariants.{Faulty}
use Rattle.ldm_rpc.specs.Streams.{Position, Placed, at_start, records_in, in_hand}
use Rattle.ldm_relay.specs.declared.message.SoonAnswer.{SoonAnswer}
use Rattle.ldm_relay.specs.declared.message.TheConstants.{LARGEST_REPLY}
use Rattle.ldm_relay.specs.declared.procedure.Procedure.TheVariants as procedure
use Rattle.ldm_relay.specs.Procedure.{number_of}
use Rattle.ldm_relay.specs.Reading.{reply_of}
use Rattle.ldm_relay.specs.Sent as sent

-- An announcement that was answered: the number of its call, and what its reply says.
pub record Code : Type 0 where
  pub xid : ℕ
  pub answer : SoonAnswer

-- the content of a record is the reply to the announcement of that number, and says this
abbrev pub IsReplyTo : ℕ → SoonAnswer → List ℕ → Type 0
IsReplyTo xid answer content = reply_of (number_of procedure.Comingsoon) content ≡ Ok (sent.ComingsoonReply xid answer)

-- these records are the replies to these announcements, in order
abbrev pub AreReplies : List Code → List Placed → Type 0
AreReplies [] [] = Unit {0}
AreReplies (code ∷ codes) (placed ∷ records) = IsReplyTo code.xid code.answer placed.content × AreReplies codes records
AreReplies [] (placed ∷ records) = ⊥
AreReplies (code ∷ codes) [] = ⊥

-- the records of what a link gave
abbrev pub records_given : List ℕ → List Placed
records_given given = records_in (at_start LARGEST_REPLY) given

-- what is in hand behind them
abbrev pub hand_given : List ℕ → Position
hand_given given = in_hand (at_start LARGEST_REPLY) given

-- The first records of what a link gave are these replies, and those are the records behind them.
pub record Said (given : List ℕ) (codes : List Code) (behind : List Placed) : Type 0 where
  pub replies : List Placed
  pub records_are : records_given given ≡ replies ++ behind
  pub each : AreReplies codes replies

-- a place stays at the last one that can be told
abbrev pub place_told : ℕ → ℕ
place_told n = min n (2 ^ 64 - 1)

-- The first of these records begins there and is not the reply to that announcement; or there is none, and what is in hand
-- begins there and is too long for a reply.
abbrev pub IsNoReply : ℕ → ℕ → List ℕ → List Placed → Type 0
IsNoReply xid at given (placed ∷ behind) = (at ≡ place_told placed.at) × ((answer : SoonAnswer) → ¬ (IsReplyTo xid answer placed.content))
IsNoReply xid at given [] = (at ≡ place_told (hand_given given).begins) × ((place : ℕ) × ((hand_given given).reading.stage ≡ Faulty (TooLong place)))
