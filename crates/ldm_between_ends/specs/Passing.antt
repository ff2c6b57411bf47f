-- A feeding that comes to a receiver that asked for it, cut anywhere and in whatever pieces.
use Rattle.std.specs.Prelude.{◌≡◌, ℕ, ◌+◌, ◌<◌, Bool, true, List, ◌++◌, length, map, Option, None, All}
use Rattle.ldm_types.specs.Info.{Metadata, IsMetadata}
use Rattle.ldm_model.specs.declared.event.Entry.{Entry}
use Rattle.ldm_class.specs.Classes.{wants}
use Rattle.ldm_rpc.specs.Streams.{Position, before_record}
use Rattle.ldm_relay.specs.declared.message.TheConstants.{LARGEST_RECORD}
use Rattle.ldm_relay.specs.Writable.{IsShortProduct}
use Rattle.ldm_intake.specs.declared.phase.Phase.TheVariants as phase
use Rattle.ldm_intake.specs.Answered.{number_of_request}
use Rattle.ldm_intake.specs.Course.{Leads}
use Rattle.ldm_intake.specs.Receiving.{Receiving}
use Rattle.ldm_intake.specs.Taken.{Taken}
use Rattle.ldm_sender.specs.Asked.{Asked}
use Rattle.ldm_sender.specs.Opening.{Opened}
use Rattle.ldm_upstream.specs.Turn.{Given}
use Rattle.ldm_upstream.specs.Feeding.{Feeding, IsFeeding, Last, GoesOn, Stopped, Unanswered, bytes_of, codes_of, given_of}
use Rattle.ldm_session.specs.declared.limits.TheConstants.{LONGEST_STREAM}
use Rattle.ldm_downstream.specs.Pieces.{Piece, joined}
use Rattle.ldm_downstream.specs.Received.{received}
use Rattle.ldm_between_ends.specs.Codes.{Agree, soon_codes}
use Rattle.ldm_between_ends.specs.Handed.{Handed, handed, last_of}
use Rattle.ldm_between_ends.specs.Takings.{Joins, Takings, BeginsFirst}

-- A product is one that an arena can have.
pub record IsSound (given : Given) : Type 0 where
  pub info : IsMetadata given.product.info
  pub sized : length given.product.body ≡ given.product.info.size
  pub short : IsShortProduct given.product.info given.product.info.size

-- A feeding as it is to be, whose request was granted.
pub record IsGranted (asked : Asked) (feeding : Feeding) : Type 0 where
  pub is : IsFeeding asked feeding
  pub missed : Bool
  pub k : ℕ
  pub opened : feeding.answered ≡ Opened missed k
  pub sound : All IsSound (given_of feeding)

-- A receiver waits for the reply to this request, and wants all that it asks for.
pub record HasAsked (asked : Asked) (s : Receiving) : Type 0 where
  pub again : Bool
  pub phase_is : s.phase ≡ phase.Asked asked.class again
  pub xid_is : asked.xid ≡ number_of_request again
  pub none_pending : s.pending ≡ None
  pub no_policy : s.wanting.policy ≡ None
  pub wanted : (info : Metadata) → wants asked.class info ≡ true → wants s.wanting.class info ≡ true

-- in a stream, before the first byte of a record that begins there; before the first byte of all where that is 0
abbrev pub record_at : ℕ → Position
record_at at = before_record LARGEST_RECORD at

-- What two nodes did: a feeder, and a receiver that got bytes of it.
pub record Passing : Type 0 where
  -- what was asked of the feeder, and what it did
  pub asked : Asked
  pub feeding : Feeding
  -- the receiver as it waited for the reply, how many bytes came before, and the pieces that came then
  pub begins : Receiving
  pub at : ℕ
  pub pieces : List Piece
  -- which actor of its queue the receiver is, what it asked the queue, and what it came to
  pub actor : ℕ
  pub made : List Entry
  pub came_to : Taken

-- The bytes of the pieces are the first that the feeding owes, and the stream is below its limit.
pub record Carries (p : Passing) : Type 0 where
  pub rest : List ℕ
  pub is : joined p.pieces ++ rest ≡ bytes_of p.asked p.feeding
  pub few : p.at + length (joined p.pieces) < LONGEST_STREAM

-- The feeding was granted; the receiver had asked for it, got bytes of it, and did with them what receivers do. What the feeder
-- heard of its announcements is what the receiver replied, as far as both go.
pub record IsPassing (p : Passing) : Type 0 where
  pub granted : IsGranted p.asked p.feeding
  pub asker : HasAsked p.asked p.begins
  pub carries : Carries p
  pub leads : Leads p.actor (received p.begins (record_at p.at) p.pieces) p.made p.came_to
  pub heard : Agree (codes_of p.feeding) (soon_codes p.came_to.replies)

-- all bytes of the feeding came
abbrev pub CarriesAll : Passing → Type 0
CarriesAll p = joined p.pieces ≡ bytes_of p.asked p.feeding

-- no reply is owed to the feeder
abbrev pub IsAnswered : Last → Type 0
IsAnswered GoesOn = Unit {0}
IsAnswered (Stopped end) = Unit {0}
IsAnswered (Unanswered given at) = ⊥

-- ---- what comes of it

-- the moments at which pieces came
abbrev pub moments_of : List Piece → List ℕ
moments_of pieces = map (λ (piece : Piece). piece.now) pieces

-- all came at that moment
abbrev pub CameAt : ℕ → List Piece → Type 0
CameAt now pieces = All (λ (piece : Piece). piece.now ≡ now) pieces

-- The first of these products were taken, in order, each once, and of the next one perhaps some was asked. The last one that was
-- taken is the one to go on behind.
pub record PassesOn (actor : ℕ) (moments : List ℕ) (old last : Option (List ℕ)) (products : List Handed) (made : List Entry)
    : Type 0 where
  pub done : List Handed
  pub left : List Handed
  pub all : done ++ left ≡ products
  pub made_is : Joins (Takings actor moments done) (BeginsFirst actor left) made
  pub last_is : last ≡ last_of old done

-- All these products were taken, and the receiver stands behind them.
pub record PassesAll (actor : ℕ) (moments : List ℕ) (old new : Receiving) (products : List Handed) (made : List Entry)
    : Type 0 where
  pub takings : Takings actor moments products made
  pub stands : new ≡ record old { phase = phase.Feeding; pending = None; last = last_of old.last products }

-- the first products that were due were taken
abbrev pub PassesFirst : Passing → Type 0
PassesFirst p = PassesOn p.actor (moments_of p.pieces) p.begins.last p.came_to.receiving.last (handed p.feeding) p.made

-- all of them were
abbrev pub PassesWhole : Passing → Type 0
PassesWhole p = PassesAll p.actor (moments_of p.pieces) p.begins p.came_to.receiving (handed p.feeding) p.made
