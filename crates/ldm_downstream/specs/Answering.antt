-- A receiving that answers in turn: what a piece makes owed is sent before a byte of the next one comes.
use Rattle.std.specs.Prelude.{◌≡◌, ℕ, ◌≤◌, List, [], ◌∷◌, ◌++◌, length, map}
use Rattle.ldm_rpc.specs.Streams.{Position}
use Rattle.ldm_shared.specs.Passes.{PassView}
use Rattle.ldm_intake.specs.Receiving.{Receiving}
use Rattle.ldm_intake.specs.TakesRecord.{Standing, stands}
use Rattle.ldm_downstream.specs.declared.limits.TheConstants.{LONGEST_PIECE}
use Rattle.ldm_downstream.specs.InTurn.{Round}
use Rattle.ldm_downstream.specs.Pieces.{Piece}
use Rattle.ldm_downstream.specs.Pushing.{Continues}

-- Where a receiving is between two pieces.
pub record Place : Type 0 where
  -- what it has in hand of the stream
  pub hand : Position
  pub receiving : Receiving
  pub pass : PassView

abbrev pub place_of : Position → Standing → Place
place_of p at = record { hand = p; receiving = at.receiving; pass = at.pass }

-- there, when all that was owed was sent, and all lines were written
abbrev pub settled_at : Place → Standing
settled_at at = stands at.receiving at.pass [] []

-- A round at its moment: what the link gave of one piece, and what was sent behind it.
pub record TimedRound : Type 0 where
  pub now : ℕ
  pub round : Round

-- the piece of a round; some of its bytes may have come ahead
abbrev pub piece_of : List ℕ → TimedRound → Piece
piece_of ahead timed = record { now = timed.now; bytes = ahead ++ timed.round.given }

-- the pieces of rounds; of the first one bytes may have come ahead
abbrev pub pieces_in : List ℕ → List TimedRound → List Piece
pieces_in ahead [] = []
pieces_in ahead (timed ∷ rounds) = piece_of ahead timed ∷ pieces_in [] rounds

-- what passed with the peer: first bytes were sent, and then these rounds passed
abbrev pub rounds_of : List ℕ → List TimedRound → List Round
rounds_of first rounds = record { given = []; sent = first } ∷ map (λ (timed : TimedRound). timed.round) rounds

-- the link gave no more of a piece than is received at once
abbrev pub IsShort : TimedRound → Type 0
IsShort timed = length timed.round.given ≤ LONGEST_PIECE

-- A piece came, and then just what it made owed was sent. The receiving goes on behind it.
pub record TakesRound (ahead : List ℕ) (timed : TimedRound) (old new : Place) : Type 0 where
  pub short : IsShort timed
  pub notes : List ℕ
  pub continues : Continues (piece_of ahead timed ∷ []) old.hand new.hand (settled_at old) (stands new.receiving new.pass timed.round.sent notes)

-- the same, round by round
abbrev pub TakesRounds : List ℕ → List TimedRound → Place → Place → Type 0
TakesRounds ahead [] old new = new ≡ old
TakesRounds ahead (timed ∷ rounds) old new = (mid : Place) × TakesRound ahead timed old mid × TakesRounds [] rounds mid new

-- what is left, behind rounds, of bytes that came ahead
abbrev pub left_ahead : List ℕ → List TimedRound → List ℕ
left_ahead ahead [] = ahead
left_ahead ahead (timed ∷ rounds) = []
