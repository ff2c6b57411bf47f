-- What a server does with the bytes of a connection.
use Rattle.std.specs.Prelude.{◌≡◌, ℕ, ◌-◌, ◌<◌, true, false, List, [], ◌∷◌, ◌++◌, length, drop}
use Rattle.ldm_rpc.specs.Reading.{is_faulty, is_pending}
use Rattle.ldm_rpc.specs.Streams.{Position, Placed, records_in, in_hand}
use Rattle.ldm_serve.specs.declared.responded.Responded.{Responded}
use Rattle.ldm_serve.specs.Responds.{Standing}
use Rattle.ldm_serve.specs.declared.serving.Answered.{Answered}
use Rattle.ldm_serve.specs.declared.serving.Answered.TheVariants as answered
use Rattle.ldm_serve.specs.Client.{Client}
use Rattle.ldm_serve.specs.Turns.{AnswersAll, EndsWith, RunsOutAt}

-- All records that the bytes complete were answered, and the session goes on.
pub record GoesOn (client : Client) (p : Position) (bytes : List ℕ) (q : Position) (old new : Standing) : Type 0 where
  pub answers : AnswersAll client (records_in p bytes) old new
  pub hand_is : q ≡ in_hand p bytes
  pub sound : is_faulty q.reading ≡ false

-- The records up to one that the session does not outlive were answered. What stands behind that one was not read.
pub record IsOver (client : Client) (next : Responded) (at : ℕ) (p : Position) (bytes : List ℕ) (q : Position) (old new : Standing) : Type 0 where
  pub front : List Placed
  pub last : Placed
  pub taken : List ℕ
  pub rest : List ℕ
  pub between : Standing
  pub answers : AnswersAll client front old between
  pub ends : EndsWith client next last between new
  pub at_is : at ≡ last.at
  pub all : taken ++ rest ≡ bytes
  pub some : 0 < length taken
  pub records : front ++ last ∷ [] ≡ records_in p taken
  pub hand_is : q ≡ in_hand p taken
  pub rest_is : rest ≡ drop (q.came - p.came) bytes
  -- no record is begun
  pub edge : is_pending q.reading ≡ false
  pub sound : is_faulty q.reading ≡ false

-- All records that the bytes complete were answered, and the one that begins behind them is too long.
pub record IsTooLong (client : Client) (at : ℕ) (p : Position) (bytes : List ℕ) (old new : Standing) : Type 0 where
  pub answers : AnswersAll client (records_in p bytes) old new
  pub faulty : is_faulty (in_hand p bytes).reading ≡ true
  pub at_is : at ≡ (in_hand p bytes).begins

-- The first records were answered, and the one behind them asks the queue, which can have no call more.
pub record IsWorn (client : Client) (p : Position) (bytes : List ℕ) (old new : Standing) : Type 0 where
  pub front : List Placed
  pub others : List Placed
  pub between : Standing
  pub answers : AnswersAll client front old between
  pub records : front ++ others ≡ records_in p bytes
  pub runs_out : RunsOutAt client others between new

-- the first records were answered, and nothing else was done
pub record BreaksOff (client : Client) (p : Position) (bytes : List ℕ) (old new : Standing) : Type 0 where
  pub front : List Placed
  pub others : List Placed
  pub answers : AnswersAll client front old new
  pub records : front ++ others ≡ records_in p bytes

-- what bytes come to that come from a place in the stream on, where that was written of how the connection goes on
abbrev pub Serves : Answered → Responded → Client → Position → List ℕ → Position → Standing → Standing → Type 0
Serves answered.On next client p bytes q old new = GoesOn client p bytes q old new
Serves (answered.Over at) next client p bytes q old new = IsOver client next at p bytes q old new
Serves (answered.TooLong at) next client p bytes q old new = IsTooLong client at p bytes old new
Serves answered.Worn next client p bytes q old new = IsWorn client p bytes old new
Serves answered.OutOfMemory next client p bytes q old new = BreaksOff client p bytes old new
