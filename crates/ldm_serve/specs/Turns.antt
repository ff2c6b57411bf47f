-- What a server does with the first record in some bytes.
use Rattle.std.specs.Prelude.{◌≡◌, ℕ, ◌+◌, ◌<◌, ◌≤◌, true, false, List, [], ◌∷◌, length, Result, Ok, Err}
use Rattle.ldm_rpc.specs.Reading.{after, bytes_taken, is_faulty}
use Rattle.ldm_rpc.specs.Streams.{Position, Placed, forgets, given}
use Rattle.ldm_serve.specs.declared.responded.Responded.{Responded}
use Rattle.ldm_serve.specs.Respond.{respond}
use Rattle.ldm_serve.specs.Responds.{Standing, RunsOut, goes_on}
use Rattle.ldm_serve.specs.declared.serving.Answered.{Answered}
use Rattle.ldm_serve.specs.declared.serving.Answered.TheVariants as answered
use Rattle.ldm_serve.specs.Client.{Client}
use Rattle.ldm_serve.specs.Steps.{Step, AllOutlived, Does, is_on, placed_of, response_of}

-- the record that bytes complete first, if they complete one
abbrev pub first_of : Position → List ℕ → List Placed
first_of p bytes = given p.begins (after p.reading bytes)

-- what is in hand behind that record, or behind all of the bytes
abbrev pub behind : Position → List ℕ → Position
behind p bytes = forgets p.begins (p.came + bytes_taken p.reading bytes) (after p.reading bytes)

-- A reader goes on by so many of these bytes: up to the end of a record, or all.
pub record Reads (p : Position) (bytes : List ℕ) (n : ℕ) (q : Position) : Type 0 where
  pub count : n ≡ bytes_taken p.reading bytes
  pub some : 0 < n
  pub most : n ≤ length bytes
  pub hand_is : q ≡ behind p bytes
  pub sound : is_faulty q.reading ≡ false

-- These records were answered, and the session outlives each.
pub record AnswersAll (client : Client) (records : List Placed) (old new : Standing) : Type 0 where
  pub steps : List Step
  pub placed : placed_of steps ≡ records
  pub outlived : AllOutlived client steps
  pub does : Does client steps old new

-- A record was answered, and the session does not outlive it: the connection goes on so.
pub record EndsWith (client : Client) (next : Responded) (placed : Placed) (old new : Standing) : Type 0 where
  pub step : Step
  pub placed_is : step.placed ≡ placed
  pub does : Does client (step ∷ []) old new
  pub next_is : next ≡ goes_on (response_of client step)
  pub over : is_on next ≡ false

-- the queue can have no call more, where the first of these records asks for one
abbrev pub RunsOutAt : Client → List Placed → Standing → Standing → Type 0
RunsOutAt client [] old new = ⊥
RunsOutAt client (placed ∷ records) old new = RunsOut (respond client placed.content) old new

-- the first record was answered, and its end read
pub record TurnsOver (client : Client) (next : Responded) (at : ℕ) (p : Position) (bytes : List ℕ) (n : ℕ) (q : Position) (old new : Standing) : Type 0 where
  pub reads : Reads p bytes n q
  pub placed : Placed
  pub first : first_of p bytes ≡ placed ∷ []
  pub at_is : at ≡ placed.at
  pub ends : EndsWith client next placed old new

-- how that ends the session, where that was written of how the connection goes on
abbrev pub Stops : Answered → Responded → Client → Position → List ℕ → Position → Standing → Standing → Type 0
Stops answered.On next client p bytes q old new = ⊥
Stops (answered.Over at) next client p bytes q old new = (n : ℕ) × TurnsOver client next at p bytes n q old new
Stops (answered.TooLong at) next client p bytes q old new = (is_faulty (behind p bytes).reading ≡ true) × (at ≡ p.begins) × (new ≡ old)
Stops answered.Worn next client p bytes q old new = RunsOutAt client (first_of p bytes) old new
Stops answered.OutOfMemory next client p bytes q old new = new ≡ old

pub record TakesFirst (client : Client) (p : Position) (bytes : List ℕ) (n : ℕ) (q : Position) (old new : Standing) : Type 0 where
  pub reads : Reads p bytes n q
  pub answers : AnswersAll client (first_of p bytes) old new

abbrev pub Turns : Result ℕ Answered → Responded → Client → Position → List ℕ → Position → Standing → Standing → Type 0
Turns (Ok n) next client p bytes q old new = TakesFirst client p bytes n q old new
Turns (Err stop) next client p bytes q old new = Stops stop next client p bytes q old new

-- how many bytes were taken, or how that ends the session
abbrev pub turned : ℕ → Answered → Result ℕ Answered
turned n answered.On = Ok n
turned n (answered.Over at) = Err (answered.Over at)
turned n (answered.TooLong at) = Err (answered.TooLong at)
turned n answered.Worn = Err answered.Worn
turned n answered.OutOfMemory = Err answered.OutOfMemory
