-- What a server does with the content of a record, if there is one.
use Rattle.std.specs.Prelude.{◌≡◌, ℕ, List, [], ◌∷◌, Option, Some, None, Result, Ok, Err}
use Rattle.ldm_rpc.specs.Streams.{Placed}
use Rattle.ldm_serve.specs.declared.responded.RespondFault.{RespondFault}
use Rattle.ldm_serve.specs.declared.responded.RespondFault.TheVariants as fault
use Rattle.ldm_serve.specs.declared.responded.Responded.{Responded}
use Rattle.ldm_serve.specs.declared.responded.Responded.TheVariants as responded
use Rattle.ldm_serve.specs.Responds.{Standing}
use Rattle.ldm_serve.specs.declared.serving.Answered.{Answered}
use Rattle.ldm_serve.specs.declared.serving.Answered.TheVariants as answered
use Rattle.ldm_serve.specs.Client.{Client}
use Rattle.ldm_serve.specs.Turns.{AnswersAll, EndsWith, RunsOutAt}

-- a content, if there is one, as the record that begins there
abbrev pub found : ℕ → Option (List ℕ) → List Placed
found at None = []
found at (Some content) = record { at = at; content = content } ∷ []

-- how a record that begins there ends the session, if it does
abbrev pub stop_of : Result (Unit {0}) RespondFault → Responded → ℕ → Answered
stop_of (Err fault.Worn) next at = answered.Worn
stop_of (Err fault.OutOfMemory) next at = answered.OutOfMemory
stop_of (Ok done) responded.GoesOn at = answered.On
stop_of (Ok done) (responded.Feeds ask) at = answered.Over at
stop_of (Ok done) (responded.Receives class) at = answered.Over at
stop_of (Ok done) (responded.Notifies ask) at = answered.Over at
stop_of (Ok done) responded.Refused at = answered.Over at
stop_of (Ok done) (responded.Denied rule) at = answered.Over at

-- there is one, and the session does not outlive it
abbrev pub FindsEnd : Client → Responded → (place at : ℕ) → Option (List ℕ) → Standing → Standing → Type 0
FindsEnd client next place at None old new = ⊥
FindsEnd client next place at (Some content) old new = EndsWith client next (record { at = at; content = content }) old new × (place ≡ at)

abbrev pub Finds : Answered → Responded → Client → ℕ → Option (List ℕ) → Standing → Standing → Type 0
Finds answered.On next client at content old new = AnswersAll client (found at content) old new
Finds (answered.Over place) next client at content old new = FindsEnd client next place at content old new
Finds (answered.TooLong place) next client at content old new = ⊥
Finds answered.Worn next client at content old new = RunsOutAt client (found at content) old new
Finds answered.OutOfMemory next client at content old new = new ≡ old
