-- The turns of a feeding, as code makes them: it makes some and can go on, or it ends behind some, perhaps within one.
-- The replies of the peer are heard meanwhile.
use Rattle.std.specs.Prelude.{ℕ, List, Result, Ok, Err}
use Rattle.ldm_shared.specs.Passes.{PassView}
use Rattle.ldm_session.specs.declared.replies.Replies.{Replies}
use Rattle.ldm_sender.specs.declared.end.SendEnd.{SendEnd}
use Rattle.ldm_sender.specs.declared.standing.Standing.{Standing}
use Rattle.ldm_sender.specs.Asked.{Asked}
use Rattle.ldm_sender.specs.Acts.{Situation}
use Rattle.ldm_sender.specs.Course as sender
pub use Rattle.ldm_sender.specs.Course.{IsLastOf}
use Rattle.ldm_upstream.specs.Turn.{Given, Handling, Turn, feeding_kind}
use Rattle.ldm_upstream.specs.Turns.{after_turns, codes_of_turns}
use Rattle.ldm_upstream.specs.Heard.{HearsOn, HearsLast}

-- turns, and how the last one ended
abbrev pub Course : Type 0
Course = sender.Course Given Handling

-- each product is the one of its number in what was seen
abbrev pub AreRows : PassView → List Given → Type 0
AreRows pass givens = sender.AreRows feeding_kind pass givens

-- Turns were made, and the cursor can go on.
pub record MakesTurns (asked : Asked) (k : ℕ) (standing standing' : Standing) (old new : Situation)
    (replies replies' : Replies) : Type 0 where
  pub turns : List Turn
  pub came : List ℕ
  pub makes : sender.MakesTurns feeding_kind asked k standing standing' turns came old new
  pub heard : HearsOn came (codes_of_turns standing turns) replies replies'

-- Turns were made, and then it ended.
pub record EndsTurns (why : SendEnd) (asked : Asked) (k : ℕ) (standing : Standing) (old new : Situation)
    (replies : Replies) : Type 0 where
  pub course : Course
  pub came : List ℕ
  pub ends : sender.EndsTurns feeding_kind why asked k standing course came old new
  pub heard : HearsLast why (after_turns standing course.turns).next came (codes_of_turns standing course.turns) replies

abbrev pub TurnsBy : Result (Unit {0}) SendEnd → Asked → ℕ → (standing standing' : Standing) → (old new : Situation)
    → (replies replies' : Replies) → Type 0
TurnsBy (Ok done) asked k standing standing' old new replies replies' =
    MakesTurns asked k standing standing' old new replies replies'
TurnsBy (Err why) asked k standing standing' old new replies replies' = EndsTurns why asked k standing old new replies
