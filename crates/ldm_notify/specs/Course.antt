-- The turns of a session of notices, as code makes them: it makes some and can go on, or it ends behind some, perhaps
-- within one. The link gives nothing meanwhile.
use Rattle.std.specs.Prelude.{ℕ, List, [], Result, Ok, Err}
use Rattle.ldm_sender.specs.declared.end.SendEnd.{SendEnd}
use Rattle.ldm_sender.specs.declared.standing.Standing.{Standing}
use Rattle.ldm_sender.specs.Asked.{Asked}
use Rattle.ldm_sender.specs.Acts.{Situation}
use Rattle.ldm_sender.specs.Course as sender
use Rattle.ldm_notify.specs.Turn.{Row, Handling, Turn, notice_kind}

-- Turns were made, and the cursor can go on.
abbrev pub MakesTurns : Asked → ℕ → (standing standing' : Standing) → (old new : Situation) → Type 0
MakesTurns asked k standing standing' old new =
    (turns : List Turn) × sender.MakesTurns notice_kind asked k standing standing' turns [] old new

-- Turns were made, and then it ended.
abbrev pub EndsTurns : SendEnd → Asked → ℕ → Standing → (old new : Situation) → Type 0
EndsTurns why asked k standing old new =
    (course : sender.Course Row Handling) × sender.EndsTurns notice_kind why asked k standing course [] old new

abbrev pub TurnsBy : Result (Unit {0}) SendEnd → Asked → ℕ → (standing standing' : Standing) → (old new : Situation)
    → Type 0
TurnsBy (Ok done) asked k standing standing' old new = MakesTurns asked k standing standing' old new
TurnsBy (Err why) asked k standing standing' old new = EndsTurns why asked k standing old new
