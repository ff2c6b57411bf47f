-- What playing the lines of a script writes, and where it stops.
use Rattle.std.specs.Prelude.{ℕ, ◌+◌, is_some, List, [], ◌∷◌, ◌++◌, Option, Some, None, Result, Ok, Err, if◌then◌else◌}
use Rattle.ldm_script.specs.Order.{Order}
use Rattle.ldm_script.specs.Grammar.{read_line}
use Rattle.ldm_script.specs.Resolve.{Playing, Answered, answer_order}
use Rattle.ldm_answers.specs.Answer.{answer_line}

-- a line outside the grammar: its number in the script, from 1, and the column of its first fault
pub record BadLine : Type 0 where
  pub line : ℕ
  pub column : ℕ

pub record Played : Type 0 where
  -- all that is written
  pub text : List ℕ
  -- the queue, and the places that each actor was last answered
  pub playing : Playing
  -- the line at which the play stops
  pub stop : Option BadLine

abbrev pub nothing_played : Playing → Played
nothing_played p = record { text = []; playing = p; stop = None }

abbrev pub stopped_at : Playing → BadLine → Played
stopped_at p bad = record { text = []; playing = p; stop = Some bad }

-- the reply is answered by one line
abbrev pub answer_written : Answered → Played
answer_written answered = record { text = answer_line answered.reply; playing = answered.playing; stop = None }

-- a line of that number in the script, by what it was read as
abbrev pub play_reading : ℕ → Playing → Result (Option Order) ℕ → Played
play_reading number p (Ok None) = nothing_played p
play_reading number p (Ok (Some order)) = answer_written (answer_order p order)
play_reading number p (Err column) = stopped_at p (record { line = number; column = column })

-- there are 64 actors
unfoldable pub play_line : ℕ → Playing → List ℕ → Played
play_line number p line = play_reading number p (read_line 64 line)

-- what was played, and what is played behind it, unless the play stopped
abbrev pub followed : Played → Played → Played
followed first behind =
    if is_some first.stop
    then first
    else record { text = first.text ++ behind.text; playing = behind.playing; stop = behind.stop }

-- lines, one after another, of which the first has that number
abbrev pub play : ℕ → Playing → List (List ℕ) → Played
play number p [] = nothing_played p
play number p (line ∷ lines) = followed (play_line number p line) (play (number + 1) (play_line number p line).playing lines)
