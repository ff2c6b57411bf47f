-- How the play of a script ends, and what stands then.
use Rattle.std.specs.Prelude.{◌≡◌, ℕ, ◌<◌, ◌≤◌, Bool, true, false, List, ◌++◌, length, Some, None, Result, Ok, Err}
use Rattle.ldm_outside.specs.Count.{Rose}
use Rattle.ldm_outside.specs.Io.{SinkRecord, Gives, Takes, WritesFront}
use Rattle.ldm_status.specs.Streams.{StreamsRecord, IsUntouched, AtEnd}
use Rattle.ldm_script.specs.Resolve.{Playing, new_play}
use Rattle.ldm_book.specs.Limits.{IsGoodArena, IsGoodSlots, IsFaultOf}
use Rattle.ldm_book.specs.declared.fault.CreateFault.{CreateFault}
use Rattle.ldm_play.specs.declared.play_command.TheConstants.{SCRIPT_LIMIT}
use Rattle.ldm_play.specs.declared.play_command.ScriptEnd.{ScriptEnd}
use Rattle.ldm_play.specs.declared.play_command.ScriptEnd.TheVariants as script_end
use Rattle.ldm_play.specs.declared.player.LineFault.{LineFault}
use Rattle.ldm_play.specs.declared.player.LineFault.TheVariants as stop
use Rattle.ldm_play.specs.Legal.{StaysLegal}
use Rattle.ldm_play.specs.Lines.{known_lines}
use Rattle.ldm_play.specs.Play.{play}

-- what a queue is made with
pub record Size : Type 0 where
  -- bytes of the arena
  pub arena : ℕ
  pub slots : ℕ

-- the lines of a script that are known before its end are answered, and nothing else is written
pub record AnswersKnownLines (p : Playing) (script : List ℕ) (old new : SinkRecord) : Type 0 where
  pub running : (play 1 p (known_lines false script)).stop ≡ None
  pub written : Takes old (play 1 p (known_lines false script)).text new
  pub legal : StaysLegal p (play 1 p (known_lines false script)).playing

-- A front of the answers to these lines is written, no longer than the answers to the first of them, whose calls were made.
pub record WritesFirst (p : Playing) (lines : List (List ℕ)) (old new : SinkRecord) : Type 0 where
  pub first : List (List ℕ)
  pub rest : List (List ℕ)
  pub are : first ++ rest ≡ lines
  pub written : WritesFront old (play 1 p first).text new
  pub legal : StaysLegal p (play 1 p first).playing

-- Why a play stopped at one of these lines, and what was written then.
abbrev pub StopsAt : LineFault → Playing → List (List ℕ) → SinkRecord → SinkRecord → Type 0
-- a line is outside the grammar: all lines before it are answered
StopsAt (stop.BadLine line column) p lines old new =
    ((play 1 p lines).stop ≡ Some (record { line = line; column = column })) × Takes old (play 1 p lines).text new × StaysLegal p (play 1 p lines).playing
-- the sink failed: a front of the answers is written
StopsAt stop.SinkFault p lines old new = Rose old.faults new.faults × WritesFront old (play 1 p lines).text new × WritesFirst p lines old new

-- What playing a script leaves, by the bytes that were taken.
abbrev pub ScriptEnds : ScriptEnd → Playing → List ℕ → StreamsRecord → StreamsRecord → Type 0
-- the script was read to its end, and all its lines are answered
ScriptEnds script_end.Done p script old new =
    (length script < SCRIPT_LIMIT) × AtEnd old.source new.source × ((play 1 p (known_lines true script)).stop ≡ None) × Takes old.sink (play 1 p (known_lines true script)).text new.sink
    × StaysLegal p (play 1 p (known_lines true script)).playing
-- as many bytes were taken as are too many
ScriptEnds script_end.StreamLimit p script old new = (length script ≡ SCRIPT_LIMIT) × AnswersKnownLines p script old.sink new.sink
-- the source failed
ScriptEnds script_end.SourceFault p script old new =
    (length script < SCRIPT_LIMIT) × Rose old.source.faults new.source.faults × AnswersKnownLines p script old.sink new.sink
-- the play stopped, at a line that was known by then
ScriptEnds (script_end.Stopped why) p script old new =
    (ended : Bool) × (ended ≡ true → AtEnd old.source new.source) × StopsAt why p (known_lines ended script) old.sink new.sink

-- a script was taken from the source, at most as many bytes as are too many, and its play ended so
pub record PlaysScript (ending : ScriptEnd) (p : Playing) (old new : StreamsRecord) : Type 0 where
  pub script : List ℕ
  pub taken : Gives old.source script new.source
  pub limit : length script ≤ SCRIPT_LIMIT
  pub ends : ScriptEnds ending p script old new

-- How a play with a queue of that size ends.
abbrev pub PlayEnds : Result ScriptEnd CreateFault → Size → StreamsRecord → StreamsRecord → Type 0
-- the queue was made, and a script was played on it
PlayEnds (Ok ending) size old new = IsGoodArena size.arena × IsGoodSlots size.slots × PlaysScript ending (new_play size.arena size.slots) old new
-- there is no such queue or no memory, and nothing was read or written
PlayEnds (Err fault) size old new = IsFaultOf size.arena size.slots fault × IsUntouched old new
