-- What the steps of a play do: an order, a line, a piece of the script, the end of the script.
use Rattle.std.specs.Prelude.{◌≡◌, ◌⊎◌, ℕ, ◌+◌, ◌≤◌, List, true, false, length, Some, None, Result, Ok, Err}
use Rattle.ldm_outside.specs.Count.{Rose}
use Rattle.ldm_outside.specs.Io.{SinkRecord, Takes, WritesFront}
use Rattle.ldm_script.specs.declared.line.TheConstants.{LONGEST_LINE}
use Rattle.ldm_script.specs.Resolve.{Playing}
use Rattle.ldm_play.specs.declared.player.LineFault.{LineFault}
use Rattle.ldm_play.specs.declared.player.LineFault.TheVariants as stop
use Rattle.ldm_script.specs.Lines.{cut, whole_lines, lines_of}
use Rattle.ldm_play.specs.Lines.{known_lines}
use Rattle.ldm_play.specs.Play.{Played, play}
use Rattle.ldm_play.specs.PlayerView.{PlayerView, StandsForPlay}
use Rattle.ldm_play.specs.PendingView.{PendingView}
use Rattle.ldm_play.specs.Legal.{StaysLegal}
use Rattle.ldm_play.specs.Ending.{StopsAt}

-- why a line stopped the play, and what was written then
abbrev pub LineStops : LineFault → Playing → Played → SinkRecord → SinkRecord → Type 0
LineStops (stop.BadLine line column) p played old new = (played.stop ≡ Some (record { line = line; column = column })) × (new.written ≡ old.written)
LineStops stop.SinkFault p played old new = (played.stop ≡ None) × Rose old.faults new.faults × WritesFront old played.text new × StaysLegal p played.playing

-- a line was played
abbrev pub LineGives : Result (Unit {0}) LineFault → Playing → Played → PlayerView → SinkRecord → SinkRecord → Type 0
LineGives (Ok done) p played player old new = (played.stop ≡ None) × StandsForPlay player played.playing × Takes old played.text new × StaysLegal p played.playing
LineGives (Err why) p played player old new = LineStops why p played old new

-- The play of a script goes on: its whole lines are answered, and the player and the unfinished line, which is not too
-- long yet, are those that follow.
pub record GoesOn (p : Playing) (script : List ℕ) (player : PlayerView) (pending : PendingView) (old new : SinkRecord) : Type 0 where
  pub running : (play 1 p (whole_lines script)).stop ≡ None
  pub stands : StandsForPlay player (play 1 p (whole_lines script)).playing
  pub legal : StaysLegal p (play 1 p (whole_lines script)).playing
  pub number : pending.number ≡ 1 + length (whole_lines script)
  pub unfinished : (cut script).unfinished ≡ pending.bytes
  pub short : length pending.bytes ≤ LONGEST_LINE
  pub written : Takes old (play 1 p (whole_lines script)).text new
  pub faults_kept : old.faults ≤ new.faults

-- a piece of a script was played: it goes on with the piece, or it stopped at a line that is known by then
abbrev pub PieceGives : Result (Unit {0}) LineFault → Playing → List ℕ → PlayerView → PendingView → SinkRecord → SinkRecord → Type 0
PieceGives (Ok done) p script player pending old new = GoesOn p script player pending old new
PieceGives (Err why) p script player pending old new = StopsAt why p (known_lines false script) old new

-- All lines of a script are answered, and the player stands for the play that follows.
pub record AnswersScript (p : Playing) (script : List ℕ) (player : PlayerView) (old new : SinkRecord) : Type 0 where
  pub running : (play 1 p (lines_of script)).stop ≡ None
  pub written : Takes old (play 1 p (lines_of script)).text new
  pub legal : StaysLegal p (play 1 p (lines_of script)).playing
  pub stands : StandsForPlay player (play 1 p (lines_of script)).playing

-- the end of a script came, and its last line was played
abbrev pub EndGives : Result (Unit {0}) LineFault → Playing → List ℕ → PlayerView → SinkRecord → SinkRecord → Type 0
EndGives (Ok done) p script player old new = AnswersScript p script player old new
EndGives (Err why) p script player old new = StopsAt why p (known_lines true script) old new

-- What was played is handed on: all of it; or the sink failed, and took no more.
abbrev pub IsFlushed : (result played : Result (Unit {0}) LineFault) → SinkRecord → SinkRecord → Type 0
IsFlushed result played old new =
    ((result ≡ played) × (new ≡ old)) ⊎ ((result ≡ Err stop.SinkFault) × Rose old.faults new.faults × (new.written ≡ old.written))
