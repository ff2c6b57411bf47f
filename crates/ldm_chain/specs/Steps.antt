-- What the steps of playing a script do. No caller needs it.
use Rattle.std.specs.Prelude.{◌≡◌, Some, None, Result, Ok, Err}
use Rattle.ldm_script.specs.Resolve.{Playing}
use Rattle.ldm_play.specs.Play.{Played}
use Rattle.ldm_play.specs.PlayerView.{PlayerView, StandsForPlay}
use Rattle.ldm_play.specs.Legal.{StaysLegal}
use Rattle.ldm_chain.specs.declared.playing.BadLine.{BadLine}

-- the player stands for a later play, and its calls are still a legal history
pub record Follows (p later : Playing) (player : PlayerView) : Type 0 where
  pub stands : StandsForPlay player later
  pub legal : StaysLegal p later

-- lines were played, to their end or to a bad line
abbrev pub Plays : Result (Unit {0}) BadLine → Playing → Played → PlayerView → Type 0
Plays (Ok done) p played player = (played.stop ≡ None) × Follows p played.playing player
Plays (Err bad) p played player = played.stop ≡ Some (record { line = bad.line; column = bad.column })
