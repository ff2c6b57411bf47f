-- A script that is played on a new book.
use Rattle.std.specs.Prelude.{◌≡◌, ℕ, List, Some, None}
use Rattle.ldm_book.specs.View.{BookView}
use Rattle.ldm_book.specs.Stands.{StandsFor}
use Rattle.ldm_script.specs.Lines.{lines_of}
use Rattle.ldm_script.specs.Resolve.{new_play}
use Rattle.ldm_play.specs.Play.{Played, play}
use Rattle.ldm_play.specs.Legal.{IsLegalPlay}
use Rattle.ldm_chain.specs.declared.playing.PlayFault.{PlayFault}
use Rattle.ldm_chain.specs.declared.playing.PlayFault.TheVariants.{BadLine, OutOfMemory}

-- what playing a script on a new queue of that size comes to
abbrev pub script_played : ℕ → ℕ → List ℕ → Played
script_played arena slots text = play 1 (new_play arena slots) (lines_of text)

-- A script was played to its end. Its calls are a legal history, and the book stands for the state after it.
pub record HasPlayed (arena slots : ℕ) (text : List ℕ) (book : BookView) : Type 0 where
  pub to_end : (script_played arena slots text).stop ≡ None
  pub legal : IsLegalPlay arena slots (script_played arena slots text).playing
  pub stands : StandsFor book (script_played arena slots text).playing.state

-- why it was not
abbrev pub IsPlayFault : ℕ → ℕ → List ℕ → PlayFault → Type 0
IsPlayFault arena slots text (BadLine line column) = (script_played arena slots text).stop ≡ Some (record { line = line; column = column })
IsPlayFault arena slots text OutOfMemory = Unit {0}
