-- What a contract sees of a player, and which play it stands for.
use Rattle.std.specs.Prelude.{◌≡◌, ℕ, List}
use Rattle.ldm_book.specs.View.{BookView}
use Rattle.ldm_book.specs.Stands.{StandsFor}
use Rattle.ldm_answers.specs.Answer.{answer_line}
use Rattle.ldm_script.specs.Resolve.{Playing, Answered}
use Rattle.ldm_script.specs.declared.order.LastPlaces.{LastPlaces}
use Rattle.ldm_play.specs.Legal.{StaysLegal}

pub record PlayerView : Type 0 where
  pub book : BookView
  -- for each actor, the places that it was last answered `opened` and `reserved`
  pub last : List LastPlaces

-- the book stands for the state of the queue, and the places are those that were answered last
pub record StandsForPlay (player : PlayerView) (p : Playing) : Type 0 where
  pub state : StandsFor player.book p.state
  pub last : player.last ≡ p.last

-- An order was answered in a play: the player stands for the play that follows, and this is the answer line.
pub record AnswersOrder (p : Playing) (answered : Answered) (player : PlayerView) (text : List ℕ) : Type 0 where
  pub stands : StandsForPlay player answered.playing
  pub legal : StaysLegal p answered.playing
  pub written : text ≡ answer_line answered.reply
