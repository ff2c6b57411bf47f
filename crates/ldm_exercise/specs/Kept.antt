-- What is kept of orders that were played.
use Rattle.std.specs.Prelude.{◌≡◌, List}
use Rattle.md5.specs.Md5.{Holds}
use Rattle.ldm_model.specs.declared.event.Reply.{Reply}
use Rattle.ldm_model.specs.History.{IsLegal, after}
use Rattle.ldm_book.specs.View.{BookView}
use Rattle.ldm_book.specs.Stands.{StandsFor}
use Rattle.ldm_exercise.specs.declared.answers.Answers.{Answers}
use Rattle.ldm_exercise.specs.Playing.{Exercised, arena, slots, answer_text}
use Rattle.ldm_exercise.specs.Counts.{counts_of}

-- the digest has taken the answer lines of these replies, and the tally counts them
pub record Keeps (answers : Answers) (replies : List Reply) : Type 0 where
  pub digest : Holds answers.digest (answer_text replies)
  pub tally : answers.tally ≡ counts_of replies

-- What a contract sees of a player.
pub record PlayerView : Type 0 where
  pub book : BookView
  pub answers : Answers

-- These orders were played: their calls are a legal history, the book stands for the state after it, and the answers are kept.
pub record HasPlayed (player : PlayerView) (e : Exercised) : Type 0 where
  pub legal : IsLegal arena slots e.playing.history
  pub state : e.playing.state ≡ after arena slots e.playing.history
  pub stands : StandsFor player.book e.playing.state
  pub keeps : Keeps player.answers e.replies
