-- What the queue answers to the orders of an exercise.
use Rattle.std.specs.Prelude.{ℕ, List, [], ◌∷◌, ◌++◌}
use Rattle.std.specs.List.{flat_map}
use Rattle.ldm_model.specs.declared.event.Reply.{Reply}
use Rattle.ldm_script.specs.Order.{Order}
use Rattle.ldm_script.specs.Resolve.{Playing, new_play, answer_order}
use Rattle.ldm_answers.specs.Answer.{answer_line}
use Rattle.ldm_exercise.specs.Orders.{script}

-- orders that were played: the replies to them, in order, and the play that they led to
pub record Exercised : Type 0 where
  pub replies : List Reply
  pub playing : Playing

-- one order more
abbrev pub and_played : Exercised → Order → Exercised
and_played e order = record {
  replies = e.replies ++ (answer_order e.playing order).reply ∷ [];
  playing = (answer_order e.playing order).playing;
}

-- more orders, one after another
abbrev pub played_on : Exercised → List Order → Exercised
played_on e [] = e
played_on e (order ∷ orders) = played_on (and_played e order) orders

-- the queue of an exercise has so many bytes in its arena, and so many slots
abbrev pub arena : ℕ
arena = 1048576

abbrev pub slots : ℕ
slots = 1024

-- nothing was played yet
abbrev pub nothing_played : Exercised
nothing_played = record { replies = []; playing = new_play arena slots }

-- the whole script of `exercise NUMBER COUNT`, played on a new queue
abbrev pub exercised : ℕ → ℕ → Exercised
exercised number count = played_on nothing_played (script number count)

-- the answer lines, with their newlines
abbrev pub answer_text : List Reply → List ℕ
answer_text replies = flat_map answer_line replies
