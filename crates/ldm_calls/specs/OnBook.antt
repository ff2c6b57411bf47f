-- What a book answers to an actor.
use Rattle.std.specs.Prelude.{ℕ}
use Rattle.ldm_model.specs.declared.event.Event.{Event}
use Rattle.ldm_model.specs.declared.event.Reply.{Reply}
use Rattle.ldm_book.specs.View.{BookView}
use Rattle.ldm_book.specs.Runs.{IsCall}

-- The event is one that a call can be given. For every state that the book stands for, the reply is that of the queue, and the book
-- that is left stands for the state that follows.
abbrev pub BookAnswers : ℕ → BookView → Event → Reply → BookView → Type 0
BookAnswers actor book event reply new = IsCall book (record { entry = record { actor = actor; event = event; reply = reply }; book = new })
