-- Runs of a book: its calls one after another, each with the reply and the book that it leaves.
use Rattle.std.specs.Prelude.{◌<◌, List, [], ◌∷◌, map}
use Rattle.ldm_model.specs.declared.event.Entry.{Entry}
use Rattle.ldm_model.specs.State.{State}
use Rattle.ldm_model.specs.History.{next_entry, IsPossible}
use Rattle.ldm_book.specs.View.{BookView}
use Rattle.ldm_book.specs.Answers.{Follows}
use Rattle.ldm_book.specs.Stands.{StandsFor}

-- a call that was made: who called what, the reply, and the book after it
pub record Made : Type 0 where
  pub entry : Entry
  pub book : BookView

-- A call that can be made, and is answered as the clause `answers` of the call says.
pub record IsCall (book : BookView) (made : Made) : Type 0 where
  pub actor : made.entry.actor < 64
  pub possible : IsPossible made.entry.event
  pub answers : (s : State) → StandsFor book s → Follows made.entry.reply made.book (next_entry s made.entry)

-- from a book on, each call is answered by the book that the one before it left
abbrev pub IsRun : BookView → List Made → Type 0
IsRun book [] = Unit {0}
IsRun book (made ∷ calls) = IsCall book made × IsRun made.book calls

-- the entries of a run
abbrev pub entries : List Made → List Entry
entries calls = map (λ (made : Made). made.entry) calls
