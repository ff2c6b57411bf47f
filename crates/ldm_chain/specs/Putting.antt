-- Products that are put into a queue, one after another.
use Rattle.std.specs.Prelude.{ℕ, List, [], ◌∷◌}
use Rattle.ldm_model.specs.declared.event.Entry.{Entry}
use Rattle.ldm_model.specs.State.{State, Queued}
use Rattle.ldm_model.specs.Insert.{insert}
use Rattle.ldm_model.specs.History.{after, IsLegal}
use Rattle.ldm_book.specs.View.{BookView}
use Rattle.ldm_book.specs.Stands.{StandsFor}

-- the state after these products were inserted, each at its own insertion time
abbrev pub inserted_all : List Queued → State → State
inserted_all [] s = s
inserted_all (q ∷ behind) s = inserted_all behind (insert s q.time q.product).state

-- The book stands for the state after a legal history of a queue.
pub record StandsAfter (book : BookView) : Type 0 where
  pub arena : ℕ
  pub slots : ℕ
  pub history : List Entry
  pub legal : IsLegal arena slots history
  pub stands : StandsFor book (after arena slots history)
