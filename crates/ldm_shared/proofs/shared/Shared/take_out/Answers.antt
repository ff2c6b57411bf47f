use Rattle.std.proofs.Common.{◌∙◌, ◌∷◌, ℕ, List, Some, sym, ap}
use Rattle.atomic_table.specs.Table.{rest}
use Rattle.ldm_book.specs.View.{BookView}
use Rattle.ldm_shared.specs.Passes.{SharedView}
use Rattle.std.specs.Prelude.{Option}
use Rattle.ldm_shared.proofs.shared.Shared.take_out.Goals as goal

pub exchange-requires : goal.exchange-requires
exchange-requires c =
    let taken = c.requires.taken.taken in (
      c.requires.queue ∙ sym (ap (λ (v : SharedView). v.queue) c.self.view_is),
      (Some c.requires.taken.book, taken ∙ ap (λ (l : List (ℕ × Option BookView)). (0, Some c.requires.taken.book) ∷ rest l) (sym taken)),
    )
