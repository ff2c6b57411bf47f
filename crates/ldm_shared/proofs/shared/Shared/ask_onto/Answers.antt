use Rattle.std.proofs.Common.{◌∙◌, ◌∷◌, ℕ, List, Some, refl, sym, ap, rules}
use Rattle.std.specs.Prelude.{Option}
use Rattle.atomic_table.specs.Table.{rest}
use Rattle.ldm_book.specs.View.{BookView}
use Rattle.ldm_shared.specs.Passes.{SharedView}
use Rattle.ldm_shared.proofs.shared.Shared.ask_onto.Goals as goal

pub slot_mut-requires : goal.slot_mut-requires
slot_mut-requires g c =
    let turn = c.requires.turn.1 in
    let book = c.requires.turn.0 in (
      turn.queue ∙ sym (ap (λ (v : SharedView). v.queue) c.self.view_is),
      (Some book, turn.slot ∙ ap (λ (l : List (ℕ × Option BookView)). (0, Some book) ∷ rest l) (sym turn.slot)),
    )

pub returns-clause-asked : goal.returns-clause-asked
returns-clause-asked g c = (_, _, _, _, c.ask.ensures, refl, refl, search rules, search rules)
