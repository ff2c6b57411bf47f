use Rattle.std.proofs.Common.{replicate, ◌∙◌, ◌∷◌, [], ◌++◌, Some, List, sym, ap, subst}
use Rattle.std.specs.Prelude.{Option}
use Rattle.atomic_table.specs.Table as table
use Rattle.ldm_book.specs.View.{BookView}
use Rattle.ldm_shared.specs.Rule.{IsKept, opening}
use Rattle.ldm_shared.proofs.OpeningPlaces.{opened}
use Rattle.ldm_shared.proofs.shared.Shared.open.Goals as goal

pub new-requires : goal.new-requires
new-requires c =
    subst (λ (row : List (Option BookView)). IsKept c.args.sizes (table.opening (replicate 72 0) row (opening c.args.sizes)))
    (sym (c.push_reserved.ensures.items ∙ ap (λ (row : List (Option BookView)). row ++ Some c.args.book ∷ []) c.in_ok-row.ensures.items))
    (opened c.args.sizes c.args.book c.requires.stands)
