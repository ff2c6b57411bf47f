use Rattle.std.proofs.Common.{ℕ, List, ◌++◌, drop, replicate, ap, ◌∙◌}
use Rattle.std.proofs.lemmas.List.{drop-replicate}
use Rattle.ldm_journal.specs.Format.{opening, zeros}
use Rattle.ldm_journal.proofs.make.front_of.Goals as goal

pub returns : goal.returns
unfolding zeros
returns c =
    ap (λ (l : List ℕ). l ++ drop 24 (replicate 12288 0)) (c.copy_from_slice.ensures.after ∙ c.opening.ensures)
    ∙ ap (λ (l : List ℕ). opening c.args.ring ++ l) (drop-replicate 24 12288 0)
