use Rattle.std.proofs.Common.{◌∙◌, ℕ, ap}
use Rattle.std.specs.Option.{unwrap_or}
use Rattle.ldm_image.proofs.JudgeLemmas.{cut_rejects}
use Rattle.ldm_image.proofs.open.cut_at.Goals as goal

pub returns : goal.returns
returns c =
    λ file sized rows cut.
    cut_rejects file c.args.sizes.now c.args.rows.now.notes.items c.args.rows.now.fault c.unwrap_or.result sized rows cut
    (c.unwrap_or.ensures ∙ ap (λ (d : ℕ). unwrap_or c.args.rows.now.fault d) c.row_start.ensures)
