use Rattle.std.proofs.Common.{◌∙◌, sym, ap, arith}
use Rattle.ldm_shared.specs.Passes.{SharedView}
use Rattle.ldm_shared.proofs.Keeping.{looking}
use Rattle.ldm_shared.proofs.shared.Shared.see.Goals as goal

pub load-requires : goal.load-requires
load-requires c = (
  c.requires.queue ∙ sym (ap (λ (v : SharedView). v.queue) c.self.view_is),
  (let words = c.self.invariant.words in omega arith),
  looking _ _ _ _ c.requires.idle c.requires.passes c.requires.free,
)
