use Rattle.std.proofs.Common.{◌∙◌, sym, ap, arith}
use Rattle.ldm_shared.specs.Passes.{SharedView}
use Rattle.ldm_shared.proofs.Keeping.{taking}
use Rattle.ldm_shared.proofs.shared.Shared.try_take.Goals as goal

pub compare_exchange-requires : goal.compare_exchange-requires
compare_exchange-requires c = (
  c.requires.ready.queue ∙ sym (ap (λ (v : SharedView). v.queue) c.self.view_is),
  (let words = c.self.invariant.words in omega arith),
  taking _ _ _ _ c.args.word c.requires.ready.idle c.requires.ready.passes c.requires.ready.free c.requires.even c.requires.may,
)
