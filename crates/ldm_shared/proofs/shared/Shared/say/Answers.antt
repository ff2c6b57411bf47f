use Rattle.std.proofs.Common.{◌∙◌, sym, ap, arith}
use Rattle.ldm_shared.specs.Passes.{SharedView}
use Rattle.ldm_shared.proofs.Keeping.{saying}
use Rattle.ldm_shared.proofs.shared.Shared.say.Goals as goal

pub store-requires : goal.store-requires
store-requires c = (
  c.requires.queue ∙ sym (ap (λ (v : SharedView). v.queue) c.self.view_is),
  (let words = c.self.invariant.words in omega arith),
  saying _ _ _ _ (λ _. 1) (λ n few. omega arith),
)
