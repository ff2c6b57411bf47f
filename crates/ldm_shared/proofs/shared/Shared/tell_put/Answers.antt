use Rattle.std.proofs.Common.{◌∙◌, ℕ, sym, ap, subst, arith}
use Rattle.ldm_shared.specs.Passes.{SharedView}
use Rattle.ldm_shared.specs.Putting.{HasPut}
use Rattle.ldm_shared.proofs.Telling.{putting}
use Rattle.ldm_shared.proofs.shared.Shared.tell_put.Goals as goal

pub store-requires : goal.store-requires
store-requires c = (
  c.requires.queue ∙ sym (ap (λ (v : SharedView). v.queue) c.self.view_is),
  (let words = c.self.invariant.words in let value = c.get.ensures.value in let bound = c.get.ensures.bound in omega arith),
  putting _ _ _ _ c.get.result c.args.n c.requires.passes (subst (λ (a : ℕ). HasPut a c.args.seat.now.me.0.seen c.args.n) (sym c.get.ensures.value) c.requires.put),
)
