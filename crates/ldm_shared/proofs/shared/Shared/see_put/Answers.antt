use Rattle.std.proofs.Common.{◌≡◌, ◌+◌, ◌-◌, ◌∙◌, ℕ, sym, ap, subst, arith}
use Rattle.ldm_shared.specs.Passes.{SharedView}
use Rattle.ldm_shared.specs.Putting.{HasPut}
use Rattle.ldm_shared.proofs.Telling.{looking_at_put}
use Rattle.ldm_shared.proofs.shared.Shared.see_put.Goals as goal

pub load-requires : goal.load-requires
load-requires c = (
  c.requires.queue ∙ sym (ap (λ (v : SharedView). v.queue) c.self.view_is),
  (let words = c.self.invariant.words in let value = c.get.ensures.value in let bound = c.get.ensures.bound in omega arith),
  looking_at_put _ _ _ _ c.get.result c.requires.idle c.requires.passes c.requires.free,
)

pub returns-clause-put : goal.returns-clause-put
returns-clause-put c n told =
    let value : c.get.result ≡ c.args.actor = c.get.ensures.value in
    let back : 8 + c.get.result - 8 ≡ c.args.actor = omega (arith, value) in
    subst (λ (a : ℕ). HasPut a c.load.new.seat.me.0.seen n) back (c.load.ensures.2.3 n told)
