use Rattle.std.proofs.Common.{refl, sym, ap, subst, Option, List, ℕ}
use Rattle.std.specs.Option.{option_copied}
use Rattle.ldm_chain.specs.Policy.{TakesRules}
use Rattle.ldm_chain.proofs.policy.take_policy.Goals as goal

pub returns-in-Ok-clause-taken : goal.returns-in-Ok-clause-taken
returns-in-Ok-clause-taken g c =
    subst (λ (path : Option (List ℕ)). TakesRules path c.in-Ok.conf.policy (g.F.Store.tells c.args.store.now) (g.F.Store.tells c.take_conf.new.store))
    (sym (ap option_copied c.in-Some.is)) (c.in-Ok.conf, c.in-Ok.ensures.takes, refl)
