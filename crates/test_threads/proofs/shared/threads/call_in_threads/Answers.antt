use Rattle.std.proofs.Common.{get_or, subst}
use Rattle.ldm_shared.specs.Passes.{PassView, IsSamePass}
use Rattle.ldm_shared.proofs.CallerLemmas.{still_are_all}
use Rattle.test_threads.proofs.shared.threads.call_in_threads.Goals as goal

pub returns : goal.returns
returns g c =
    still_are_all c.args.shared.now c.args.passes.now c.for_each_mut.new.s c.requires c.for_each_mut.auto.s
    (λ i d less.
    let at = (c.for_each_mut.ensures i d less).1 in
    subst (λ (p : PassView). IsSamePass p (get_or c.for_each_mut.new.s i d)) at.argument_is (subst (IsSamePass at.argument.now) at.left at.call))
