use Rattle.std.proofs.Common.{false, set, subst, sym, ap, arith}
use Rattle.ldm_regions.specs.Layout.{Layout}
use Rattle.drive_values.proofs.Marks.{Agree, agree-remove}
use Rattle.drive_values.proofs.queue.regions.Owners.give_back.Goals as goal

pub invariant_of-self-clause-agree : goal.invariant_of-self-clause-agree
invariant_of-self-clause-agree c =
    let owner = c.args.owner in
    let before = c.args.self.now in
    let now = ap (λ (layout : Layout). layout.owned) c.give_back.ensures.owned in
    subst (Agree (set before.owns.items owner false)) (sym now) (agree-remove before.owns.items before.regions.owned owner (omega (arith, c.if-place-len.true, c.len.ensures, before.owns.ok.0)) before.agree)
