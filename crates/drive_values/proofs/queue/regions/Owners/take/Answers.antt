use Rattle.std.proofs.Common.{true, set, subst, sym, ap, arith}
use Rattle.ldm_types.specs.Arena.{Region}
use Rattle.ldm_regions.specs.Layout.{Layout}
use Rattle.drive_values.proofs.Marks.{Agree, agree-insert}
use Rattle.drive_values.proofs.queue.regions.Owners.take.Goals as goal

pub invariant_of-self-2-clause-agree : goal.invariant_of-self-2-clause-agree
invariant_of-self-2-clause-agree c =
    let owner = c.args.owner in
    let before = c.args.self.now in
    let region : Region = record { start = c.in_ok-start.start; extent = c.args.need } in
    let now = ap (λ (layout : Layout). layout.owned) c.in_ok-start.ensures.owned in
    subst (Agree (set before.owns.items owner true)) (sym now) (agree-insert before.owns.items before.regions.owned owner region (omega (arith, c.if-place-len.false, c.len.ensures, before.owns.ok.0)) before.agree)
