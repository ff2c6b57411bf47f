use Rattle.std.proofs.Common.{◌∙◌, ◌++◌, ◌∷◌, [], sym, ap, subst, arith}
use Rattle.ldm_crowd.specs.OrdersView.{ActorLinesView}
use Rattle.ldm_crowd.proofs.Dealing.{AreUnread, unread-more}
use Rattle.ldm_crowd.proofs.orders.no_lines.Goals as goal

pub loop-alloc-preserved : goal.loop-alloc-preserved
loop-alloc-preserved c =
    let inv = c.loop-alloc.invariant in
    let parts = c.loop-alloc.parts.items in (
      omega (arith, c.push_reserved.ensures.len, c.loop-alloc-test.true, c.len.ensures, inv.0),
      omega (arith, c.push_reserved.ensures.capacity, inv.1),
      subst (AreUnread c.args.actors) (sym (c.push_reserved.ensures.items ∙ ap (λ (part : ActorLinesView). parts ++ part ∷ []) c.new.ensures)) (unread-more c.args.actors parts inv.2),
    )
