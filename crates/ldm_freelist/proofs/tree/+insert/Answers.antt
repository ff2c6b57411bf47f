use Rattle.std.proofs.Common.{arith}
use Rattle.ldm_freelist.specs.Pairs.{pair_cmp}
use Rattle.ldm_freelist.specs.Nodes.{pair_at}
use Rattle.ldm_freelist.proofs.Insert.{add_first, root_within, root_in_use, addable_left, addable_right, lower_left}
use Rattle.ldm_freelist.proofs.Insert.{lower_right, loose_after_left, loose_after_right, added_left, added_right, order_Greater, order_not_Greater}
use Rattle.ldm_freelist.proofs.tree.+insert.Goals as goal

pub returns-then-root-eq-NONE : goal.returns-then-root-eq-NONE
returns-then-root-eq-NONE g t c tree can = add_first c.args.table.now c.args.root c.args.fresh c.args.pair tree c.if-root-eq-NONE.true can

pub sides-left-requires : goal.sides-left-requires
sides-left-requires g t c =
    let can = c.requires.addable in
    root_within c.args.table.now c.args.root c.args.fresh c.args.pair can.0 can.1 c.if-root-eq-NONE.false

pub compare-order-requires-clause-in_use : goal.compare-order-requires-clause-in_use
compare-order-requires-clause-in_use g t c =
    let can = c.requires.addable in
    root_in_use c.args.table.now c.args.root c.args.fresh c.args.pair can.0 can.1 c.if-root-eq-NONE.false

pub insert-left-requires : goal.insert-left-requires
insert-left-requires g t c κs within =
    let can = c.requires.addable in
    let lower = lower_left c.args.table.now c.args.root c.args.fresh c.args.pair can.0 can.1 c.if-root-eq-NONE.false c.sides-left.result.0 c.sides-left.ensures.left in (
      omega (arith, lower, c.decreases),
      (
        within,
        (
          addable_left c.args.table.now c.args.root c.args.fresh c.args.pair can.0 can.1 c.if-root-eq-NONE.false c.sides-left.result.0 c.sides-left.ensures.left,
          omega (arith, lower, c.requires.few, c.compare-order.ensures.step),
        ),
      ),
    )

pub balance-requires : goal.balance-requires
balance-requires g t c =
    let can = c.requires.addable in
    loose_after_left c.args.table.now c.args.root c.args.fresh c.args.pair can.0 can.1 c.if-root-eq-NONE.false c.insert-left.new.table c.insert-left.result c.sides-left.result.0 c.sides-left.result.1
    c.sides-left.ensures.left c.sides-left.ensures.right (order_Greater {order = pair_cmp (pair_at c.args.table.now c.args.root) c.args.pair} c.compare-order.ensures.order c.is_gt.ensures
    c.if-is_gt.true) c.insert-left.ensures

pub insert-right-requires : goal.insert-right-requires
insert-right-requires g t c κs within =
    let can = c.requires.addable in
    let lower = lower_right c.args.table.now c.args.root c.args.fresh c.args.pair can.0 can.1 c.if-root-eq-NONE.false c.sides-left.result.1 c.sides-left.ensures.right in (
      omega (arith, lower, c.decreases),
      (
        within,
        (
          addable_right c.args.table.now c.args.root c.args.fresh c.args.pair can.0 can.1 c.if-root-eq-NONE.false c.sides-left.result.1 c.sides-left.ensures.right,
          omega (arith, lower, c.requires.few, c.compare-order.ensures.step),
        ),
      ),
    )

pub balance-requires-else-is_gt : goal.balance-requires-else-is_gt
balance-requires-else-is_gt g t c =
    let can = c.requires.addable in
    loose_after_right c.args.table.now c.args.root c.args.fresh c.args.pair can.0 can.1 c.if-root-eq-NONE.false c.insert-right.new.table c.insert-right.result c.sides-left.result.0
    c.sides-left.result.1
    c.sides-left.ensures.left c.sides-left.ensures.right (order_not_Greater {order = pair_cmp (pair_at c.args.table.now c.args.root) c.args.pair} c.compare-order.ensures.order
    c.is_gt.ensures c.if-is_gt.false) c.insert-right.ensures

pub returns-then-is_gt : goal.returns-then-is_gt
returns-then-is_gt g t c tree can =
    added_left c.args.table.now c.args.root c.args.fresh c.args.pair tree can c.if-root-eq-NONE.false c.insert-left.new.table c.balance.new.table c.insert-left.result c.sides-left.result.0
    c.sides-left.result.1 c.balance.result
    c.sides-left.ensures.left c.sides-left.ensures.right (order_Greater {order = pair_cmp (pair_at c.args.table.now c.args.root) c.args.pair} c.compare-order.ensures.order c.is_gt.ensures
    c.if-is_gt.true) c.insert-left.ensures c.balance.ensures

pub returns-else-is_gt : goal.returns-else-is_gt
returns-else-is_gt g t c tree can =
    added_right c.args.table.now c.args.root c.args.fresh c.args.pair tree can c.if-root-eq-NONE.false c.insert-right.new.table c.balance-else-is_gt.new.table c.insert-right.result
    c.sides-left.result.0 c.sides-left.result.1 c.balance-else-is_gt.result
    c.sides-left.ensures.left c.sides-left.ensures.right (order_not_Greater {order = pair_cmp (pair_at c.args.table.now c.args.root) c.args.pair} c.compare-order.ensures.order
    c.is_gt.ensures c.if-is_gt.false) c.insert-right.ensures c.balance-else-is_gt.ensures
