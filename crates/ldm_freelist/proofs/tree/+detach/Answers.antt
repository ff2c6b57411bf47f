use Rattle.std.proofs.Common.{arith}
use Rattle.ldm_freelist.specs.Pairs.{pair_cmp}
use Rattle.ldm_freelist.specs.Nodes.{pair_at}
use Rattle.ldm_freelist.proofs.Take.{low_within, low_in_use, lower_left, lower_right, there_left, there_right, there_top}
use Rattle.ldm_freelist.proofs.Take.{loose_after_left, loose_after_right, took_left, took_right, took_top, has_named, order_is}
use Rattle.ldm_freelist.proofs.tree.+detach.Goals as goal

pub sides-left-requires : goal.sides-left-requires
sides-left-requires g t c =
    let there = c.requires.there in
    low_within c.args.table.now c.args.root there.0 there.1 (has_named c.args.table.now c.args.root c.args.pair there.0 there.1.tree_is there.2)

pub compare-order-requires-clause-in_use : goal.compare-order-requires-clause-in_use
compare-order-requires-clause-in_use g t c =
    let there = c.requires.there in
    low_in_use c.args.table.now c.args.root there.0 there.1 (has_named c.args.table.now c.args.root c.args.pair there.0 there.1.tree_is there.2)

pub detach-left-requires : goal.detach-left-requires
detach-left-requires g t c κs within =
    let there = c.requires.there in
    let named = (has_named c.args.table.now c.args.root c.args.pair there.0 there.1.tree_is there.2) in
    let lower = lower_left c.args.table.now c.args.root there.0 there.1 named c.sides-left.result.0 c.sides-left.result.1 c.sides-left.ensures.left c.sides-left.ensures.right in (
      omega (arith, lower, c.decreases),
      (
        within,
        (
          there_left c.args.table.now c.args.root there.0 there.1 named c.sides-left.result.0 c.sides-left.result.1 c.sides-left.ensures.left c.sides-left.ensures.right c.args.pair
              (order_is {order = pair_cmp (pair_at c.args.table.now c.args.root) c.args.pair} c.compare-order.ensures.order c.in-Greater.is) there.2,
          omega (arith, lower, c.requires.few, c.compare-order.ensures.step),
        ),
      ),
    )

pub detach-right-requires : goal.detach-right-requires
detach-right-requires g t c κs within =
    let there = c.requires.there in
    let named = (has_named c.args.table.now c.args.root c.args.pair there.0 there.1.tree_is there.2) in
    let lower = lower_right c.args.table.now c.args.root there.0 there.1 named c.sides-left.result.0 c.sides-left.result.1 c.sides-left.ensures.left c.sides-left.ensures.right in (
      omega (arith, lower, c.decreases),
      (
        within,
        (
          there_right c.args.table.now c.args.root there.0 there.1 named c.sides-left.result.0 c.sides-left.result.1 c.sides-left.ensures.left c.sides-left.ensures.right c.args.pair
              (order_is {order = pair_cmp (pair_at c.args.table.now c.args.root) c.args.pair} c.compare-order.ensures.order c.in-Less.is) there.2,
          omega (arith, lower, c.requires.few, c.compare-order.ensures.step),
        ),
      ),
    )

pub balance-requires : goal.balance-requires
balance-requires g t c =
    let there = c.requires.there in
    loose_after_left c.args.table.now c.args.root there.0 there.1 (has_named c.args.table.now c.args.root c.args.pair there.0 there.1.tree_is there.2) c.sides-left.result.0
    c.sides-left.result.1 c.sides-left.ensures.left c.sides-left.ensures.right
    c.detach-left.new.table c.args.pair c.detach-left.result (order_is {order = pair_cmp (pair_at c.args.table.now c.args.root) c.args.pair} c.compare-order.ensures.order c.in-Greater.is)
    there.2 c.detach-left.ensures

pub balance-requires-in-Less : goal.balance-requires-in-Less
balance-requires-in-Less g t c =
    let there = c.requires.there in
    loose_after_right c.args.table.now c.args.root there.0 there.1 (has_named c.args.table.now c.args.root c.args.pair there.0 there.1.tree_is there.2) c.sides-left.result.0
    c.sides-left.result.1 c.sides-left.ensures.left c.sides-left.ensures.right
    c.detach-right.new.table c.args.pair c.detach-right.result (order_is {order = pair_cmp (pair_at c.args.table.now c.args.root) c.args.pair} c.compare-order.ensures.order c.in-Less.is)
    there.2 c.detach-right.ensures

pub detach_top-requires : goal.detach_top-requires
detach_top-requires g t c =
    let there = c.requires.there in
    there_top c.args.table.now c.args.root there.0 there.1 (has_named c.args.table.now c.args.root c.args.pair there.0 there.1.tree_is there.2) c.sides-left.result.0 c.sides-left.result.1
    c.sides-left.ensures.left c.sides-left.ensures.right

pub returns-in-Greater : goal.returns-in-Greater
returns-in-Greater g t c tree low has =
    took_left c.args.table.now c.args.root tree low (has_named c.args.table.now c.args.root c.args.pair tree low.tree_is has) c.sides-left.result.0 c.sides-left.result.1
    c.sides-left.ensures.left c.sides-left.ensures.right
    c.detach-left.new.table c.balance.new.table c.args.pair c.detach-left.result c.balance.result
    (order_is {order = pair_cmp (pair_at c.args.table.now c.args.root) c.args.pair} c.compare-order.ensures.order c.in-Greater.is) has c.detach-left.ensures c.balance.ensures

pub returns-in-Less : goal.returns-in-Less
returns-in-Less g t c tree low has =
    took_right c.args.table.now c.args.root tree low (has_named c.args.table.now c.args.root c.args.pair tree low.tree_is has) c.sides-left.result.0 c.sides-left.result.1
    c.sides-left.ensures.left c.sides-left.ensures.right
    c.detach-right.new.table c.balance-in-Less.new.table c.args.pair c.detach-right.result c.balance-in-Less.result
    (order_is {order = pair_cmp (pair_at c.args.table.now c.args.root) c.args.pair} c.compare-order.ensures.order c.in-Less.is) has c.detach-right.ensures c.balance-in-Less.ensures

pub returns-in-Equal : goal.returns-in-Equal
returns-in-Equal g t c tree low has =
    took_top c.args.table.now c.args.root tree low (has_named c.args.table.now c.args.root c.args.pair tree low.tree_is has) c.sides-left.result.0 c.sides-left.result.1
    c.sides-left.ensures.left c.sides-left.ensures.right
    c.detach_top.new.table c.args.pair c.detach_top.result (order_is {order = pair_cmp (pair_at c.args.table.now c.args.root) c.args.pair} c.compare-order.ensures.order c.in-Equal.is)
    c.detach_top.ensures
