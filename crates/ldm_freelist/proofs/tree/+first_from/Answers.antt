use Rattle.std.proofs.Common.{ℕ, Option, subst, arith}
use Rattle.ldm_freelist.specs.Pairs.{pair_cmp}
use Rattle.ldm_freelist.specs.Nodes.{pair_at}
use Rattle.ldm_freelist.specs.Tree.{Finds}
use Rattle.ldm_freelist.proofs.Search.{tree_root_within, tree_root_in_use, tree_left, tree_right, tree_left_lower, tree_right_lower, tree_left_near, tree_right_near, no_height, found_none, found_left, found_right, test_of, told_pair}
use Rattle.ldm_freelist.proofs.tree.+first_from.Goals as goal

pub returns-then-root-eq-NONE-clause-found : goal.returns-then-root-eq-NONE-clause-found
returns-then-root-eq-NONE-clause-found g t c tree is = found_none c.args.table.now c.args.root tree (c.args.need, 0) c.args.other is c.if-root-eq-NONE.true

pub sides-left-requires : goal.sides-left-requires
sides-left-requires g t c = tree_root_within c.args.table.now c.args.root c.requires.tree.0 c.requires.tree.1 c.if-root-eq-NONE.false

pub compare-order-requires-clause-in_use : goal.compare-order-requires-clause-in_use
compare-order-requires-clause-in_use g t c = tree_root_in_use c.args.table.now c.args.root c.requires.tree.0 c.requires.tree.1 c.if-root-eq-NONE.false

pub first_from-requires : goal.first_from-requires
first_from-requires g t c κs within =
    let is = c.requires.tree in
    let lower = tree_right_lower c.args.table.now c.args.root is.0 is.1 c.if-root-eq-NONE.false c.sides-left.result.1 c.sides-left.ensures.right in (
      omega (arith, lower, c.decreases),
      (
        within,
        (
          tree_right c.args.table.now c.args.root is.0 is.1 c.if-root-eq-NONE.false c.sides-left.result.1 c.sides-left.ensures.right,
          omega
              (arith, lower, c.requires.few, c.compare-order.ensures.step),
        ),
      ),
    )

pub first_from-requires-else-is_lt : goal.first_from-requires-else-is_lt
first_from-requires-else-is_lt g t c κs within =
    let is = c.requires.tree in
    let lower = tree_left_lower c.args.table.now c.args.root is.0 is.1 c.if-root-eq-NONE.false c.sides-left.result.0 c.sides-left.ensures.left in (
      omega (arith, lower, c.decreases),
      (
        within,
        (
          tree_left c.args.table.now c.args.root is.0 is.1 c.if-root-eq-NONE.false c.sides-left.result.0 c.sides-left.ensures.left,
          omega
              (arith, lower, c.requires.few, c.compare-order.ensures.step),
        ),
      ),
    )

pub returns-then-is_lt-clause-found : goal.returns-then-is_lt-clause-found
returns-then-is_lt-clause-found g t c tree is =
    found_right c.args.table.now c.args.root tree is c.if-root-eq-NONE.false (c.args.need, 0) c.args.other c.first_from.result c.sides-left.result.1 c.sides-left.ensures.right
    (test_of {order = pair_cmp (pair_at c.args.table.now c.args.root) (c.args.need, 0)} c.compare-order.ensures.order c.is_lt.ensures c.if-is_lt.true) c.first_from.ensures.found

pub returns-then-is_lt-clause-few : goal.returns-then-is_lt-clause-few
returns-then-is_lt-clause-few g t c =
    let is = c.requires.tree in
    let lower = tree_right_lower c.args.table.now c.args.root is.0 is.1 c.if-root-eq-NONE.false c.sides-left.result.1 c.sides-left.ensures.right in
    omega (arith, lower, c.first_from.ensures.few, c.compare-order.ensures.step)

pub returns-else-is_lt-clause-found : goal.returns-else-is_lt-clause-found
returns-else-is_lt-clause-found g t c tree is =
    let told = told_pair {p = pair_at c.args.table.now c.args.root} c.compare-order.ensures.extent c.compare-order.ensures.offset in
    found_left c.args.table.now c.args.root tree is c.if-root-eq-NONE.false (c.args.need, 0) c.args.other c.first_from-else-is_lt.result c.sides-left.result.0 c.sides-left.ensures.left
    (test_of {order = pair_cmp (pair_at c.args.table.now c.args.root) (c.args.need, 0)} c.compare-order.ensures.order c.is_lt.ensures c.if-is_lt.false)
    (subst (λ (other : Option (ℕ × ℕ)). Finds c.args.table.now c.sides-left.result.0 (c.args.need, 0) other c.first_from-else-is_lt.result) told c.first_from-else-is_lt.ensures.found)

pub returns-else-is_lt-clause-few : goal.returns-else-is_lt-clause-few
returns-else-is_lt-clause-few g t c =
    let is = c.requires.tree in
    let lower = tree_left_lower c.args.table.now c.args.root is.0 is.1 c.if-root-eq-NONE.false c.sides-left.result.0 c.sides-left.ensures.left in
    omega (arith, lower, c.first_from-else-is_lt.ensures.few, c.compare-order.ensures.step)

pub returns-then-root-eq-NONE-clause-counted : goal.returns-then-root-eq-NONE-clause-counted
returns-then-root-eq-NONE-clause-counted g t c = omega (arith, no_height c.args.table.now c.args.root c.if-root-eq-NONE.true)

pub returns-then-is_lt-clause-counted : goal.returns-then-is_lt-clause-counted
returns-then-is_lt-clause-counted g t c =
    let is = c.requires.tree in
    let near = tree_right_near c.args.table.now c.args.root is.0 is.1 c.if-root-eq-NONE.false c.sides-left.result.1 c.sides-left.ensures.right in
    omega (arith, near, c.first_from.ensures.counted, c.compare-order.ensures.step)

pub returns-else-is_lt-clause-counted : goal.returns-else-is_lt-clause-counted
returns-else-is_lt-clause-counted g t c =
    let is = c.requires.tree in
    let near = tree_left_near c.args.table.now c.args.root is.0 is.1 c.if-root-eq-NONE.false c.sides-left.result.0 c.sides-left.ensures.left in
    omega (arith, near, c.first_from-else-is_lt.ensures.counted, c.compare-order.ensures.step)
