use Rattle.std.proofs.Common.{ℕ, ◌<◌, ◌≤◌, Option, subst, arith}
use Rattle.ldm_freelist.specs.Nodes.{pair_at}
use Rattle.ldm_freelist.specs.Tree.{FindsTo}
use Rattle.ldm_freelist.proofs.Search.{tree_root_within, tree_root_in_use, tree_left, tree_right, tree_left_lower, tree_right_lower, tree_left_near, tree_right_near, no_height, found_none_to, found_above, found_below, told_pair}
use Rattle.ldm_freelist.proofs.tree.+last_to.Goals as goal

pub returns-then-root-eq-NONE-clause-found : goal.returns-then-root-eq-NONE-clause-found
returns-then-root-eq-NONE-clause-found g t c tree is = found_none_to c.args.table.now c.args.root tree c.args.most c.args.other is c.if-root-eq-NONE.true

pub sides-left-requires : goal.sides-left-requires
sides-left-requires g t c = tree_root_within c.args.table.now c.args.root c.requires.tree.0 c.requires.tree.1 c.if-root-eq-NONE.false

pub compare-extent-requires-clause-in_use : goal.compare-extent-requires-clause-in_use
compare-extent-requires-clause-in_use g t c = tree_root_in_use c.args.table.now c.args.root c.requires.tree.0 c.requires.tree.1 c.if-root-eq-NONE.false

pub last_to-requires : goal.last_to-requires
last_to-requires g t c κs within =
    let is = c.requires.tree in
    let lower = tree_left_lower c.args.table.now c.args.root is.0 is.1 c.if-root-eq-NONE.false c.sides-left.result.0 c.sides-left.ensures.left in (
      omega (arith, lower, c.decreases),
      (
        within,
        (
          tree_left c.args.table.now c.args.root is.0 is.1 c.if-root-eq-NONE.false c.sides-left.result.0 c.sides-left.ensures.left,
          omega
              (arith, lower, c.requires.few, c.compare-extent.ensures.step),
        ),
      ),
    )

pub last_to-requires-else-extent-most : goal.last_to-requires-else-extent-most
last_to-requires-else-extent-most g t c κs within =
    let is = c.requires.tree in
    let lower = tree_right_lower c.args.table.now c.args.root is.0 is.1 c.if-root-eq-NONE.false c.sides-left.result.1 c.sides-left.ensures.right in (
      omega (arith, lower, c.decreases),
      (
        within,
        (
          tree_right c.args.table.now c.args.root is.0 is.1 c.if-root-eq-NONE.false c.sides-left.result.1 c.sides-left.ensures.right,
          omega
              (arith, lower, c.requires.few, c.compare-extent.ensures.step),
        ),
      ),
    )

pub returns-then-extent-most-clause-found : goal.returns-then-extent-most-clause-found
returns-then-extent-most-clause-found g t c tree is =
    let high : c.args.most < (pair_at c.args.table.now c.args.root).0 = omega (arith, c.if-extent-most.true, c.compare-extent.ensures.extent) in
    found_above c.args.table.now c.args.root tree is c.if-root-eq-NONE.false c.args.most c.args.other c.last_to.result c.sides-left.result.0 c.sides-left.ensures.left high c.last_to.ensures.found

pub returns-then-extent-most-clause-few : goal.returns-then-extent-most-clause-few
returns-then-extent-most-clause-few g t c =
    let is = c.requires.tree in
    let lower = tree_left_lower c.args.table.now c.args.root is.0 is.1 c.if-root-eq-NONE.false c.sides-left.result.0 c.sides-left.ensures.left in
    omega (arith, lower, c.last_to.ensures.few, c.compare-extent.ensures.step)

pub returns-else-extent-most-clause-found : goal.returns-else-extent-most-clause-found
returns-else-extent-most-clause-found g t c tree is =
    let told = told_pair {p = pair_at c.args.table.now c.args.root} c.compare-extent.ensures.extent c.compare-extent.ensures.offset in
    let low : (pair_at c.args.table.now c.args.root).0 ≤ c.args.most = omega (arith, c.if-extent-most.false, c.compare-extent.ensures.extent) in
    found_below c.args.table.now c.args.root tree is c.if-root-eq-NONE.false c.args.most c.args.other c.last_to-else-extent-most.result c.sides-left.result.1 c.sides-left.ensures.right low
    (subst (λ (other : Option (ℕ × ℕ)). FindsTo c.args.table.now c.sides-left.result.1 c.args.most other c.last_to-else-extent-most.result) told c.last_to-else-extent-most.ensures.found)

pub returns-else-extent-most-clause-few : goal.returns-else-extent-most-clause-few
returns-else-extent-most-clause-few g t c =
    let is = c.requires.tree in
    let lower = tree_right_lower c.args.table.now c.args.root is.0 is.1 c.if-root-eq-NONE.false c.sides-left.result.1 c.sides-left.ensures.right in
    omega (arith, lower, c.last_to-else-extent-most.ensures.few, c.compare-extent.ensures.step)

pub returns-then-root-eq-NONE-clause-counted : goal.returns-then-root-eq-NONE-clause-counted
returns-then-root-eq-NONE-clause-counted g t c = omega (arith, no_height c.args.table.now c.args.root c.if-root-eq-NONE.true)

pub returns-then-extent-most-clause-counted : goal.returns-then-extent-most-clause-counted
returns-then-extent-most-clause-counted g t c =
    let is = c.requires.tree in
    let near = tree_left_near c.args.table.now c.args.root is.0 is.1 c.if-root-eq-NONE.false c.sides-left.result.0 c.sides-left.ensures.left in
    omega (arith, near, c.last_to.ensures.counted, c.compare-extent.ensures.step)

pub returns-else-extent-most-clause-counted : goal.returns-else-extent-most-clause-counted
returns-else-extent-most-clause-counted g t c =
    let is = c.requires.tree in
    let near = tree_right_near c.args.table.now c.args.root is.0 is.1 c.if-root-eq-NONE.false c.sides-left.result.1 c.sides-left.ensures.right in
    omega (arith, near, c.last_to-else-extent-most.ensures.counted, c.compare-extent.ensures.step)
