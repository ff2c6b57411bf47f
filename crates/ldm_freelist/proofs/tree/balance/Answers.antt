use Rattle.std.proofs.Common.{◌<◌, arith, rules}
use Rattle.ldm_freelist.proofs.Lean.{tree_height, tree_within}
use Rattle.ldm_freelist.proofs.Level.{can_level, level}
use Rattle.ldm_freelist.proofs.tree.balance.Goals as goal

pub height-left_height-requires : goal.height-left_height-requires
height-left_height-requires c = tree_within c.args.table.now c.args.left c.requires.0.0 c.requires.1.left_tree

pub height-right_height-requires : goal.height-right_height-requires
height-right_height-requires c = tree_within c.args.table.now c.args.right c.requires.0.1 c.requires.1.right_tree

pub overflow_add-right_height : goal.overflow_add-right_height
overflow_add-right_height c =
    let r = tree_height c.args.table.now c.args.right c.requires.0.1 c.requires.1.right_tree in
    let low : c.height-right_height.result < 200 = omega (arith, r, c.requires.1.low) in
    search rules

pub lean_left-requires-clause-higher : goal.lean_left-requires-clause-higher
lean_left-requires-clause-higher c =
    let l = tree_height c.args.table.now c.args.left c.requires.0.0 c.requires.1.left_tree in
    let r = tree_height c.args.table.now c.args.right c.requires.0.1 c.requires.1.right_tree in
    omega (arith, l, r, c.requires.1.near)

pub overflow_add-left_height : goal.overflow_add-left_height
overflow_add-left_height c =
    let l = tree_height c.args.table.now c.args.left c.requires.0.0 c.requires.1.left_tree in
    let low : c.height-left_height.result < 200 = omega (arith, l, c.requires.1.low) in
    search rules

pub lean_right-requires-clause-higher : goal.lean_right-requires-clause-higher
lean_right-requires-clause-higher c =
    let l = tree_height c.args.table.now c.args.left c.requires.0.0 c.requires.1.left_tree in
    let r = tree_height c.args.table.now c.args.right c.requires.0.1 c.requires.1.right_tree in
    omega (arith, l, r, c.requires.1.near)

pub join-requires : goal.join-requires
join-requires c = can_level c.requires.1

pub returns-else-right_height-left_height : goal.returns-else-right_height-left_height
returns-else-right_height-left_height c less more loose =
    let l = tree_height c.args.table.now c.args.left less loose.left_tree in
    let r = tree_height c.args.table.now c.args.right more loose.right_tree in
    level loose c.join.ensures (omega (arith, l, r), omega (arith, l, r))
