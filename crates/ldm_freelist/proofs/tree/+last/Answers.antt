use Rattle.std.proofs.Common.{arith}
use Rattle.ldm_freelist.proofs.Search.{tree_root_within, tree_right, tree_right_lower, last_top, last_right}
use Rattle.ldm_freelist.proofs.tree.+last.Goals as goal

pub sides-right-requires : goal.sides-right-requires
sides-right-requires t c = tree_root_within c.args.table.now c.args.root c.requires.tree.0 c.requires.tree.1 c.requires.some

pub last-requires : goal.last-requires
last-requires t c =
    let is = c.requires.tree in
    let right = c.sides-right.result.1 in
    let told = c.sides-right.ensures.right in
    let lower = tree_right_lower c.args.table.now c.args.root is.0 is.1 c.requires.some right told in
    (omega (arith, lower, c.decreases), (tree_right c.args.table.now c.args.root is.0 is.1 c.requires.some right told, c.if-right.false))

pub returns-then-right : goal.returns-then-right
returns-then-right t c tree is = last_top c.args.table.now c.args.root tree is c.requires.some c.sides-right.result.1 c.sides-right.ensures.right c.if-right.true

pub returns-else-right : goal.returns-else-right
returns-else-right t c tree is =
    last_right c.args.table.now c.args.root tree is c.requires.some c.sides-right.result.1 c.last.result c.sides-right.ensures.right c.last.ensures
