use Rattle.std.proofs.Common.{arith}
use Rattle.ldm_freelist.proofs.Take.{low_within, lower_left, low_left, first_at_top, loose_after_first, took_first}
use Rattle.ldm_freelist.proofs.tree.+take_first.Goals as goal

pub sides-left-requires : goal.sides-left-requires
sides-left-requires t c = low_within c.args.table.now c.args.root c.requires.tree.0 c.requires.tree.1 c.requires.some

pub returns-then-left : goal.returns-then-left
returns-then-left t c tree low =
    let sides = c.sides-left in
    first_at_top c.args.table.now c.args.root tree low c.requires.some sides.result.0 sides.result.1 sides.ensures.left sides.ensures.right c.if-left.true

pub take_first-left-requires : goal.take_first-left-requires
take_first-left-requires t c =
    let sides = c.sides-left in
    let is = c.requires.tree in
    let lower = lower_left c.args.table.now c.args.root is.0 is.1 c.requires.some sides.result.0 sides.result.1 sides.ensures.left sides.ensures.right in (
      omega (arith, lower, c.decreases),
      (low_left c.args.table.now c.args.root is.0 is.1 c.requires.some sides.result.0 sides.result.1 sides.ensures.left sides.ensures.right, c.if-left.false),
    )

pub balance-requires : goal.balance-requires
balance-requires t c =
    let sides = c.sides-left in
    let is = c.requires.tree in
    loose_after_first c.args.table.now c.args.root is.0 is.1 c.requires.some sides.result.0 sides.result.1 sides.ensures.left sides.ensures.right c.take_first-left.new.table
    c.take_first-left.result c.take_first-left.ensures

pub returns : goal.returns
returns t c tree low =
    let sides = c.sides-left in
    took_first c.args.table.now c.args.root tree low c.requires.some sides.result.0 sides.result.1 sides.ensures.left sides.ensures.right
    c.take_first-left.new.table c.balance.new.table c.take_first-left.result c.balance.result c.take_first-left.ensures c.balance.ensures
