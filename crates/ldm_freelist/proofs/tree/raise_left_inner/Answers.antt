use Rattle.ldm_freelist.proofs.RaiseInner.{spread_left, read_left, raise_left, join_first, join_second, join_third, third}
use Rattle.ldm_freelist.proofs.tree.raise_left_inner.Goals as goal

pub sides-outer-requires : goal.sides-outer-requires
sides-outer-requires c = c.requires.1.loose.left_tree.spelled.0.within

pub sides-inner_left-requires : goal.sides-inner_left-requires
sides-inner_left-requires c = (spread_left c.requires.1 c.requires.2 c.sides-outer.ensures.left c.sides-outer.ensures.right).inner.0.within

pub join-requires : goal.join-requires
join-requires c =
    let spread = spread_left c.requires.1 c.requires.2 c.sides-outer.ensures.left c.sides-outer.ensures.right in
    join_first spread (read_left c.requires.1 c.requires.2 c.sides-outer.ensures.left c.sides-outer.ensures.right c.sides-inner_left.ensures.left c.sides-inner_left.ensures.right)

pub join-requires-2 : goal.join-requires-2
join-requires-2 c =
    let spread = spread_left c.requires.1 c.requires.2 c.sides-outer.ensures.left c.sides-outer.ensures.right in
    join_second spread (read_left c.requires.1 c.requires.2 c.sides-outer.ensures.left c.sides-outer.ensures.right c.sides-inner_left.ensures.left c.sides-inner_left.ensures.right) c.join.ensures

pub join-requires-3 : goal.join-requires-3
join-requires-3 c =
    let spread = spread_left c.requires.1 c.requires.2 c.sides-outer.ensures.left c.sides-outer.ensures.right in
    join_third spread (read_left c.requires.1 c.requires.2 c.sides-outer.ensures.left c.sides-outer.ensures.right c.sides-inner_left.ensures.left c.sides-inner_left.ensures.right)
    c.join.ensures c.join-2.ensures

pub returns : goal.returns
returns c outer inner more lean high =
    let spread = spread_left lean high c.sides-outer.ensures.left c.sides-outer.ensures.right in
    raise_left lean high c.sides-outer.ensures.left c.sides-outer.ensures.right
    (third spread (read_left lean high c.sides-outer.ensures.left c.sides-outer.ensures.right c.sides-inner_left.ensures.left c.sides-inner_left.ensures.right)
    c.join.ensures c.join-2.ensures c.join-3.ensures)
