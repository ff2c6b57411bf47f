use Rattle.ldm_freelist.proofs.RaiseInner.{spread_right, read_right, raise_right, join_first, join_second, join_third, third}
use Rattle.ldm_freelist.proofs.tree.raise_right_inner.Goals as goal

pub sides-inner-requires : goal.sides-inner-requires
sides-inner-requires c = c.requires.1.loose.right_tree.spelled.0.within

pub sides-inner_left-requires : goal.sides-inner_left-requires
sides-inner_left-requires c = (spread_right c.requires.1 c.requires.2 c.sides-inner.ensures.right c.sides-inner.ensures.left).inner.0.within

pub join-requires : goal.join-requires
join-requires c =
    let spread = spread_right c.requires.1 c.requires.2 c.sides-inner.ensures.right c.sides-inner.ensures.left in
    join_first spread (read_right c.requires.1 c.requires.2 c.sides-inner.ensures.right c.sides-inner.ensures.left c.sides-inner_left.ensures.left c.sides-inner_left.ensures.right)

pub join-requires-2 : goal.join-requires-2
join-requires-2 c =
    let spread = spread_right c.requires.1 c.requires.2 c.sides-inner.ensures.right c.sides-inner.ensures.left in
    join_second spread (read_right c.requires.1 c.requires.2 c.sides-inner.ensures.right c.sides-inner.ensures.left c.sides-inner_left.ensures.left c.sides-inner_left.ensures.right) c.join.ensures

pub join-requires-3 : goal.join-requires-3
join-requires-3 c =
    let spread = spread_right c.requires.1 c.requires.2 c.sides-inner.ensures.right c.sides-inner.ensures.left in
    join_third spread (read_right c.requires.1 c.requires.2 c.sides-inner.ensures.right c.sides-inner.ensures.left c.sides-inner_left.ensures.left c.sides-inner_left.ensures.right)
    c.join.ensures c.join-2.ensures

pub returns : goal.returns
returns c less inner outer lean high =
    let spread = spread_right lean high c.sides-inner.ensures.right c.sides-inner.ensures.left in
    raise_right lean high c.sides-inner.ensures.right c.sides-inner.ensures.left
    (third spread (read_right lean high c.sides-inner.ensures.right c.sides-inner.ensures.left c.sides-inner_left.ensures.left c.sides-inner_left.ensures.right)
    c.join.ensures c.join-2.ensures c.join-3.ensures)
