use Rattle.ldm_freelist.proofs.RaiseLeft.{join_first, join_second, raise}
use Rattle.ldm_freelist.proofs.tree.raise_left.Goals as goal

pub sides-outer-requires : goal.sides-outer-requires
sides-outer-requires c = c.requires.1.loose.left_tree.spelled.0.within

pub join-requires : goal.join-requires
join-requires c = join_first c.requires.1 c.sides-outer.ensures.left c.sides-outer.ensures.right

pub join-requires-2 : goal.join-requires-2
join-requires-2 c = join_second c.requires.1 c.sides-outer.ensures.left c.sides-outer.ensures.right c.join.new.self c.join.ensures

pub returns : goal.returns
returns c outer inner more lean = raise lean c.sides-outer.ensures.left c.sides-outer.ensures.right c.join.new.self c.join-2.new.self c.join.ensures c.join-2.ensures
