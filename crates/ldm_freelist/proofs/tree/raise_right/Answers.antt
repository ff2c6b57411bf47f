use Rattle.ldm_freelist.proofs.RaiseRight.{join_first, join_second, raise}
use Rattle.ldm_freelist.proofs.tree.raise_right.Goals as goal

pub sides-inner-requires : goal.sides-inner-requires
sides-inner-requires c = c.requires.1.loose.right_tree.spelled.0.within

pub join-requires : goal.join-requires
join-requires c = join_first c.requires.1 c.sides-inner.ensures.right c.sides-inner.ensures.left

pub join-requires-2 : goal.join-requires-2
join-requires-2 c = join_second c.requires.1 c.sides-inner.ensures.right c.sides-inner.ensures.left c.join.new.self c.join.ensures

pub returns : goal.returns
returns c less inner outer lean = raise lean c.sides-inner.ensures.right c.sides-inner.ensures.left c.join.new.self c.join-2.new.self c.join.ensures c.join-2.ensures
