use Rattle.std.proofs.Common.{refl, arith}
use Rattle.ldm_freelist.proofs.Lean.{left_height, right_height, left_within, right_within, open_left, closed}
use Rattle.ldm_freelist.proofs.tree.lean_left.Goals as goal

pub sides-outer-requires : goal.sides-outer-requires
sides-outer-requires c = (open_left c.requires.loose.1 c.requires.higher).1.loose.left_tree.spelled.0.within

pub height-requires : goal.height-requires
height-requires c = let t = open_left c.requires.loose.1 c.requires.higher in left_within t.0.0 t.0.1 t.1.loose.left_tree.spelled c.sides-outer.ensures.left

pub height-requires-2 : goal.height-requires-2
height-requires-2 c = let t = open_left c.requires.loose.1 c.requires.higher in right_within t.0.0 t.0.1 t.1.loose.left_tree.spelled c.sides-outer.ensures.right

pub raise_left-requires : goal.raise_left-requires
raise_left-requires c =
    let t = open_left c.requires.loose.1 c.requires.higher in
    let oh = left_height t.0.0 t.0.1 t.1.loose.left_tree.spelled c.sides-outer.ensures.left in
    let ih = right_height t.0.0 t.0.1 t.1.loose.left_tree.spelled c.sides-outer.ensures.right in
    ((t.0.0, t.0.1, c.requires.loose.0.1), t.1, omega (arith, oh, ih, c.height.ensures, c.height-2.ensures, c.if-height.true))

pub raise_left_inner-requires : goal.raise_left_inner-requires
raise_left_inner-requires c =
    let t = open_left c.requires.loose.1 c.requires.higher in
    let oh = left_height t.0.0 t.0.1 t.1.loose.left_tree.spelled c.sides-outer.ensures.left in
    let ih = right_height t.0.0 t.0.1 t.1.loose.left_tree.spelled c.sides-outer.ensures.right in
    ((t.0.0, t.0.1, c.requires.loose.0.1), t.1, omega (arith, oh, ih, c.height.ensures, c.height-2.ensures, c.if-height.false))

pub returns-then-height : goal.returns-then-height
returns-then-height c less more loose =
    let t = open_left loose c.requires.higher in
    let oh = left_height t.0.0 t.0.1 t.1.loose.left_tree.spelled c.sides-outer.ensures.left in
    let ih = right_height t.0.0 t.0.1 t.1.loose.left_tree.spelled c.sides-outer.ensures.right in
    closed t.2 refl (c.raise_left.ensures t.0.0 t.0.1 more t.1 (omega (arith, oh, ih, c.height.ensures, c.height-2.ensures, c.if-height.true)))

pub returns-else-height : goal.returns-else-height
returns-else-height c less more loose =
    let t = open_left loose c.requires.higher in
    let oh = left_height t.0.0 t.0.1 t.1.loose.left_tree.spelled c.sides-outer.ensures.left in
    let ih = right_height t.0.0 t.0.1 t.1.loose.left_tree.spelled c.sides-outer.ensures.right in
    closed t.2 refl (c.raise_left_inner.ensures t.0.0 t.0.1 more t.1 (omega (arith, oh, ih, c.height.ensures, c.height-2.ensures, c.if-height.false)))
