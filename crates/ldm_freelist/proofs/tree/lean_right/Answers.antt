use Rattle.std.proofs.Common.{refl, arith}
use Rattle.ldm_freelist.proofs.Lean.{left_height, right_height, left_within, right_within, open_right, closed}
use Rattle.ldm_freelist.proofs.tree.lean_right.Goals as goal

pub sides-inner-requires : goal.sides-inner-requires
sides-inner-requires c = (open_right c.requires.loose.1 c.requires.higher).1.loose.right_tree.spelled.0.within

pub height-requires : goal.height-requires
height-requires c = let t = open_right c.requires.loose.1 c.requires.higher in right_within t.0.0 t.0.1 t.1.loose.right_tree.spelled c.sides-inner.ensures.right

pub height-requires-2 : goal.height-requires-2
height-requires-2 c = let t = open_right c.requires.loose.1 c.requires.higher in left_within t.0.0 t.0.1 t.1.loose.right_tree.spelled c.sides-inner.ensures.left

pub raise_right-requires : goal.raise_right-requires
raise_right-requires c =
    let t = open_right c.requires.loose.1 c.requires.higher in
    let oh = right_height t.0.0 t.0.1 t.1.loose.right_tree.spelled c.sides-inner.ensures.right in
    let ih = left_height t.0.0 t.0.1 t.1.loose.right_tree.spelled c.sides-inner.ensures.left in
    ((c.requires.loose.0.0, t.0.0, t.0.1), t.1, omega (arith, oh, ih, c.height.ensures, c.height-2.ensures, c.if-height.true))

pub raise_right_inner-requires : goal.raise_right_inner-requires
raise_right_inner-requires c =
    let t = open_right c.requires.loose.1 c.requires.higher in
    let oh = right_height t.0.0 t.0.1 t.1.loose.right_tree.spelled c.sides-inner.ensures.right in
    let ih = left_height t.0.0 t.0.1 t.1.loose.right_tree.spelled c.sides-inner.ensures.left in
    ((c.requires.loose.0.0, t.0.0, t.0.1), t.1, omega (arith, oh, ih, c.height.ensures, c.height-2.ensures, c.if-height.false))

pub returns-then-height : goal.returns-then-height
returns-then-height c less more loose =
    let t = open_right loose c.requires.higher in
    let oh = right_height t.0.0 t.0.1 t.1.loose.right_tree.spelled c.sides-inner.ensures.right in
    let ih = left_height t.0.0 t.0.1 t.1.loose.right_tree.spelled c.sides-inner.ensures.left in
    closed refl t.2 (c.raise_right.ensures less t.0.0 t.0.1 t.1 (omega (arith, oh, ih, c.height.ensures, c.height-2.ensures, c.if-height.true)))

pub returns-else-height : goal.returns-else-height
returns-else-height c less more loose =
    let t = open_right loose c.requires.higher in
    let oh = right_height t.0.0 t.0.1 t.1.loose.right_tree.spelled c.sides-inner.ensures.right in
    let ih = left_height t.0.0 t.0.1 t.1.loose.right_tree.spelled c.sides-inner.ensures.left in
    closed refl t.2 (c.raise_right_inner.ensures less t.0.0 t.0.1 t.1 (omega (arith, oh, ih, c.height.ensures, c.height-2.ensures, c.if-height.false)))
