use Rattle.ldm_freelist.proofs.Insert.{empty_at}
use Rattle.ldm_freelist.proofs.Take.{right_tree, right_low, top_alone, loose_top, shrunk_top}
use Rattle.ldm_freelist.proofs.tree.detach_top.Goals as goal

pub returns-then-right-eq-NONE : goal.returns-then-right-eq-NONE
returns-then-right-eq-NONE c less more low left_is right_is =
    top_alone c.args.table.now c.args.node less more low c.args.left left_is (empty_at c.args.table.now c.args.right more
    (right_tree c.args.table.now c.args.node less more low c.args.right right_is) c.if-right-eq-NONE.true)

pub take_first-right-requires-clause-tree : goal.take_first-right-requires-clause-tree
take_first-right-requires-clause-tree c =
    let t = c.requires.0 in
    (t.1, right_low c.args.table.now c.args.node t.0 t.1 c.requires.1 c.args.right c.requires.3)

pub balance-requires : goal.balance-requires
balance-requires c =
    let t = c.requires.0 in
    let answer = c.take_first-right.result in
    let gone = c.take_first-right.ensures t.1 (right_low c.args.table.now c.args.node t.0 t.1 c.requires.1 c.args.right c.requires.3) in
    ((t.0, gone.0), loose_top c.args.table.now c.args.node t.0 t.1 c.requires.1 c.take_first-right.new.table answer.0 answer.1 c.args.left c.requires.2 gone.0 gone.1 gone.2)

pub returns : goal.returns
returns c less more low left_is right_is =
    let answer = c.take_first-right.result in
    let gone = c.take_first-right.ensures more (right_low c.args.table.now c.args.node less more low c.args.right right_is) in
    shrunk_top c.args.table.now c.args.node less more low c.take_first-right.new.table answer.0 answer.1 c.balance.new.table c.args.left c.balance.result left_is gone.0 gone.1 gone.2 c.balance.ensures
