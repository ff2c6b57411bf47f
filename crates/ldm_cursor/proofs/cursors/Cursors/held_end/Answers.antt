use Rattle.ldm_cursor.proofs.IsKept.{kept-view}
use Rattle.ldm_cursor.proofs.Holders.{AreFree-behind}
use Rattle.ldm_cursor.proofs.cursors.Cursors.held_end.Goals as goal

pub returns-clause-free : goal.returns-clause-free
returns-clause-free c =
    let kept = kept-view c.self.view_is c.self.invariant in
    AreFree-behind c.self.inside.holding.bits c.end.result c.args.self.now kept.many kept.holding c.end.ensures.rest
