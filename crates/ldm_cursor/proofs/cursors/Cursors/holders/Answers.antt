use Rattle.std.proofs.Common.{ap, ◌∙◌}
use Rattle.ldm_cursor.specs.Places.{count_held, is_held}
use Rattle.ldm_cursor.proofs.IsKept.{kept-view}
use Rattle.ldm_cursor.proofs.Holders.{AreFree-behind, count_held-take, front_of-view, is_held-take}
use Rattle.ldm_cursor.proofs.cursors.Cursors.holders.Goals as goal

pub returns-clause-held : goal.returns-clause-held
returns-clause-held c =
    let places = c.args.self.now in
    let kept = kept-view c.self.view_is c.self.invariant in
    let free = AreFree-behind c.self.inside.holding.bits c.end.result places kept.many kept.holding c.end.ensures.rest in
    λ n.
    ap (is_held n)
    (front_of-view c.self.inside.places.items c.deref.result.now places c.end.result c.deref.ensures.value c.self.view_is)
    ∙ is_held-take n c.end.result places free

pub returns-clause-count : goal.returns-clause-count
returns-clause-count c =
    let places = c.args.self.now in
    let kept = kept-view c.self.view_is c.self.invariant in
    let free = AreFree-behind c.self.inside.holding.bits c.end.result places kept.many kept.holding c.end.ensures.rest in
    ap count_held
    (front_of-view c.self.inside.places.items c.deref.result.now places c.end.result c.deref.ensures.value c.self.view_is)
    ∙ count_held-take c.end.result places free
