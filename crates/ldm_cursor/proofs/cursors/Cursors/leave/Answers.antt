use Rattle.std.proofs.Common.{set, None, sym, ap, ◌∙◌, arith}
use Rattle.std.proofs.lemmas.List.{map-set}
use Rattle.ldm_cursor.specs.Kept.{place_of}
use Rattle.ldm_types.specs.Cursors.{Places}
use Rattle.ldm_cursor.proofs.IsKept.{kept-set, kept-view}
use Rattle.ldm_cursor.proofs.cursors.Cursors.leave.Goals as goal

pub returns-clause-left : goal.returns-clause-left
returns-clause-left c =
    map-set place_of c.self.inside.places.items c.get.result None
    ∙ ap (λ (places : Places). set places c.get.result None) c.self.view_is
    ∙ ap (λ k. set c.args.self.now k None) c.get.ensures.value

pub invariant_of-self : goal.invariant_of-self
invariant_of-self c =
    let old = c.self.inside.taken.bits in
    let new = c.unmark.new.self.bits in
    let held = c.self.inside.holding.bits in
    let holding = c.unmark-2.new.self.bits in
    let kept = kept-view c.self.view_is c.self.invariant in
    let closed = c.unmark.ensures.unmarked in
    let free = c.unmark-2.ensures.unmarked in
    kept-view (sym (returns-clause-left c))
    (kept-set c.args.self.now c.args.k old new held holding None (omega (arith, kept.many)) kept
    closed.unmarked closed.others free.unmarked free.others)
