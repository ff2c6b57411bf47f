use Rattle.std.proofs.Common.{refl, sym, arith}
use Rattle.std.proofs.lemmas.List.{length-map}
use Rattle.ldm_cursor.specs.Kept.{place_of}
use Rattle.ldm_cursor.specs.Places.{after_move}
use Rattle.ldm_cursor.proofs.IsKept.{hold_mark_of-after_move, kept-change_beside, kept-view}
use Rattle.ldm_cursor.proofs.PlacesOf.{with_change-written}
use Rattle.ldm_cursor.proofs.cursors.Cursors.to_end.Goals as goal

pub returns-clause-moved : goal.returns-clause-moved
returns-clause-moved c =
    let items = c.self.inside.places.items in
    with_change-written items c.args.self.now c.get.result c.args.k c.index_mut.result.now c.in-Some.cursor (record c.in-Some.cursor { position = c.args.at }) (after_move c.args.at) c.self.view_is c.get.ensures.value
    (omega (arith, c.self.invariant.many, length-map items place_of)) c.index_mut.ensures.value c.in-Some.is refl

pub invariant_of-self : goal.invariant_of-self
invariant_of-self c =
    let taken = c.self.inside.taken.bits in
    let holding = c.self.inside.holding.bits in
    let kept = kept-view c.self.view_is c.self.invariant in
    kept-view (sym (returns-clause-moved c))
    (kept-change_beside c.args.self.now c.args.k taken holding (after_move c.args.at) (omega (arith, kept.many)) kept
    (hold_mark_of-after_move c.args.at))
