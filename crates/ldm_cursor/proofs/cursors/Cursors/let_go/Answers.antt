use Rattle.std.proofs.Common.{sym, ◌∙◌, arith}
use Rattle.std.proofs.lemmas.List.{length-map}
use Rattle.ldm_cursor.specs.Kept.{place_of}
use Rattle.ldm_cursor.specs.Places.{after_release, cursor_at}
use Rattle.ldm_cursor.proofs.IsKept.{hold_mark_of-after_release, kept-change, kept-view}
use Rattle.ldm_cursor.proofs.PlacesOf.{with_change-written}
use Rattle.ldm_cursor.proofs.cursors.Cursors.let_go.Goals as goal

pub returns-clause-released : goal.returns-clause-released
returns-clause-released c =
    let items = c.self.inside.places.items in
    with_change-written items c.args.self.now c.get.result c.args.k c.index_mut.result.now c.in-Some.cursor c.let_go-held.new.self
    after_release c.self.view_is c.get.ensures.value
    (omega (arith, c.self.invariant.many, length-map items place_of)) c.index_mut.ensures.value
    c.in-Some.is c.let_go-held.ensures.released

pub invariant_of-self : goal.invariant_of-self
invariant_of-self c =
    let taken = c.self.inside.taken.bits in
    let old = c.self.inside.holding.bits in
    let new = c.unmark.new.self.bits in
    let place = cursor_at c.args.self.now c.args.k in
    let kept = kept-view c.self.view_is c.self.invariant in
    let free = c.unmark.ensures.unmarked in
    kept-view (sym (returns-clause-released c))
    (kept-change c.args.self.now c.args.k taken old new after_release (omega (arith, kept.many)) kept
    (free.unmarked ∙ hold_mark_of-after_release place) free.others)
