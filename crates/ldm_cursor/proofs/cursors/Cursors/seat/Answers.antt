use Rattle.std.proofs.Common.{◌≡◌, Some, set, refl, sym, ap, ◌∙◌, arith}
use Rattle.std.specs.Int.{bit_at}
use Rattle.std.proofs.lemmas.List.{map-set}
use Rattle.ldm_cursor.specs.Kept.{kept_of, mark_of, place_of}
use Rattle.ldm_types.specs.Cursors.{KeptCursor, Places}
use Rattle.ldm_cursor.specs.Places.{cursor_at, new_cursor}
use Rattle.ldm_cursor.proofs.IsKept.{hold_mark_of-closed, kept-set, kept-view}
use Rattle.ldm_cursor.proofs.LeastEmpty.{least_empty-none, least_empty-unmarked}
use Rattle.ldm_cursor.proofs.cursors.Cursors.seat.Goals as goal

pub returns-in_err-k-clause-place : goal.returns-in_err-k-clause-place
returns-in_err-k-clause-place c =
    let kept = kept-view c.self.view_is c.self.invariant in
    c.from_residual.ensures ∙ least_empty-none c.args.self.now c.self.inside.taken.bits kept.many kept.opened c.in_err-k.ensures.first

pub returns-clause-place : goal.returns-clause-place
returns-clause-place c =
    let kept = kept-view c.self.view_is c.self.invariant in
    least_empty-unmarked c.args.self.now c.self.inside.taken.bits c.in_ok-k.k kept.many kept.opened c.get.ensures.bound c.in_ok-k.ensures.first

pub returns-clause-seated : goal.returns-clause-seated
returns-clause-seated c =
    let cursor = c.new.result in
    map-set place_of c.self.inside.places.items c.get.result (Some cursor)
    ∙ ap (λ (places : Places). set places c.get.result (Some (kept_of cursor))) c.self.view_is
    ∙ ap (λ k. set c.args.self.now k (Some (kept_of cursor))) c.get.ensures.value
    ∙ ap (λ (cursor : KeptCursor). set c.args.self.now c.in_ok-k.k (Some cursor)) c.new.ensures

pub invariant_of-self : goal.invariant_of-self
invariant_of-self c =
    let old = c.self.inside.taken.bits in
    let new = c.mark.new.self.bits in
    let holding = c.self.inside.holding.bits in
    let k = c.in_ok-k.k in
    let kept = kept-view c.self.view_is c.self.invariant in
    let bound = c.get.ensures.bound in
    let place = cursor_at c.args.self.now k in
    let cursor = new_cursor c.args.actor c.args.feed.0 c.args.position in
    let closed : mark_of place ≡ 0 = sym (kept.opened k bound) ∙ c.in_ok-k.ensures.first.unmarked in
    let free : bit_at holding k ≡ 0 = kept.holding k bound ∙ hold_mark_of-closed place closed in
    kept-view (sym (returns-clause-seated c))
    (kept-set c.args.self.now k old new holding holding (Some cursor) (omega (arith, kept.many, bound)) kept
    c.mark.ensures.marked (λ i bound other. c.mark.ensures.others i other)
    free (λ i bound other. refl))
