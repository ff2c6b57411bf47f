use Rattle.std.proofs.Common.{List, Option, map, sym, ap, ◌∙◌, arith}
use Rattle.std.proofs.lemmas.List.{with_items_is}
use Rattle.ldm_cursor.specs.declared.cursor.Cursor.{Cursor}
use Rattle.ldm_cursor.specs.Kept.{places_of}
use Rattle.ldm_types.specs.Cursors.{Places}
use Rattle.ldm_cursor.specs.Places.{with_loss}
use Rattle.ldm_cursor.proofs.IsKept.{kept-view, kept-with_loss}
use Rattle.ldm_cursor.proofs.cursors.Cursors.lose.Goals as goal

pub returns-clause-lost : goal.returns-clause-lost
returns-clause-lost c =
    ap places_of (with_items_is c.self.inside.places c.lose_each.new.places (omega (arith, c.lose_each.auto.places, c.deref_mut.ensures.len)))
    ∙ c.lose_each.ensures
    ∙ ap (λ (items : List (Option Cursor)). map (with_loss c.args.n c.args.feed.0) (places_of items)) c.deref_mut.ensures.value
    ∙ ap (λ (places : Places). map (with_loss c.args.n c.args.feed.0) places) c.self.view_is

pub invariant_of-self : goal.invariant_of-self
invariant_of-self c =
    let taken = c.self.inside.taken.bits in
    let holding = c.self.inside.holding.bits in
    let kept = kept-view c.self.view_is c.self.invariant in
    kept-view (sym (returns-clause-lost c)) (kept-with_loss c.args.n c.args.feed.0 taken holding c.args.self.now kept)
