use Rattle.std.proofs.Common.{◌-◌, ◌++◌, List, Option, None, take, replicate, vec_len, refl, sym, ap, ◌∙◌}
use Rattle.ldm_cursor.specs.declared.cursor.Cursor.{Cursor}
use Rattle.ldm_cursor.specs.Kept.{places_of}
use Rattle.ldm_cursor.proofs.IsKept.{kept-none, kept-view}
use Rattle.ldm_cursor.proofs.cursors.Cursors.create.Goals as goal

pub returns : goal.returns
returns c =
    let made = c.in_ok-places.ensures in
    let places = c.in_ok-places.places in
    ap places_of
    (c.in_ok-resize.ensures.items
    ∙ ap (λ (front : List (Option Cursor)). take 64 front ++ replicate (64 - vec_len places) None) made.items
    ∙ ap (λ n. replicate {A = Option Cursor} (64 - n) None) made.len)

pub invariant_of-result : goal.invariant_of-result
invariant_of-result c = kept-view (sym (returns c)) (kept-none 64 c.none.result.bits c.none-2.result.bits refl c.none.ensures c.none-2.ensures)
