-- Writes to the kept places, as contracts see them.
use Rattle.std.proofs.Common.{◌≡◌, ℕ, ◌<◌, List, length, get_or, set, Option, Some, None, sym, ap, ◌∙◌}
use Rattle.std.specs.Option.{option_map}
use Rattle.std.proofs.lemmas.List.{map-set, get_or-map}
use Rattle.ldm_cursor.specs.declared.cursor.Cursor.{Cursor}
use Rattle.ldm_cursor.specs.Kept.{kept_of, place_of, places_of}
use Rattle.ldm_types.specs.Cursors.{KeptCursor, Places}
use Rattle.ldm_cursor.specs.Places.{cursor_at, with_change}

-- the cursor of a place is that which is kept there
pub cursor_at-read : (items : List (Option Cursor)) (places : Places) (at k : ℕ) (place : Option Cursor) → places_of items ≡ places → at ≡ k → at < length items → place ≡ get_or items at place → cursor_at places k ≡ place_of place
cursor_at-read items places at k place view here inside read =
    ap (λ (seen : Places). cursor_at seen k) (sym view)
    ∙ ap (cursor_at (places_of items)) (sym here)
    ∙ get_or-map place_of items at place None inside
    ∙ ap place_of (sym read)

-- a cursor that is written back changed
pub with_change-written : (items : List (Option Cursor)) (places : Places) (at k : ℕ) (place : Option Cursor) (cursor written : Cursor) (change : KeptCursor → KeptCursor) → places_of items ≡ places → at ≡ k → at < length items → place ≡ get_or items at place → place ≡ Some cursor → kept_of written ≡ change (kept_of cursor) → places_of (set items at (Some written)) ≡ with_change places k change
with_change-written items places at k place cursor written change view here inside read some changed =
    let was : cursor_at places k ≡ Some (kept_of cursor) = cursor_at-read items places at k place view here inside read ∙ ap place_of some in
    map-set place_of items at (Some written)
    ∙ ap (λ (seen : Places). set seen at (Some (kept_of written))) view
    ∙ ap (λ i. set places i (Some (kept_of written))) here
    ∙ ap (λ (cursor : KeptCursor). set places k (Some cursor)) changed
    ∙ ap (λ (seen : Option KeptCursor). set places k (option_map change seen)) (sym was)
