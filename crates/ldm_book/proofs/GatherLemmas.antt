-- The spans that are some part of the arena, where only the front of the cursor places holds, or nothing is reserved.
use Rattle.std.proofs.Common.{◌≡◌, ◌∙◌, ℕ, ◌≤◌, suc, List, [], ◌∷◌, ◌++◌, length, map, take, drop}
use Rattle.std.proofs.Common.{Option, Some, None, refl, sym, ap, arith}
use Rattle.std.specs.Prelude.{filter}
use Rattle.std.specs.List.{All}
use Rattle.std.proofs.lemmas.List.{append-nil, length-map, map-append, take-map, take_all}
use Rattle.std.proofs.lemmas.List.{take-append-drop, take-append-le}
use Rattle.std.proofs.lemmas.List.Elements.{filter-append}
use Rattle.ldm_types.specs.Cursors.{KeptCursor, Places}
use Rattle.ldm_cursor.specs.Places.{held_of}
use Rattle.ldm_book.specs.declared.spans.Span.{Span}
use Rattle.ldm_book.specs.View.{Kept, Reservations, open_kept}
use Rattle.ldm_book.specs.Spans.{held_span, held_spans, is_some_part, reserved_span, span_at}

-- places that hold nothing
no_parts : (rows : List Kept) (places : Places) → All (λ (place : Option KeptCursor). held_of place ≡ None) places
    → filter is_some_part (map (held_span rows) places) ≡ []
no_parts rows [] free = refl
no_parts rows (place ∷ places) free =
    ap (λ (held : Option ℕ). filter is_some_part (span_at rows held ∷ map (held_span rows) places))
    (free 0 None (omega arith))
    ∙ no_parts rows places (λ k d inside. free (suc k) d (omega (arith, inside)))

-- places that nothing is reserved at
no_reserved : (places : Reservations) → length (open_kept places) ≡ 0
    → filter is_some_part (map reserved_span places) ≡ []
no_reserved [] none = refl
no_reserved (None ∷ places) none = no_reserved places none
no_reserved (Some v ∷ places) none = absurd (omega (arith, none))

module _ (rows : List Kept) (cursors : Places) (reservations : Reservations) (many : length cursors ≡ 64) where
  abbrev held : List Span
  held = map (held_span rows) cursors

  abbrev reserved : List Span
  reserved = map reserved_span reservations

  -- all cursor places
  pub parts-cursors : filter is_some_part (take 64 (held_spans rows cursors reservations)) ≡ filter is_some_part held
  parts-cursors =
      let long = length-map cursors (held_span rows) in
      ap (filter is_some_part)
      (take-append-le 64 held reserved (omega (arith, long, many)) ∙ take_all 64 held (omega (arith, long, many)))

  -- those up to the last that holds
  pub parts-front : (end : ℕ) → end ≤ 64 → All (λ (place : Option KeptCursor). held_of place ≡ None) (drop end cursors)
      → filter is_some_part (take end (held_spans rows cursors reservations)) ≡ filter is_some_part held
  parts-front end inside free =
      let front = map (held_span rows) (take end cursors) in
      let behind = map (held_span rows) (drop end cursors) in
      ap (filter is_some_part)
      (take-append-le end held reserved (omega (arith, length-map cursors (held_span rows), many, inside))
      ∙ take-map (held_span rows) end cursors)
      ∙ sym (append-nil (filter is_some_part front))
      ∙ ap (λ (parts : List Span). filter is_some_part front ++ parts) (sym (no_parts rows (drop end cursors) free))
      ∙ sym (filter-append is_some_part front behind)
      ∙ ap (filter is_some_part) (sym (map-append (held_span rows) (take end cursors) (drop end cursors)))
      ∙ ap (λ (places : Places). filter is_some_part (map (held_span rows) places)) (take-append-drop end cursors)

  -- all places, where nothing is reserved
  pub parts-unreserved : length (open_kept reservations) ≡ 0
      → filter is_some_part held ≡ filter is_some_part (held_spans rows cursors reservations)
  parts-unreserved none =
      sym (append-nil (filter is_some_part held))
      ∙ ap (λ (parts : List Span). filter is_some_part held ++ parts) (sym (no_reserved reservations none))
      ∙ sym (filter-append is_some_part held reserved)
