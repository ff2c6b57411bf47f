-- The parts of the arena that are held or reserved, and whether there is room beside them.
use Rattle.std.specs.Prelude.{ℕ, ◌+◌, Bool, ◌&&◌, ◌||◌, nat_le, nat_lt, List, ◌++◌, map, Option, Some, None}
use Rattle.std.specs.List.{find, list_any, list_all}
use Rattle.ldm_types.specs.Cursors.{KeptCursor, Places}
use Rattle.ldm_cursor.specs.Places.{held_of}
use Rattle.ldm_book.specs.declared.spans.Span.{Span}
use Rattle.ldm_book.specs.View.{Kept, KeptReservation, Reservations}
use Rattle.ldm_book.specs.Products.{at_number, kept_extent}

-- where a kept product lies; without one nowhere, at the front of the arena
abbrev pub span_of : Option Kept → Span
span_of None = record { start = 0; back = 0 }
span_of (Some k) = record { start = k.place; back = k.place + kept_extent k }

-- where the product of a number lies
abbrev pub span_at : List Kept → Option ℕ → Span
span_at rows None = span_of None
span_at rows (Some n) = span_of (find (at_number n) rows)

-- where the product lies that the cursor of a place holds
abbrev pub held_span : List Kept → Option KeptCursor → Span
held_span rows place = span_at rows (held_of place)

-- where the region of a reservation place lies
abbrev pub reserved_span : Option KeptReservation → Span
reserved_span None = span_of None
reserved_span (Some v) = span_of (Some v.product)

-- whether a span is some part of the arena
abbrev pub is_some_part : Span → Bool
is_some_part span = nat_lt 0 span.back

-- the spans of the cursor places, and then those of the reservation places
abbrev pub held_spans : List Kept → Places → Reservations → List Span
held_spans rows cursors reservations = map (held_span rows) cursors ++ map reserved_span reservations

-- whether so many bytes from a position on lie beside a span
abbrev pub is_beside : ℕ → ℕ → Span → Bool
is_beside at need span = nat_le (at + need) span.start || nat_le span.back at

-- whether they lie in the arena and beside all spans
abbrev pub fits_at : ℕ → ℕ → ℕ → List Span → Bool
fits_at at need arena spans = nat_le (at + need) arena && list_all (is_beside at need) spans

-- whether they do right behind a span
abbrev pub fits_behind : ℕ → ℕ → List Span → Span → Bool
fits_behind need arena spans span = fits_at span.back need arena spans

-- whether some do: right behind a span, or at the front of the arena
abbrev pub has_gap : ℕ → ℕ → List Span → Bool
has_gap need arena spans = list_any (fits_behind need arena spans) spans || fits_at 0 need arena spans
