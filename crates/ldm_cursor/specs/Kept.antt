-- The cursors as they are kept.
use Rattle.std.specs.Prelude.{◌≡◌, ℕ, ◌<◌, List, map, length, Option, is_some, if◌then◌else◌}
use Rattle.std.specs.Int.{bit_at}
use Rattle.std.specs.Option.{option_map}
use Rattle.ldm_types.specs.declared.numbers.TheConstants.CursorNo.{COUNT}
use Rattle.ldm_cursor.specs.declared.cursor.Cursor.{Cursor}
use Rattle.ldm_cursor.specs.declared.cursor.Untold.{Untold}
use Rattle.ldm_types.specs.Cursors.{Losses, KeptCursor, Places}
use Rattle.ldm_cursor.specs.Places.{cursor_at, held_of}

abbrev pub losses_of : Untold → Losses
losses_of untold = record { count = untold.count; least = untold.least; greatest = untold.greatest }

abbrev pub kept_of : Cursor → KeptCursor
kept_of cursor =
    record {
      actor = cursor.actor;
      feed = cursor.feed.0;
      position = cursor.position;
      held = cursor.held;
      untold = option_map losses_of cursor.untold;
      given = cursor.given;
      lost = cursor.lost;
    }

abbrev pub place_of : Option Cursor → Option KeptCursor
place_of place = option_map kept_of place

abbrev pub places_of : List (Option Cursor) → Places
places_of places = map place_of places

-- the mark of a place: 1 where it is open
abbrev pub mark_of : Option KeptCursor → ℕ
mark_of place = if is_some place then 1 else 0

-- the mark of a place: 1 where its cursor holds a product
abbrev pub hold_mark_of : Option KeptCursor → ℕ
hold_mark_of place = if is_some (held_of place) then 1 else 0

-- a bit is the mark of each place
abbrev pub AreMarked : (Option KeptCursor → ℕ) → Places → ℕ → Type 0
AreMarked mark places marks = (k : ℕ) → k < COUNT → bit_at marks k ≡ mark (cursor_at places k)

-- there are as many places as cursor numbers, and a bit marks each that is open, and each that holds a product
pub record IsKept (places : Places) (open_marks hold_marks : ℕ) : Type 0 where
  pub many : length places ≡ COUNT
  pub opened : AreMarked mark_of places open_marks
  pub holding : AreMarked hold_mark_of places hold_marks
