-- What a book keeps, and what is always true of it.
use Rattle.std.specs.Prelude.{◌≡◌, ℕ, ◌+◌, ◌≤◌, ◌<◌, List, [], length, Option, Some, None}
use Rattle.std.specs.List.{All}
use Rattle.std.specs.Vec.{vec_len}
use Rattle.ldm_types.specs.declared.limits.TheConstants.{GREATEST_INSTANT, LARGEST_ARENA, MOST_SLOTS}
use Rattle.ldm_book.specs.declared.book.Book.TheInside.{Inside}
use Rattle.ldm_book.specs.View.{BookView, Kept}
use Rattle.ldm_book.specs.Limits.{IsGoodArena}
use Rattle.ldm_book.specs.Products.{AreRising, LieApart, occupied_in}
use Rattle.ldm_book.specs.Readers.{AreReading}
use Rattle.ldm_book.specs.Stored.{AreReserved, HaveMetadata}

abbrev pub view_of : Inside → BookView
view_of b = record {
  arena = vec_len b.arena;
  bytes = b.arena.items;
  slots = b.products.slots;
  admitted = b.admitted;
  last = b.last;
  rows = b.products.rows;
  cursors = b.cursors;
  reservations = b.products.reservations;
}

-- no product was admitted after the last insertion time, and times rise by one at least
abbrev pub IsTimed : Option ℕ → ℕ → List Kept → Type 0
IsTimed None admitted rows = (admitted ≡ 0) × (rows ≡ [])
IsTimed (Some last) admitted rows = (admitted ≤ last + 1) × All (λ k. (k.number < admitted) × (k.time ≤ last)) rows

pub record IsSound (b : Inside) : Type 0 where
  pub arena : vec_len b.arena ≡ b.products.arena
  pub timed : IsTimed b.last b.admitted b.products.rows
  pub rising : AreRising b.products.rows
  pub apart : LieApart b.products.arena (occupied_in b.products)
  pub arena_small : vec_len b.arena ≤ LARGEST_ARENA
  pub good_arena : IsGoodArena (vec_len b.arena)
  pub slots_small : b.products.slots ≤ MOST_SLOTS
  pub some_slot : 0 < b.products.slots
  -- numbers stay far below 2 ^ 63
  pub admitted_small : b.admitted ≤ GREATEST_INSTANT + 1
  pub few : length b.products.rows ≤ b.admitted
  pub readers : AreReading b.admitted b.products.rows b.cursors
  -- so that metadata can be read back from the arena
  pub stored : HaveMetadata b.arena.items b.products.rows
  pub reserved : AreReserved b.arena.items b.products.reservations
