-- When a book stands for a state of the queue.
use Rattle.std.specs.Prelude.{◌≡◌, ℕ, ◌+◌, List, [], ◌∷◌, length, map, Option, Some, None}
use Rattle.std.specs.Option.{option_map}
use Rattle.ldm_types.specs.Cursors.{Losses, KeptCursor}
use Rattle.ldm_model.specs.State.{State, Cursor, end_of, last_time, queued, reserved}
use Rattle.ldm_model.specs.Step.{least_of, greatest_of}
use Rattle.ldm_book.specs.View.{BookView, kept, kept_reservation}
use Rattle.ldm_book.specs.Stored.{AreStored, AreFilled}

-- what is kept of losses: their number, and the least and the greatest of them
abbrev pub losses_of : List ℕ → Option Losses
losses_of [] = None
losses_of (n ∷ ns) = Some (record { count = length (n ∷ ns); least = least_of n ns; greatest = greatest_of n ns })

-- what is kept of a cursor
abbrev pub kept_cursor : Cursor → KeptCursor
kept_cursor cursor = record {
  actor = cursor.actor;
  feed = cursor.feed;
  position = cursor.position;
  held = cursor.held;
  untold = losses_of cursor.untold;
  given = length cursor.given;
  lost = length cursor.told + length cursor.untold;
}

-- and of a cursor place
abbrev pub kept_place : Option Cursor → Option KeptCursor
kept_place place = option_map kept_cursor place

pub record StandsFor (book : BookView) (s : State) : Type 0 where
  pub arena : book.arena ≡ s.arena
  -- all of whose bytes the book has
  pub sized : length book.bytes ≡ book.arena
  pub slots : book.slots ≡ s.slots
  pub admitted : book.admitted ≡ end_of s
  pub last : book.last ≡ last_time s
  -- the kept rows are the present rows, in order
  pub rows : book.rows ≡ map kept (queued s)
  -- whose metadata and bodies the arena has
  pub stored : AreStored book.bytes (queued s)
  -- the kept cursors are the cursors, place by place
  pub cursors : book.cursors ≡ map kept_place s.cursors
  -- and so are the kept reservations
  pub reservations : book.reservations ≡ map (option_map kept_reservation) s.reservations
  -- whose metadata the arena has, and then the bytes that were filled in
  pub filled : AreFilled book.bytes (reserved s)
