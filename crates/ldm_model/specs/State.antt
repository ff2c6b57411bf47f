-- The state of a queue.
use Rattle.std.specs.Prelude.{ℕ, ◌+◌, Bool, List, [], ◌∷◌, ◌++◌, length, map, replicate, Option, Some, None, is_some, slice_get, bytes_eq}
use Rattle.std.specs.List.{find}
use Rattle.std.specs.Option.{option_and_then}
use Rattle.ldm_types.specs.Info.{Metadata}
use Rattle.ldm_types.specs.Arena.{Region}
use Rattle.ldm_model.specs.Product.{Product, extent_of}

-- An admitted product. Rows are numbered from 0 in the order of admission and are never taken out; a row
-- with a place is present, and one with none was evicted.
pub record Row : Type 0 where
  pub product : Product
  -- its insertion time
  pub time : ℕ
  pub place : Option ℕ

-- What an open cursor place has.
pub record Cursor : Type 0 where
  pub actor : ℕ
  pub feed : ℕ
  pub position : ℕ
  -- the number of the row that it holds
  pub held : Option ℕ
  -- the numbers of the rows that it was given, of those whose eviction it was told, and of those whose
  -- eviction it was not told yet
  pub given : List ℕ
  pub told : List ℕ
  pub untold : List ℕ

-- What an open reservation place has: a region of the arena for a product that comes in pieces.
pub record Reservation : Type 0 where
  pub actor : ℕ
  pub info : Metadata
  -- where its region begins
  pub place : ℕ
  -- the bytes of the body that were filled in so far
  pub filled : List ℕ

pub record State : Type 0 where
  -- bytes of the arena
  pub arena : ℕ
  pub slots : ℕ
  pub rows : List Row
  -- 64 places, each empty or with an open cursor
  pub cursors : List (Option Cursor)
  -- 64 places, each empty or with an open reservation
  pub reservations : List (Option Reservation)

-- the state at the beginning
abbrev pub empty : ℕ → ℕ → State
empty arena slots = record { arena = arena; slots = slots; rows = []; cursors = replicate 64 None; reservations = replicate 64 None }

-- the end: how many products were admitted
abbrev pub end_of : State → ℕ
end_of s = length s.rows

-- the insertion time of the last of these rows, or the time before them
abbrev pub latest : Option ℕ → List Row → Option ℕ
latest before [] = before
latest before (row ∷ rows) = latest (Some row.time) rows

-- the insertion time of the last row, if there is a row
abbrev pub last_time : State → Option ℕ
last_time s = latest None s.rows

-- A present row, with its number and its place.
pub record Queued : Type 0 where
  pub number : ℕ
  pub product : Product
  pub time : ℕ
  pub place : ℕ

abbrev pub add_queued : ℕ → Row → Option ℕ → List Queued → List Queued
add_queued number row None behind = behind
add_queued number row (Some place) behind =
    record { number = number; product = row.product; time = row.time; place = place } ∷ behind

-- the present ones of these rows, the first of which has that number
abbrev pub queued_from : ℕ → List Row → List Queued
queued_from number [] = []
queued_from number (row ∷ rows) = add_queued number row row.place (queued_from (number + 1) rows)

-- the present rows, in the order of their numbers
abbrev pub queued : State → List Queued
queued s = queued_from 0 s.rows

abbrev pub has_signature : List ℕ → Queued → Bool
has_signature signature q = bytes_eq q.product.info.signature signature

-- the present row of that signature
abbrev pub queued_with : List ℕ → List Queued → Option Queued
queued_with signature rows = find (has_signature signature) rows

-- where the row of a number begins, if there is one and it is present
abbrev pub place_of_row : Option Row → Option ℕ
place_of_row row = option_and_then (λ (r : Row). r.place) row

-- whether the row of that number is present
abbrev pub is_queued : State → ℕ → Bool
is_queued s n = is_some (place_of_row (slice_get s.rows n))

-- where a present row lies
abbrev pub region_of : Queued → Region
region_of q = record { start = q.place; extent = extent_of q.product.info }

-- the open ones of these reservation places, in order
abbrev pub open_ones : List (Option Reservation) → List Reservation
open_ones [] = []
open_ones (None ∷ places) = open_ones places
open_ones (Some reservation ∷ places) = reservation ∷ open_ones places

-- the open reservations, in the order of their places
abbrev pub reserved : State → List Reservation
reserved s = open_ones s.reservations

-- the region that is reserved
abbrev pub reserved_region : Reservation → Region
reserved_region reservation = record { start = reservation.place; extent = extent_of reservation.info }

-- what occupies the arena: the present rows and the open reservations
abbrev pub occupied : State → List Region
occupied s = map region_of (queued s) ++ map reserved_region (reserved s)

-- how many slots are taken
abbrev pub slots_taken : State → ℕ
slots_taken s = length (queued s) + length (reserved s)
