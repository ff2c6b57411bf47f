-- Which products are held, and what evicting one does.
use Rattle.std.specs.Prelude.{ℕ, zero, suc, ◌+◌, Bool, false, not, ◌&&◌, nat_le, List, [], ◌∷◌, ◌++◌, length, map, filter, Option, Some, None, if◌then◌else◌, slice_get}
use Rattle.std.specs.List.{list_any, range_with_len}
use Rattle.ldm_types.specs.Cursors.{is_number}
use Rattle.ldm_types.specs.Feed.{feeds_meet}
use Rattle.ldm_model.specs.State.{State, Row, Cursor, Queued, end_of, queued, reserved}

abbrev pub holds : ℕ → Option Cursor → Bool
holds n None = false
holds n (Some cursor) = is_number n cursor.held

-- whether an open cursor holds the row
abbrev pub is_held : State → ℕ → Bool
is_held s n = list_any (holds n) s.cursors

-- the numbers of the present rows, in ascending order
abbrev pub numbers : State → List ℕ
numbers s = map (λ (q : Queued). q.number) (queued s)

-- the numbers that open cursors hold, in ascending order and each once
abbrev pub held : State → List ℕ
held s = filter (is_held s) (range_with_len 0 (end_of s))

-- how many regions are held: those of the products that cursors hold, and those that are reserved
abbrev pub count_held : State → ℕ
count_held s = length (held s) + length (reserved s)

-- the numbers of the present rows that nobody holds, in ascending order
abbrev pub unheld : State → List ℕ
unheld s = filter (λ n. not (is_held s n)) (numbers s)

-- these rows, of which the one at a place is evicted
abbrev pub without_place : List Row → ℕ → List Row
without_place [] n = []
without_place (row ∷ rows) zero = record row { place = None } ∷ rows
without_place (row ∷ rows) (suc n) = row ∷ without_place rows n

-- a cursor, after a row with these feedtypes was evicted: the loss is its own where its feedtypes meet the
-- row's and it is not past the row
abbrev pub with_loss : ℕ → ℕ → Option Cursor → Option Cursor
with_loss n feed None = None
with_loss n feed (Some cursor) =
    if nat_le cursor.position n && feeds_meet cursor.feed feed
    then Some (record cursor { untold = cursor.untold ++ n ∷ [] })
    else Some cursor

abbrev pub evict_row : State → ℕ → Option Row → State
evict_row s n None = s
evict_row s n (Some row) = record s { rows = without_place s.rows n; cursors = map (with_loss n row.product.info.feed) s.cursors }

-- the state after the row of that number is evicted
abbrev pub evict : State → ℕ → State
evict s n = evict_row s n (slice_get s.rows n)

-- the state after these rows are evicted, the first of them first
abbrev pub evict_all : State → List ℕ → State
evict_all s [] = s
evict_all s (n ∷ ns) = evict_all (evict s n) ns
