-- The cursors of a queue by their places, and what each call makes of them.
use Rattle.std.specs.Prelude.{ℕ, ◌+◌, ◌<◌, min, max, nat_le, Bool, false, not, ◌&&◌, [], ◌∷◌, set, slice_index_or, Option, Some, None, is_none, if◌then◌else◌}
use Rattle.std.specs.List.{All, list_any, position}
use Rattle.std.specs.Option.{option_map, IfSome}
use Rattle.ldm_types.specs.Cursors.{Losses, KeptCursor, Places, is_number}
use Rattle.ldm_types.specs.Feed.{feeds_meet}

-- the cursor of a place, if it is open
abbrev pub cursor_at : Places → ℕ → Option KeptCursor
cursor_at places k = slice_index_or places k None

-- the number that the cursor of a place holds
abbrev pub held_of : Option KeptCursor → Option ℕ
held_of None = None
held_of (Some cursor) = cursor.held

abbrev pub held_at : Places → ℕ → Option ℕ
held_at places k = held_of (cursor_at places k)

-- whether the cursor of a place holds the product of that number
abbrev pub holds : ℕ → Option KeptCursor → Bool
holds n place = is_number n (held_of place)

-- whether a cursor holds the product of that number
abbrev pub is_held : ℕ → Places → Bool
is_held n places = list_any (holds n) places

-- whether a product is held, and not by one of those behind
abbrev pub is_last_hold : Option ℕ → Places → Bool
is_last_hold None behind = false
is_last_hold (Some n) behind = not (is_held n behind)

-- how many products are held, each counted once
abbrev pub count_held : Places → ℕ
count_held [] = 0
count_held (place ∷ behind) = (if is_last_hold (held_of place) behind then 1 else 0) + count_held behind

-- the least place that is empty, if one is
abbrev pub least_empty : Places → Option ℕ
least_empty places = position is_none places

-- a cursor that was given nothing and lost nothing
abbrev pub new_cursor : ℕ → ℕ → ℕ → KeptCursor
new_cursor actor feed at =
    record { actor = actor; feed = feed; position = at; held = None; untold = None; given = 0; lost = 0 }

-- the places with a cursor put at one
abbrev pub with_cursor : Places → ℕ → KeptCursor → Places
with_cursor places k cursor = set places k (Some cursor)

-- the places with the cursor of one changed
abbrev pub with_change : Places → ℕ → (KeptCursor → KeptCursor) → Places
with_change places k change = set places k (option_map change (cursor_at places k))

-- the places with one left empty
abbrev pub without_cursor : Places → ℕ → Places
without_cursor places k = set places k None

-- whether the product of that number and feed is still to come at a cursor
abbrev pub awaits : ℕ → ℕ → KeptCursor → Bool
awaits n feed cursor = nat_le cursor.position n && feeds_meet cursor.feed feed

-- losses, and one more
abbrev pub with_one_more : ℕ → Option Losses → Losses
with_one_more n None = record { count = 1; least = n; greatest = n }
with_one_more n (Some losses) =
    record { count = losses.count + 1; least = min losses.least n; greatest = max losses.greatest n }

-- a cursor that lost the product of that number
abbrev pub cursor_with_loss : ℕ → KeptCursor → KeptCursor
cursor_with_loss n cursor = record cursor { untold = Some (with_one_more n cursor.untold); lost = cursor.lost + 1 }

-- a cursor after the loss of the product of that number and feed
abbrev pub after_loss : ℕ → ℕ → KeptCursor → KeptCursor
after_loss n feed cursor = if awaits n feed cursor then cursor_with_loss n cursor else cursor

-- a place after the loss of the product of that number and feed
abbrev pub with_loss : ℕ → ℕ → Option KeptCursor → Option KeptCursor
with_loss n feed place = option_map (after_loss n feed) place

-- a cursor that is given the product of that number, and holds it
abbrev pub after_hold : ℕ → KeptCursor → KeptCursor
after_hold n cursor = record cursor { held = Some n; position = n + 1; given = cursor.given + 1 }

-- a cursor that holds nothing any more
abbrev pub after_release : KeptCursor → KeptCursor
after_release cursor = record cursor { held = None }

-- a cursor whose losses were all told
abbrev pub after_tell : KeptCursor → KeptCursor
after_tell cursor = record cursor { untold = None }

-- a cursor that goes on at that number
abbrev pub after_move : ℕ → KeptCursor → KeptCursor
after_move at cursor = record cursor { position = at }

-- how many, the least and the greatest
abbrev pub numbers_of : Losses → ℕ × ℕ × ℕ
numbers_of losses = (losses.count, losses.least, losses.greatest)

-- every count of a cursor is below that number
pub record HasCountsBelow (limit : ℕ) (cursor : KeptCursor) : Type 0 where
  pub untold : IfSome cursor.untold (λ losses. losses.count < limit)
  pub given : cursor.given < limit
  pub lost : cursor.lost < limit

-- every count of each cursor is below that number
abbrev pub CountsBelow : ℕ → Places → Type 0
CountsBelow limit places = All (λ place. IfSome place (HasCountsBelow limit)) places
