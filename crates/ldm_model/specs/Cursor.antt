-- The cursor places of a queue.
use Rattle.std.specs.Prelude.{ℕ, ◌==◌, Bool, ◌&&◌, nat_le, List, set, slice_index_or, is_none, position, Option, Some, None, if◌then◌else◌}
use Rattle.ldm_types.specs.Feed.{feeds_meet}
use Rattle.ldm_model.specs.State.{State, Cursor, Queued}
use Rattle.ldm_model.specs.Outcome.{Outcome, unchanged}
use Rattle.ldm_model.specs.declared.event.Reply.TheVariants as reply

-- the least empty place
abbrev pub least_empty : {A : Type 0} → List (Option A) → Option ℕ
least_empty places = position is_none places

-- the cursor of a place, if it is open
abbrev pub cursor_at : State → ℕ → Option Cursor
cursor_at s k = slice_index_or s.cursors k None

-- the state with a place changed
abbrev pub with_place : State → ℕ → Option Cursor → State
with_place s k place = record s { cursors = set s.cursors k place }

-- a cursor, where it is the actor's
abbrev pub if_owned : ℕ → Option Cursor → Option Cursor
if_owned actor None = None
if_owned actor (Some cursor) = if cursor.actor == actor then Some cursor else None

-- the actor's cursor at a place, if it has one there
abbrev pub cursor_of : State → ℕ → ℕ → Option Cursor
cursor_of s actor k = if_owned actor (cursor_at s k)

-- what an event on a cursor does, if the actor has a cursor there
abbrev pub on_cursor : State → Option Cursor → (Cursor → Outcome) → Outcome
on_cursor s None act = unchanged s reply.NoCursor
on_cursor s (Some cursor) act = act cursor

-- what an event on a held product does, if the cursor holds one
abbrev pub on_held : State → Option ℕ → (ℕ → Outcome) → Outcome
on_held s None act = unchanged s reply.NotHeld
on_held s (Some n) act = act n

-- whether a present row is still to come at a cursor: it is at or past the position, and the feedtypes meet
abbrev pub awaits : Cursor → Queued → Bool
awaits cursor q = nat_le cursor.position q.number && feeds_meet cursor.feed q.product.info.feed
