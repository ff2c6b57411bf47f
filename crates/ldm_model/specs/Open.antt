-- Opening a cursor: all places taken, the product to begin behind not queued, opened.
use Rattle.std.specs.Prelude.{ℕ, ◌+◌, nat_lt, Bool, true, [], Option, Some, None}
use Rattle.std.specs.List.{find}
use Rattle.std.specs.Option.{option_map}
use Rattle.ldm_model.specs.declared.event.Start.{Start}
use Rattle.ldm_model.specs.declared.event.Start.TheVariants.{Oldest, Next, After, AfterSignature}
use Rattle.ldm_model.specs.declared.event.Reply.TheVariants as reply
use Rattle.ldm_model.specs.State.{State, Cursor, Queued, end_of, queued, queued_with}
use Rattle.ldm_model.specs.Outcome.{Outcome, unchanged}
use Rattle.ldm_model.specs.Cursor.{least_empty, with_place}

-- the number of a present row, or the end where there is none
abbrev pub number_or_end : State → Option Queued → ℕ
number_or_end s None = end_of s
number_or_end s (Some q) = q.number

-- whether a row was inserted later than that
abbrev pub is_later : ℕ → Queued → Bool
is_later time q = nat_lt time q.time

-- where a cursor begins, unless the product that it is to begin behind is not queued
abbrev pub open_position : State → Start → Option ℕ
open_position s Oldest = Some (number_or_end s (find (λ q. true) (queued s)))
open_position s Next = Some (end_of s)
open_position s (After time) = Some (number_or_end s (find (is_later time) (queued s)))
open_position s (AfterSignature signature) = option_map (λ (q : Queued). q.number + 1) (queued_with signature.0 (queued s))

-- a cursor that was given nothing and lost nothing
abbrev pub new_cursor : ℕ → ℕ → ℕ → Cursor
new_cursor actor feed at = record { actor = actor; feed = feed; position = at; held = None; given = []; told = []; untold = [] }

-- opened at a place, unless there is nowhere to begin
abbrev pub open_from : State → ℕ → ℕ → ℕ → Option ℕ → Outcome
open_from s actor feed k None = unchanged s reply.NotQueued
open_from s actor feed k (Some at) = record { reply = reply.Opened k; state = with_place s k (Some (new_cursor actor feed at)) }

-- opened at the least empty place
abbrev pub open_at : State → ℕ → ℕ → Start → Option ℕ → Outcome
open_at s actor feed start None = unchanged s reply.AllBusy
open_at s actor feed start (Some k) = open_from s actor feed k (open_position s start)

unfoldable pub open_cursor : State → ℕ → ℕ → Start → Outcome
open_cursor s actor feed start = open_at s actor feed start (least_empty s.cursors)
