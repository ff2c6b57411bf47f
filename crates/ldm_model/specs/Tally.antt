-- Counting what a cursor was given, what it lost, and what is left for it.
use Rattle.std.specs.Prelude.{ℕ, ◌+◌, length, count_by}
use Rattle.ldm_model.specs.declared.event.Reply.{Reply}
use Rattle.ldm_model.specs.declared.event.Reply.TheVariants as reply
use Rattle.ldm_model.specs.State.{State, Cursor, queued}
use Rattle.ldm_model.specs.Outcome.{Outcome, unchanged}
use Rattle.ldm_model.specs.Cursor.{cursor_of, on_cursor, awaits}

abbrev pub tally_reply : State → Cursor → Reply
tally_reply s cursor =
    reply.Tally (length cursor.given) (length cursor.told + length cursor.untold) (count_by (awaits cursor) (queued s))

unfoldable pub tally : State → ℕ → ℕ → Outcome
tally s actor k = on_cursor s (cursor_of s actor k) (λ cursor. unchanged s (tally_reply s cursor))
