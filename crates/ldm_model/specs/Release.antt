-- Letting a held product go, and closing a cursor.
use Rattle.std.specs.Prelude.{ℕ, Some, None}
use Rattle.ldm_model.specs.declared.event.Reply.TheVariants as reply
use Rattle.ldm_model.specs.State.{State, Cursor}
use Rattle.ldm_model.specs.Outcome.{Outcome}
use Rattle.ldm_model.specs.Cursor.{cursor_of, with_place, on_cursor, on_held}

-- a cursor that holds nothing any more
abbrev pub after_release : Cursor → Cursor
after_release cursor = record cursor { held = None }

unfoldable pub release : State → ℕ → ℕ → Outcome
release s actor k =
    on_cursor s (cursor_of s actor k) (λ cursor. on_held s cursor.held (λ n. record { reply = reply.Released n; state = with_place s k (Some (after_release cursor)) }))

-- the place is empty then, and a hold ends
unfoldable pub close : State → ℕ → ℕ → Outcome
close s actor k =
    on_cursor s (cursor_of s actor k) (λ cursor. record { reply = reply.Closed; state = with_place s k None })
