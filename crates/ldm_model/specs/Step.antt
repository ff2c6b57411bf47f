-- A cursor goes on, by cases in this order: no cursor, holding, losses to tell, the next product, the end.
use Rattle.std.specs.Prelude.{ℕ, ◌+◌, List, [], ◌∷◌, ◌++◌, length, min, max, Option, Some, None}
use Rattle.std.specs.List.{find}
use Rattle.ldm_model.specs.declared.event.Reply.TheVariants as reply
use Rattle.ldm_model.specs.State.{State, Cursor, Queued, end_of, queued}
use Rattle.ldm_model.specs.Outcome.{Outcome, unchanged}
use Rattle.ldm_model.specs.Cursor.{cursor_of, with_place, on_cursor, awaits}

-- the least of a number and others
abbrev pub least_of : ℕ → List ℕ → ℕ
least_of n [] = n
least_of n (m ∷ ms) = min n (least_of m ms)

-- the greatest of a number and others
abbrev pub greatest_of : ℕ → List ℕ → ℕ
greatest_of n [] = n
greatest_of n (m ∷ ms) = max n (greatest_of m ms)

-- the losses that were not told yet are told now
abbrev pub after_tell : Cursor → Cursor
after_tell cursor = record cursor { told = cursor.told ++ cursor.untold; untold = [] }

-- a cursor that is given a row, and holds it
abbrev pub after_give : ℕ → Cursor → Cursor
after_give n cursor = record cursor { held = Some n; given = cursor.given ++ n ∷ []; position = n + 1 }

-- the cursor is given this row; or there is none, and it goes on at the end
abbrev pub step_to : State → ℕ → Cursor → Option Queued → Outcome
step_to s k cursor None = record { reply = reply.End (end_of s); state = with_place s k (Some (record cursor { position = end_of s })) }
step_to s k cursor (Some q) = record {
  reply = reply.Product q.number q.time q.product.info;
  state = with_place s k (Some (after_give q.number cursor));
}

-- these losses are told; where there are none, the cursor goes on to the first row that is still to come
abbrev pub step_free : State → ℕ → Cursor → List ℕ → Outcome
step_free s k cursor [] = step_to s k cursor (find (awaits cursor) (queued s))
step_free s k cursor (n ∷ ns) = record {
  reply = reply.Gap (length (n ∷ ns)) (least_of n ns) (greatest_of n ns);
  state = with_place s k (Some (after_tell cursor));
}

-- a cursor that holds a row is given no other one
abbrev pub step_held : State → ℕ → Cursor → Option ℕ → Outcome
step_held s k cursor (Some n) = unchanged s (reply.Holding n)
step_held s k cursor None = step_free s k cursor cursor.untold

unfoldable pub step : State → ℕ → ℕ → Outcome
step s actor k = on_cursor s (cursor_of s actor k) (λ cursor. step_held s k cursor cursor.held)
