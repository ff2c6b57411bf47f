-- Reading a part of the body of a held product.
use Rattle.std.specs.Prelude.{ℕ, ◌-◌, nat_lt, List, take, drop, min, Option, Some, None, if◌then◌else◌, slice_get}
use Rattle.ldm_model.specs.declared.event.Reply.TheVariants as reply
use Rattle.ldm_model.specs.Product.{Product}
use Rattle.ldm_model.specs.State.{State, Row}
use Rattle.ldm_model.specs.Outcome.{Outcome, unchanged}
use Rattle.ldm_model.specs.Cursor.{cursor_of, on_cursor, on_held}

-- the bytes of a product's body from an offset on: as many as asked, or as are left
abbrev pub part_of : Product → ℕ → ℕ → List ℕ
part_of p offset len = take (min len (p.info.size - offset)) (drop offset p.body)

abbrev pub read_row : State → Option Row → ℕ → ℕ → Outcome
read_row s None offset len = unchanged s reply.NotHeld
read_row s (Some row) offset len =
    if nat_lt row.product.info.size offset
    then unchanged s (reply.BadOffset row.product.info.size)
    else unchanged s (reply.Bytes (part_of row.product offset len))

unfoldable pub read : State → ℕ → ℕ → ℕ → ℕ → Outcome
read s actor k offset len =
    on_cursor s (cursor_of s actor k) (λ cursor. on_held s cursor.held (λ n. read_row s (slice_get s.rows n) offset len))
