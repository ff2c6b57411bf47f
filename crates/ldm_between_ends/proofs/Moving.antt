-- A queue that differs from another one by the cursor of one place at most: what calls on that cursor do.
use Rattle.std.proofs.Common.{◌≡◌, ◌∙◌, ℕ, ◌+◌, ◌<◌, List, [], ◌∷◌, ◌++◌, length, Option, Some, None, refl, sym, ap}
use Rattle.std.specs.Prelude.{set, slice_get, nat_lt}
use Rattle.std.specs.List.{find}
use Rattle.std.proofs.lemmas.Bool.{eq-eqb, cond-true, cond_both}
use Rattle.std.proofs.lemmas.List.{set-set, set-get_or, get_or-set_same}
use Rattle.ldm_model.specs.declared.event.Reply.{Reply}
use Rattle.ldm_model.specs.declared.event.Reply.TheVariants as reply
use Rattle.ldm_model.specs.declared.event.Start.{Start}
use Rattle.ldm_model.specs.State.{State, Row, Cursor, queued}
use Rattle.ldm_model.specs.Outcome.{Outcome, unchanged}
use Rattle.ldm_model.specs.Cursor.{cursor_of, cursor_at, if_owned, with_place, least_empty, on_cursor, on_held, awaits}
use Rattle.ldm_model.specs.Open.{open_cursor, open_at, open_from, open_position}
use Rattle.ldm_model.specs.Step.{step, step_held, step_to, after_give}
use Rattle.ldm_model.specs.Read.{read, read_row, part_of}
use Rattle.ldm_model.specs.Release.{release, close, after_release}
use Rattle.ldm_model.proofs.Places.{least-empty}

-- a cursor that holds nothing, and has no loss to tell
abbrev pub free : ℕ → ℕ → ℕ → List ℕ → Cursor
free actor feed at given = record { actor = actor; feed = feed; position = at; held = None; given = given; told = []; untold = [] }

-- the state with a cursor at a place
abbrev pub with_cursor : State → ℕ → Cursor → State
with_cursor s k cursor = with_place s k (Some cursor)

-- a place that was changed, changed once more
pub changed-twice : (s : State) (k : ℕ) (one other : Option Cursor) → with_place (with_place s k one) k other ≡ with_place s k other
changed-twice s k one other = ap (λ (cursors : List (Option Cursor)). record s { cursors = cursors }) (set-set s.cursors k one other)

-- an empty place, emptied
emptied : (s : State) (k : ℕ) → cursor_at s k ≡ None → with_place s k None ≡ s
emptied s k none = ap (λ (cursors : List (Option Cursor)). record s { cursors = cursors }) (ap (set s.cursors k) (sym none) ∙ set-get_or s.cursors k None)

-- reading changes nothing
pub read-changes_none : (s : State) (actor k offset len : ℕ) → (read s actor k offset len).state ≡ s
unfolding read
read-changes_none s actor k offset len = by_cursor (cursor_of s actor k)
  where
    by_row : (row : Option Row) → (read_row s row offset len).state ≡ s
    by_row None = refl
    by_row (Some row) = cond_both (nat_lt row.product.info.size offset) (unchanged s (reply.BadOffset row.product.info.size))
        (unchanged s (reply.Bytes (part_of row.product offset len))) (λ (o : Outcome). o.state ≡ s) (λ e. refl) (λ e. refl)

    by_held : (held : Option ℕ) → (on_held s held (λ n. read_row s (slice_get s.rows n) offset len)).state ≡ s
    by_held None = refl
    by_held (Some n) = by_row (slice_get s.rows n)

    by_cursor : (place : Option Cursor) → (on_cursor s place (λ cursor. on_held s cursor.held (λ n. read_row s (slice_get s.rows n) offset len))).state ≡ s
    by_cursor None = refl
    by_cursor (Some cursor) = by_held cursor.held

-- ---- calls of the cursor's owner

module _ (s : State) (k : ℕ) (within : k < length s.cursors) where
  its-cursor : (cursor : Cursor) → cursor_of (with_cursor s k cursor) cursor.actor k ≡ Some cursor
  its-cursor cursor = ap (if_owned cursor.actor) (get_or-set_same s.cursors k (Some cursor) None within)
      ∙ cond-true _ (Some cursor) None (eq-eqb cursor.actor cursor.actor refl)

  pub step-free : (actor feed at : ℕ) (given : List ℕ) → let cursor = free actor feed at given in
      step (with_cursor s k cursor) actor k ≡ step_to (with_cursor s k cursor) k cursor (find (awaits cursor) (queued s))
  unfolding step
  step-free actor feed at given =
      let cursor = free actor feed at given in
      let t = with_cursor s k cursor in
      ap (λ (place : Option Cursor). on_cursor t place (λ c. step_held t k c c.held)) (its-cursor cursor)

  -- a product that is given, and let go
  pub release-given : (actor feed at n : ℕ) (given : List ℕ)
      → (release (with_cursor s k (after_give n (free actor feed at given))) actor k).state ≡ with_cursor s k (free actor feed (n + 1) (given ++ n ∷ []))
  unfolding release
  release-given actor feed at n given =
      let cursor = after_give n (free actor feed at given) in
      let t = with_cursor s k cursor in
      ap (λ (place : Option Cursor). (on_cursor t place (λ c. on_held t c.held (λ m. record { reply = reply.Released m; state = with_place t k (Some (after_release c)) }))).state) (its-cursor cursor)
      ∙ changed-twice s k _ _

-- ---- opening and closing

-- a cursor was opened
pub record Opens (s : State) (actor feed : ℕ) (start : Start) (k : ℕ) : Type 0 where
  pub at : ℕ
  pub position : open_position s start ≡ Some at
  pub least : least_empty s.cursors ≡ Some k
  pub state : (open_cursor s actor feed start).state ≡ with_cursor s k (free actor feed at [])

pub opens-at : (s : State) (actor feed : ℕ) (start : Start) (k : ℕ) → reply.Opened k ≡ (open_cursor s actor feed start).reply → Opens s actor feed start k
unfolding open_cursor
opens-at s actor feed start k answered = by_place (least_empty s.cursors) refl answered
  where
    by_position : (j : ℕ) (at : Option ℕ) → least_empty s.cursors ≡ Some j → open_position s start ≡ at → reply.Opened k ≡ (open_from s actor feed j at).reply
        → (x : ℕ) × (open_position s start ≡ Some x) × (least_empty s.cursors ≡ Some k) × ((open_from s actor feed j at).state ≡ with_cursor s k (free actor feed x []))
    by_position j None least position e = absurd cc
    by_position j (Some x) least position e =
        let same : k ≡ j = cc in
        (x, position, least ∙ ap (λ (i : ℕ). Some i) (sym same), ap (λ (i : ℕ). with_cursor s i (free actor feed x [])) (sym same))

    by_place : (place : Option ℕ) → least_empty s.cursors ≡ place → reply.Opened k ≡ (open_at s actor feed start place).reply → Opens s actor feed start k
    by_place None least e = absurd cc
    by_place (Some j) least e =
        let found = by_position j (open_position s start) least refl e in
        record { at = found.0; position = found.1; least = found.2; state = ap (λ (place : Option ℕ). (open_at s actor feed start place).state) least ∙ found.3 }

-- an opening that was refused changes nothing
pub refused-at : (s : State) (actor feed : ℕ) (start : Start) (answer : Reply) → ((k : ℕ) → answer ≡ reply.Opened k → ⊥) → answer ≡ (open_cursor s actor feed start).reply
    → (open_cursor s actor feed start).state ≡ s
unfolding open_cursor
refused-at s actor feed start answer other answered = by_place (least_empty s.cursors) answered
  where
    by_position : (j : ℕ) (at : Option ℕ) → answer ≡ (open_from s actor feed j at).reply → (open_from s actor feed j at).state ≡ s
    by_position j None e = refl
    by_position j (Some x) e = absurd (other j e)

    by_place : (place : Option ℕ) → answer ≡ (open_at s actor feed start place).reply → (open_at s actor feed start place).state ≡ s
    by_place None e = refl
    by_place (Some j) e = by_position j (open_position s start) e

-- a cursor at a place that was empty before, closed
pub closed-again : (s : State) (actor k : ℕ) (cursor : Cursor) → least_empty s.cursors ≡ Some k → reply.Closed ≡ (close (with_cursor s k cursor) actor k).reply
    → (close (with_cursor s k cursor) actor k).state ≡ s
unfolding close
closed-again s actor k cursor least answered = by_cursor (cursor_of (with_cursor s k cursor) actor k) answered
  where
    by_cursor : (place : Option Cursor) → reply.Closed ≡ (on_cursor (with_cursor s k cursor) place (λ c. record { reply = reply.Closed; state = with_place (with_cursor s k cursor) k None })).reply
        → (on_cursor (with_cursor s k cursor) place (λ c. record { reply = reply.Closed; state = with_place (with_cursor s k cursor) k None })).state ≡ s
    by_cursor None e = absurd cc
    by_cursor (Some c) e = changed-twice s k (Some cursor) None ∙ emptied s k (least-empty s.cursors k least).1
