-- What events lead to, case by case: what holds in each case holds of the event.
use Rattle.std.proofs.Common.{◌≡◌, ℕ, true, false, List, [], ◌∷◌, find, Option, Some, None, refl}
use Rattle.std.specs.Prelude.{Bool, nat_lt, slice_get}
use Rattle.std.proofs.lemmas.Bool.{false≢true, cond_both}
use Rattle.ldm_model.specs.declared.event.Event.{Event}
use Rattle.ldm_model.specs.declared.event.Event.TheVariants as event
use Rattle.ldm_model.specs.declared.event.Start.{Start}
use Rattle.ldm_model.specs.declared.event.Reply.{Reply}
use Rattle.ldm_model.specs.declared.event.Reply.TheVariants as reply
use Rattle.ldm_model.specs.Product.{Product, extent_of}
use Rattle.ldm_model.specs.State.{State, Row, Cursor, Queued, last_time, queued, queued_with}
use Rattle.ldm_model.specs.Outcome.{Outcome, unchanged}
use Rattle.ldm_model.specs.Evict.{count_held, unheld, evict}
use Rattle.ldm_model.specs.Insert.{insert, insert_fitting, insert_by_evictions, is_last, evictions, after_evicting, admitted}
use Rattle.ldm_model.specs.Cursor.{cursor_of, least_empty, awaits, on_cursor, on_held}
use Rattle.ldm_model.specs.Open.{open_cursor, open_at, open_from, open_position}
use Rattle.ldm_model.specs.Step.{step, step_held, step_free, step_to}
use Rattle.ldm_model.specs.Read.{read, read_row, part_of}
use Rattle.ldm_model.specs.Release.{release, close}
use Rattle.ldm_model.specs.Look.{look, look_reply}
use Rattle.ldm_model.specs.Expire.{expire, expire_first}
use Rattle.ldm_model.specs.Tally.{tally}
use Rattle.ldm_model.specs.Stat.{stat}
use Rattle.ldm_model.specs.Next.{next}
use Rattle.ldm_model.specs.History.{is_admission}

-- whether an event changes cursors at most
abbrev pub is_quiet : Event → Bool
is_quiet (event.Insert now info body) = false
is_quiet event.Expire = false
is_quiet (event.Reserve info) = false
is_quiet (event.Fill r bytes) = false
is_quiet (event.Commit r now) = false
is_quiet (event.Discard r) = false
is_quiet _ = true

module _ (s : State) (P : Outcome → Type 0) where
  module _ (each : (r : Reply) (cursors : List (Option Cursor)) → is_admission r ≡ false → P (record { reply = r; state = record s { cursors = cursors } })) where
    same : (r : Reply) → is_admission r ≡ false → P (unchanged s r)
    same r = each r s.cursors

    by_opening : (actor feed k : ℕ) (at : Option ℕ) → P (open_from s actor feed k at)
    by_opening actor feed k None = same reply.NotQueued refl
    by_opening actor feed k (Some at) = each (reply.Opened k) _ refl

    by_place : (actor feed : ℕ) (start : Start) (k : Option ℕ) → P (open_at s actor feed start k)
    by_place actor feed start None = same reply.AllBusy refl
    by_place actor feed start (Some k) = by_opening actor feed k (open_position s start)

    by_open : (actor feed : ℕ) (start : Start) → P (open_cursor s actor feed start)
    unfolding open_cursor
    by_open actor feed start = by_place actor feed start (least_empty s.cursors)

    by_look : (signature : List ℕ) → P (look s signature)
    unfolding look
    by_look signature = by_queued (queued_with signature (queued s))
      where
        by_queued : (q : Option Queued) → P (unchanged s (look_reply q))
        by_queued None = same reply.Absent refl
        by_queued (Some q) = same (reply.Queued q.number q.time) refl

    by_stat : P (stat s)
    unfolding stat
    by_stat = same _ refl

    module _ (actor k : ℕ) where
      on_its_cursor : (act : Cursor → Outcome) → ((cursor : Cursor) → P (act cursor)) → P (on_cursor s (cursor_of s actor k) act)
      on_its_cursor act some = by_cursor (cursor_of s actor k)
        where
          by_cursor : (place : Option Cursor) → P (on_cursor s place act)
          by_cursor None = same reply.NoCursor refl
          by_cursor (Some cursor) = some cursor

      on_its_held : (held : Option ℕ) (act : ℕ → Outcome) → ((n : ℕ) → P (act n)) → P (on_held s held act)
      on_its_held None act some = same reply.NotHeld refl
      on_its_held (Some n) act some = some n

      by_step_to : (cursor : Cursor) (q : Option Queued) → P (step_to s k cursor q)
      by_step_to cursor None = each _ _ refl
      by_step_to cursor (Some q) = each _ _ refl

      by_step_free : (cursor : Cursor) (untold : List ℕ) → P (step_free s k cursor untold)
      by_step_free cursor [] = by_step_to cursor (find (awaits cursor) (queued s))
      by_step_free cursor (n ∷ ns) = each _ _ refl

      by_step_held : (cursor : Cursor) (held : Option ℕ) → P (step_held s k cursor held)
      by_step_held cursor (Some n) = same (reply.Holding n) refl
      by_step_held cursor None = by_step_free cursor cursor.untold

      by_step : P (step s actor k)
      unfolding step
      by_step = on_its_cursor _ (λ cursor. by_step_held cursor cursor.held)

      by_read_row : (offset len : ℕ) (row : Option Row) → P (read_row s row offset len)
      by_read_row offset len None = same reply.NotHeld refl
      by_read_row offset len (Some row) = cond_both (nat_lt row.product.info.size offset) (unchanged s (reply.BadOffset row.product.info.size))
          (unchanged s (reply.Bytes (part_of row.product offset len))) P (λ e. same _ refl) (λ e. same _ refl)

      by_read : (offset len : ℕ) → P (read s actor k offset len)
      unfolding read
      by_read offset len = on_its_cursor _ (λ cursor. on_its_held cursor.held _ (λ n. by_read_row offset len (slice_get s.rows n)))

      by_release : P (release s actor k)
      unfolding release
      by_release = on_its_cursor _ (λ cursor. on_its_held cursor.held _ (λ n. each _ _ refl))

      by_close : P (close s actor k)
      unfolding close
      by_close = on_its_cursor _ (λ cursor. each _ _ refl)

      by_tally : P (tally s actor k)
      unfolding tally
      by_tally = on_its_cursor _ (λ cursor. same _ refl)

    pub by_quiet : (actor : ℕ) (e : Event) → is_quiet e ≡ true → P (next s actor e)
    by_quiet actor (event.OpenCursor feed start) quiet = by_open actor feed.0 start
    by_quiet actor (event.Step k) quiet = by_step actor k
    by_quiet actor (event.Read k offset len) quiet = by_read actor k offset len
    by_quiet actor (event.Release k) quiet = by_release actor k
    by_quiet actor (event.Close k) quiet = by_close actor k
    by_quiet actor (event.Look signature) quiet = by_look signature.0
    by_quiet actor (event.Tally k) quiet = by_tally actor k
    by_quiet actor event.Stat quiet = by_stat
    by_quiet actor (event.Insert now info body) quiet = absurd (false≢true quiet)
    by_quiet actor event.Expire quiet = absurd (false≢true quiet)
    by_quiet actor (event.Reserve info) quiet = absurd (false≢true quiet)
    by_quiet actor (event.Fill r bytes) quiet = absurd (false≢true quiet)
    by_quiet actor (event.Commit r now) quiet = absurd (false≢true quiet)
    by_quiet actor (event.Discard r) quiet = absurd (false≢true quiet)

  -- a product is admitted, or nothing changes
  module _ (now : ℕ) (p : Product) (refused : (r : Reply) → is_admission r ≡ false → P (unchanged s r))
      (admits : (j : ℕ) → evictions s (extent_of p.info) ≡ Some j → P (admitted (after_evicting s j) now p j)) where
    by_evictions : (j : Option ℕ) → evictions s (extent_of p.info) ≡ j → P (insert_by_evictions s now p j)
    by_evictions None e = refused (reply.Locked (count_held s)) refl
    by_evictions (Some j) e = admits j e

    by_fitting : (q : Option Queued) → P (insert_fitting s now p q)
    by_fitting (Some q) = refused (reply.Duplicate q.number) refl
    by_fitting None = cond_both (is_last (last_time s)) (unchanged s reply.TimeEnd) (insert_by_evictions s now p (evictions s (extent_of p.info))) P
        (λ e. refused reply.TimeEnd refl) (λ e. by_evictions (evictions s (extent_of p.info)) refl)

    pub by_insert : P (insert s now p)
    unfolding insert
    by_insert = cond_both (nat_lt s.arena (extent_of p.info)) (unchanged s (reply.TooBig (extent_of p.info) s.arena))
        (insert_fitting s now p (queued_with p.info.signature (queued s))) P
        (λ e. refused (reply.TooBig (extent_of p.info) s.arena) refl) (λ e. by_fitting (queued_with p.info.signature (queued s)))

  -- the first row that nobody holds is evicted, or nothing changes
  pub by_expire : P (unchanged s reply.Nothing) → ((n : ℕ) (ns : List ℕ) → unheld s ≡ n ∷ ns → P (record { reply = reply.Expired n; state = evict s n })) → P (expire s)
  unfolding expire
  by_expire none some = by_unheld (unheld s) refl
    where
      by_unheld : (ns : List ℕ) → unheld s ≡ ns → P (expire_first s ns)
      by_unheld [] e = none
      by_unheld (n ∷ ns) e = some n ns e
