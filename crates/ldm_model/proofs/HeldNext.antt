-- After each event, each product that a cursor holds is queued.
use Rattle.std.proofs.Common.{◌≡◌, ◌∙◌, ℕ, List, [], ◌∷◌, take, Option, Some, None, refl, sym, ap}
use Rattle.std.specs.Prelude.{nat_lt, slice_get}
use Rattle.std.specs.List.{find}
use Rattle.std.proofs.lemmas.Bool.{false≢true, cond_both, eqb-true}
use Rattle.ldm_model.specs.declared.event.Event.{Event}
use Rattle.ldm_model.specs.declared.event.Event.TheVariants as event
use Rattle.ldm_model.specs.declared.event.Start.{Start}
use Rattle.ldm_model.specs.declared.event.Entry.{Entry}
use Rattle.ldm_types.specs.Info.{Metadata}
use Rattle.ldm_model.specs.Product.{Product, extent_of}
use Rattle.ldm_model.specs.State.{State, Row, Cursor, Queued, empty, last_time, queued, queued_with, is_queued}
use Rattle.ldm_model.specs.Outcome.{Outcome, unchanged}
use Rattle.ldm_model.specs.declared.event.Reply.TheVariants as reply
use Rattle.ldm_model.specs.Evict.{unheld}
use Rattle.ldm_model.specs.Insert.{insert, insert_fitting, insert_by_evictions, is_last, evictions, after_evicting}
use Rattle.ldm_model.specs.Cursor.{cursor_of, least_empty, awaits}
use Rattle.ldm_model.specs.Reservation.{with_reservation}
use Rattle.ldm_model.specs.Open.{open_cursor, open_at, open_from, open_position}
use Rattle.ldm_model.specs.Step.{step, step_held, step_free, step_to}
use Rattle.ldm_model.specs.Read.{read, read_row, part_of}
use Rattle.ldm_model.specs.Release.{release, close}
use Rattle.ldm_model.specs.Look.{look}
use Rattle.ldm_model.specs.Expire.{expire, expire_first}
use Rattle.ldm_model.specs.Tally.{tally}
use Rattle.ldm_model.specs.Stat.{stat}
use Rattle.ldm_model.specs.Reserve.{reserve}
use Rattle.ldm_model.specs.Fill.{fill, discard}
use Rattle.ldm_model.specs.Commit.{commit}
use Rattle.ldm_model.specs.Next.{next}
use Rattle.ldm_model.specs.History.{after_entries, next_entry}
use Rattle.ldm_model.proofs.Held.{HoldsQueued, AreFree, AreFree-unheld, AreFree-take, HoldsQueued-evict, HoldsQueued-evict_all, HoldsQueued-append, HoldsQueued-place, HoldsQueued-on_cursor, HoldsQueued-on_held, queued-held, is_queued-found}
use Rattle.ldm_model.proofs.ReservationCases.{by_reserve, by_fill, by_discard, by_commit}

abbrev Leaves : Outcome → Type 0
Leaves outcome = HoldsQueued outcome.state

module _ (s : State) (kept : HoldsQueued s) where
  after_evictions : (now : ℕ) (p : Product) (j : Option ℕ) → Leaves (insert_by_evictions s now p j)
  after_evictions now p None = kept
  after_evictions now p (Some j) = HoldsQueued-append (after_evicting s j) _ (HoldsQueued-evict_all (take j (unheld s)) s (AreFree-take s j (unheld s) (AreFree-unheld s)) kept)

  after_fitting : (now : ℕ) (p : Product) (q : Option Queued) → Leaves (insert_fitting s now p q)
  after_fitting now p (Some q) = kept
  after_fitting now p None = cond_both (is_last (last_time s)) (unchanged s reply.TimeEnd) (insert_by_evictions s now p (evictions s (extent_of p.info))) Leaves (λ e. kept) (λ e. after_evictions now p (evictions s (extent_of p.info)))

  after_insert : (now : ℕ) (p : Product) → Leaves (insert s now p)
  unfolding insert
  after_insert now p = cond_both (nat_lt s.arena (extent_of p.info)) (unchanged s (reply.TooBig (extent_of p.info) s.arena)) (insert_fitting s now p (queued_with p.info.signature (queued s))) Leaves (λ e. kept) (λ e. after_fitting now p (queued_with p.info.signature (queued s)))

  after_opening : (actor feed k : ℕ) (at : Option ℕ) → Leaves (open_from s actor feed k at)
  after_opening actor feed k None = kept
  after_opening actor feed k (Some at) = HoldsQueued-place s k _ kept (λ n h. absurd (false≢true h))

  after_place : (actor feed : ℕ) (start : Start) (k : Option ℕ) → Leaves (open_at s actor feed start k)
  after_place actor feed start None = kept
  after_place actor feed start (Some k) = after_opening actor feed k (open_position s start)

  after_open : (actor feed : ℕ) (start : Start) → Leaves (open_cursor s actor feed start)
  unfolding open_cursor
  after_open actor feed start = after_place actor feed start (least_empty s.cursors)

  after_expire_first : (ns : List ℕ) → AreFree s ns → Leaves (expire_first s ns)
  after_expire_first [] free = kept
  after_expire_first (n ∷ ns) free = HoldsQueued-evict s n kept free.0

  after_expire : Leaves (expire s)
  unfolding expire
  after_expire = after_expire_first (unheld s) (AreFree-unheld s)

  module _ (actor k : ℕ) where
    after_step_to : (cursor : Cursor) (own : cursor_of s actor k ≡ Some cursor) (q : Option Queued) → find (awaits cursor) (queued s) ≡ q → Leaves (step_to s k cursor q)
    after_step_to cursor own None found = HoldsQueued-place s k _ kept (λ n h. queued-held s actor k n cursor kept own h)
    after_step_to cursor own (Some q) found = HoldsQueued-place s k _ kept (λ n h. ap (is_queued s) (sym (eqb-true q.number n h)) ∙ is_queued-found s (awaits cursor) q found)

    after_step_free : (cursor : Cursor) (own : cursor_of s actor k ≡ Some cursor) (untold : List ℕ) → Leaves (step_free s k cursor untold)
    after_step_free cursor own [] = after_step_to cursor own (find (awaits cursor) (queued s)) refl
    after_step_free cursor own (n ∷ ns) = HoldsQueued-place s k _ kept (λ m h. queued-held s actor k m cursor kept own h)

    after_step_held : (cursor : Cursor) (own : cursor_of s actor k ≡ Some cursor) (held : Option ℕ) → Leaves (step_held s k cursor held)
    after_step_held cursor own (Some n) = kept
    after_step_held cursor own None = after_step_free cursor own cursor.untold

    after_step : Leaves (step s actor k)
    unfolding step
    after_step = HoldsQueued-on_cursor s (cursor_of s actor k) _ kept (λ cursor own. after_step_held cursor own cursor.held)

    after_read_row : (offset len : ℕ) (row : Option Row) → Leaves (read_row s row offset len)
    after_read_row offset len None = kept
    after_read_row offset len (Some row) = cond_both (nat_lt row.product.info.size offset) (unchanged s (reply.BadOffset row.product.info.size)) (unchanged s (reply.Bytes (part_of row.product offset len))) Leaves (λ e. kept) (λ e. kept)

    after_read : (offset len : ℕ) → Leaves (read s actor k offset len)
    unfolding read
    after_read offset len = HoldsQueued-on_cursor s (cursor_of s actor k) _ kept (λ cursor own. HoldsQueued-on_held s cursor.held _ kept (λ n. after_read_row offset len (slice_get s.rows n)))

    after_release : Leaves (release s actor k)
    unfolding release
    after_release = HoldsQueued-on_cursor s (cursor_of s actor k) _ kept (λ cursor own. HoldsQueued-on_held s cursor.held _ kept (λ n. HoldsQueued-place s k _ kept (λ m h. absurd (false≢true h))))

    after_close : Leaves (close s actor k)
    unfolding close
    after_close = HoldsQueued-on_cursor s (cursor_of s actor k) _ kept (λ cursor own. HoldsQueued-place s k _ kept (λ m h. absurd (false≢true h)))

    after_tally : Leaves (tally s actor k)
    unfolding tally
    after_tally = HoldsQueued-on_cursor s (cursor_of s actor k) _ kept (λ cursor own. kept)

  after_look : (signature : List ℕ) → Leaves (look s signature)
  unfolding look
  after_look signature = kept

  after_stat : Leaves (stat s)
  unfolding stat
  after_stat = kept

  -- reservations hold no product
  after_reserve : (actor : ℕ) (info : Metadata) → Leaves (reserve s actor info)
  after_reserve actor info = by_reserve s Leaves actor info (record {
    too_big = kept;
    duplicate = λ n. kept;
    all_reserved = kept;
    locked = λ held. kept;
    reserved = λ r j place e. HoldsQueued-evict_all (take j (unheld s)) s (AreFree-take s j (unheld s) (AreFree-unheld s)) kept;
  })

  after_fill : (actor r : ℕ) (bytes : List ℕ) → Leaves (fill s actor r bytes)
  after_fill actor r bytes = by_fill s Leaves actor r bytes (record { no_reservation = λ e. kept; overfill = λ reservation e. kept; filled = λ reservation e fits. kept })

  after_discard : (actor r : ℕ) → Leaves (discard s actor r)
  after_discard actor r = by_discard s Leaves actor r (λ e. kept) (λ reservation e. kept)

  after_commit : (actor r now : ℕ) → Leaves (commit s actor r now)
  after_commit actor r now = by_commit s Leaves actor r now (record {
    no_reservation = λ e. kept;
    unfilled = λ reservation e. kept;
    duplicate = λ reservation e n. kept;
    time_end = λ reservation e. kept;
    committed = λ reservation e whole. HoldsQueued-append (with_reservation s r None) _ kept;
  })

  pub HoldsQueued-next : (actor : ℕ) (e : Event) → Leaves (next s actor e)
  HoldsQueued-next actor (event.Insert now info body) = after_insert now (record { info = info; body = body })
  HoldsQueued-next actor (event.OpenCursor feed start) = after_open actor feed.0 start
  HoldsQueued-next actor (event.Step k) = after_step actor k
  HoldsQueued-next actor (event.Read k offset len) = after_read actor k offset len
  HoldsQueued-next actor (event.Release k) = after_release actor k
  HoldsQueued-next actor (event.Close k) = after_close actor k
  HoldsQueued-next actor (event.Look signature) = after_look signature.0
  HoldsQueued-next actor event.Expire = after_expire
  HoldsQueued-next actor (event.Tally k) = after_tally actor k
  HoldsQueued-next actor event.Stat = after_stat
  HoldsQueued-next actor (event.Reserve info) = after_reserve actor info
  HoldsQueued-next actor (event.Fill r bytes) = after_fill actor r bytes
  HoldsQueued-next actor (event.Commit r now) = after_commit actor r now
  HoldsQueued-next actor (event.Discard r) = after_discard actor r

pub HoldsQueued-after : (entries : List Entry) (s : State) → HoldsQueued s → HoldsQueued (after_entries s entries)
HoldsQueued-after [] s kept = kept
HoldsQueued-after (entry ∷ entries) s kept = HoldsQueued-after entries (next_entry s entry).state (HoldsQueued-next s kept entry.actor entry.event)

-- at the beginning no cursor is open
pub HoldsQueued-empty : (arena slots : ℕ) → HoldsQueued (empty arena slots)
HoldsQueued-empty arena slots n h = absurd (false≢true h)
