-- What is not a call of the owner on its cursor leaves the reader tied to its place in the state.
use Rattle.std.proofs.Common.{◌≡◌, ◌∙◌, ◌≢◌, ℕ, ◌+◌, true, false, List, [], ◌∷◌, length, take, find, Option, Some, None, refl, sym, ap, subst}
use Rattle.std.specs.Prelude.{◌&&◌, ◌==◌, nat_lt, is_some, is_none, slice_get, slice_index_or}
use Rattle.std.specs.List.{position, position_or_len}
use Rattle.std.proofs.lemmas.Bool.{false≢true, both_ways, cond_both, and_from, and_parts, eq-eqb, eqb-true, ltb-true}
use Rattle.std.proofs.lemmas.Option.{cond_some, same_Some}
use Rattle.std.proofs.lemmas.List.Sums.{passes_at_first}
use Rattle.ldm_model.specs.declared.event.Event.{Event}
use Rattle.ldm_model.specs.declared.event.Event.TheVariants as event
use Rattle.ldm_model.specs.declared.event.Start.{Start}
use Rattle.ldm_model.specs.declared.event.Reply.TheVariants as reply
use Rattle.ldm_types.specs.Info.{Metadata}
use Rattle.ldm_model.specs.Product.{Product, extent_of}
use Rattle.ldm_model.specs.State.{State, Row, Cursor, Queued, last_time, queued, queued_with}
use Rattle.ldm_model.specs.Outcome.{Outcome, unchanged}
use Rattle.ldm_model.specs.Room.{fit_in, has_room}
use Rattle.ldm_model.specs.Evict.{unheld}
use Rattle.ldm_model.specs.Insert.{insert, insert_fitting, insert_by_evictions, is_last, evictions, after_evicting}
use Rattle.ldm_model.specs.Cursor.{if_owned, cursor_at, cursor_of, least_empty, awaits, on_cursor, on_held}
use Rattle.ldm_model.specs.Reservation.{with_reservation}
use Rattle.ldm_model.specs.Open.{open_cursor, open_at, open_from, open_position}
use Rattle.ldm_model.specs.Step.{step, step_held, step_free, step_to}
use Rattle.ldm_model.specs.Read.{read, read_row, part_of}
use Rattle.ldm_model.specs.Release.{release, close}
use Rattle.ldm_model.specs.Look.{look}
use Rattle.ldm_model.specs.Expire.{expire, expire_first}
use Rattle.ldm_model.specs.Tally.{tally}
use Rattle.ldm_model.specs.Stat.{stat}
use Rattle.ldm_model.specs.Reserve.{reserve}
use Rattle.ldm_model.specs.Fill.{fill, discard}
use Rattle.ldm_model.specs.Commit.{commit}
use Rattle.ldm_model.specs.Next.{next}
use Rattle.ldm_model.specs.Law.{Point, Hold, place_of_event}
use Rattle.ldm_types.specs.Cursors.{is_number}
use Rattle.ldm_model.proofs.Held.{cursor-owned}
use Rattle.ldm_model.proofs.Coming.{find-range_before}
use Rattle.ldm_model.proofs.Evictable.{AreEvictable-unheld, evictable-first}
use Rattle.ldm_model.proofs.Tied.{Tied, Tied-evict, Tied-evict_all, Tied-admit, Tied-other, Tied-reservation}
use Rattle.ldm_model.proofs.ReservationCases.{by_reserve, by_fill, by_discard, by_commit}

-- the place that is found for a product that is admitted
pub fit-found : (s : State) (need j : ℕ) → evictions s need ≡ Some j → is_some (fit_in (after_evicting s j) need) ≡ true
fit-found s need j e = (and_parts _ _ (find-range_before (λ i. has_room (after_evicting s i) need) 0 (length (unheld s) + 1) j e).0).1

empty-at : (cursors : List (Option Cursor)) (k : ℕ) → position is_none cursors ≡ Some k → is_none (slice_index_or cursors k None) ≡ true
empty-at cursors k e =
    let found = cond_some (nat_lt (position_or_len is_none cursors) (length cursors)) (position_or_len is_none cursors) k e in
    subst (λ (i : ℕ). is_none (slice_index_or cursors i None) ≡ true) found.1 (passes_at_first is_none cursors None (ltb-true (position_or_len is_none cursors) (length cursors) found.0))

owner-is : (actor : ℕ) (place : Option Cursor) (cursor : Cursor) → if_owned actor place ≡ Some cursor → (cursor.actor == actor) ≡ true
owner-is actor None cursor e = absurd cc
owner-is actor (Some other) cursor e =
    let parts = cond_some (other.actor == actor) other cursor e in
    ap (λ (c : Cursor). c.actor == actor) (sym parts.1) ∙ parts.0

module _ (p : Point) (s : State) (given told : List ℕ) (hold : Option Hold) (counted : ℕ) (t : Tied p s given told hold counted) where
  abbrev Leaves : Outcome → Type 0
  Leaves outcome = Tied p outcome.state given told hold counted

  after_evictions : (now : ℕ) (product : Product) (j : Option ℕ) → evictions s (extent_of product.info) ≡ j → Leaves (insert_by_evictions s now product j)
  after_evictions now product None e = t
  after_evictions now product (Some j) e = Tied-admit p given told hold counted (after_evicting s j) _ (fit-found s (extent_of product.info) j e)
      (Tied-evict_all p given told hold counted (take j (unheld s)) s (AreEvictable-unheld s j) t)

  after_fitting : (now : ℕ) (product : Product) (q : Option Queued) → Leaves (insert_fitting s now product q)
  after_fitting now product (Some q) = t
  after_fitting now product None = cond_both (is_last (last_time s)) (unchanged s reply.TimeEnd) (insert_by_evictions s now product (evictions s (extent_of product.info))) Leaves (λ e. t)
      (λ e. after_evictions now product (evictions s (extent_of product.info)) refl)

  after_insert : (now : ℕ) (product : Product) → Leaves (insert s now product)
  unfolding insert
  after_insert now product = cond_both (nat_lt s.arena (extent_of product.info)) (unchanged s (reply.TooBig (extent_of product.info) s.arena))
      (insert_fitting s now product (queued_with product.info.signature (queued s))) Leaves (λ e. t) (λ e. after_fitting now product (queued_with product.info.signature (queued s)))

  -- a place that is empty is another one
  not_empty : (k : ℕ) → least_empty s.cursors ≡ Some k → p.k ≢ k
  not_empty k e same = false≢true (sym (ap is_none t.is_at) ∙ ap (λ (i : ℕ). is_none (slice_index_or s.cursors i None)) same ∙ empty-at s.cursors k e)

  after_opening : (actor feed k : ℕ) (at : Option ℕ) → least_empty s.cursors ≡ Some k → Leaves (open_from s actor feed k at)
  after_opening actor feed k None e = t
  after_opening actor feed k (Some at) e = Tied-other p given told hold counted s k _ (not_empty k e) t

  after_place : (actor feed : ℕ) (start : Start) (k : Option ℕ) → least_empty s.cursors ≡ k → Leaves (open_at s actor feed start k)
  after_place actor feed start None e = t
  after_place actor feed start (Some k) e = after_opening actor feed k (open_position s start) e

  after_open : (actor feed : ℕ) (start : Start) → Leaves (open_cursor s actor feed start)
  unfolding open_cursor
  after_open actor feed start = after_place actor feed start (least_empty s.cursors) refl

  after_expire_first : (ns : List ℕ) → unheld s ≡ ns → Leaves (expire_first s ns)
  after_expire_first [] e = t
  after_expire_first (n ∷ ns) e = let first = evictable-first s n ns e in Tied-evict p given told hold counted s n first.0 first.1 t

  after_expire : Leaves (expire s)
  unfolding expire
  after_expire = after_expire_first (unheld s) refl

  after_look : (signature : List ℕ) → Leaves (look s signature)
  unfolding look
  after_look signature = t

  after_stat : Leaves (stat s)
  unfolding stat
  after_stat = t

  after_reserve : (actor : ℕ) (info : Metadata) → Leaves (reserve s actor info)
  after_reserve actor info = by_reserve s Leaves actor info (record {
    too_big = t;
    duplicate = λ n. t;
    all_reserved = t;
    locked = λ held. t;
    reserved = λ r j place e. Tied-reservation p given told hold counted (after_evicting s j) r _ (Tied-evict_all p given told hold counted (take j (unheld s)) s (AreEvictable-unheld s j) t);
  })

  after_fill : (actor r : ℕ) (bytes : List ℕ) → Leaves (fill s actor r bytes)
  after_fill actor r bytes = by_fill s Leaves actor r bytes (record {
    no_reservation = λ e. t;
    overfill = λ reservation e. t;
    filled = λ reservation e fits. Tied-reservation p given told hold counted s r _ t;
  })

  after_discard : (actor r : ℕ) → Leaves (discard s actor r)
  after_discard actor r = by_discard s Leaves actor r (λ e. t) (λ reservation e. Tied-reservation p given told hold counted s r None t)

  after_commit : (actor r now : ℕ) → Leaves (commit s actor r now)
  after_commit actor r now =
      let ended = Tied-reservation p given told hold counted s r None t in
      by_commit s Leaves actor r now (record {
        no_reservation = λ e. t;
        unfilled = λ reservation e. t;
        duplicate = λ reservation e n. ended;
        time_end = λ reservation e. ended;
        committed = λ reservation e whole. Tied-admit p given told hold counted (with_reservation s r None) _ refl ended;
      })

  module _ (actor k : ℕ) (other : (actor == p.owner && k == p.k) ≡ false) where
    -- a cursor that another actor has, or at another place, is another one
    other_place : (cursor : Cursor) → cursor_of s actor k ≡ Some cursor → p.k ≢ k
    other_place cursor own same =
        let mine : t.cursor ≡ cursor = same_Some t.cursor cursor (sym t.is_at ∙ ap (λ (i : ℕ). slice_index_or s.cursors i None) same ∙ cursor-owned actor (cursor_at s k) cursor own) in
        let actor_is : (cursor.actor == actor) ≡ true = owner-is actor (cursor_at s k) cursor own in
        let owner_is : actor ≡ p.owner = sym (eqb-true cursor.actor actor actor_is) ∙ ap (λ (c : Cursor). c.actor) (sym mine) ∙ t.owner in
        both_ways (actor == p.owner && k == p.k) other (and_from (actor == p.owner) (k == p.k) (eq-eqb actor p.owner owner_is) (eq-eqb k p.k (sym same)))

    on_another : (act : Cursor → Outcome) → ((cursor : Cursor) → p.k ≢ k → Leaves (act cursor)) → Leaves (on_cursor s (cursor_of s actor k) act)
    on_another act each = by_place (cursor_of s actor k) refl
      where
        by_place : (place : Option Cursor) → cursor_of s actor k ≡ place → Leaves (on_cursor s place act)
        by_place None e = t
        by_place (Some cursor) e = each cursor (other_place cursor e)

    on_its_held : (held : Option ℕ) (act : ℕ → Outcome) → ((n : ℕ) → Leaves (act n)) → Leaves (on_held s held act)
    on_its_held None act each = t
    on_its_held (Some n) act each = each n

    after_step_to : (cursor : Cursor) (q : Option Queued) → p.k ≢ k → Leaves (step_to s k cursor q)
    after_step_to cursor None apart = Tied-other p given told hold counted s k _ apart t
    after_step_to cursor (Some q) apart = Tied-other p given told hold counted s k _ apart t

    after_step_free : (cursor : Cursor) (untold : List ℕ) → p.k ≢ k → Leaves (step_free s k cursor untold)
    after_step_free cursor [] apart = after_step_to cursor (find (awaits cursor) (queued s)) apart
    after_step_free cursor (n ∷ ns) apart = Tied-other p given told hold counted s k _ apart t

    after_step_held : (cursor : Cursor) (held : Option ℕ) → p.k ≢ k → Leaves (step_held s k cursor held)
    after_step_held cursor (Some n) apart = t
    after_step_held cursor None apart = after_step_free cursor cursor.untold apart

    after_step : Leaves (step s actor k)
    unfolding step
    after_step = on_another _ (λ cursor apart. after_step_held cursor cursor.held apart)

    after_read_row : (offset len : ℕ) (row : Option Row) → Leaves (read_row s row offset len)
    after_read_row offset len None = t
    after_read_row offset len (Some row) = cond_both (nat_lt row.product.info.size offset) (unchanged s (reply.BadOffset row.product.info.size))
        (unchanged s (reply.Bytes (part_of row.product offset len))) Leaves (λ e. t) (λ e. t)

    after_read : (offset len : ℕ) → Leaves (read s actor k offset len)
    unfolding read
    after_read offset len = on_another _ (λ cursor apart. on_its_held cursor.held _ (λ n. after_read_row offset len (slice_get s.rows n)))

    after_release : Leaves (release s actor k)
    unfolding release
    after_release = on_another _ (λ cursor apart. on_its_held cursor.held _ (λ n. Tied-other p given told hold counted s k _ apart t))

    after_close : Leaves (close s actor k)
    unfolding close
    after_close = on_another _ (λ cursor apart. Tied-other p given told hold counted s k _ apart t)

    after_tally : Leaves (tally s actor k)
    unfolding tally
    after_tally = on_another _ (λ cursor apart. t)

  pub Tied-others : (actor : ℕ) (e : Event) → (actor == p.owner && is_number p.k (place_of_event e)) ≡ false → Leaves (next s actor e)
  Tied-others actor (event.Insert now info body) other = after_insert now (record { info = info; body = body })
  Tied-others actor (event.OpenCursor feed start) other = after_open actor feed.0 start
  Tied-others actor (event.Step k) other = after_step actor k other
  Tied-others actor (event.Read k offset len) other = after_read actor k other offset len
  Tied-others actor (event.Release k) other = after_release actor k other
  Tied-others actor (event.Close k) other = after_close actor k other
  Tied-others actor (event.Look signature) other = after_look signature.0
  Tied-others actor event.Expire other = after_expire
  Tied-others actor (event.Tally k) other = after_tally actor k other
  Tied-others actor event.Stat other = after_stat
  Tied-others actor (event.Reserve info) other = after_reserve actor info
  Tied-others actor (event.Fill r bytes) other = after_fill actor r bytes
  Tied-others actor (event.Commit r now) other = after_commit actor r now
  Tied-others actor (event.Discard r) other = after_discard actor r
