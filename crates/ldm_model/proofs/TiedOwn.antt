-- A call of the owner on its cursor leaves the reader tied to its place in the state.
use Rattle.std.proofs.Common.{◌≡◌, ◌∙◌, ℕ, ◌+◌, Bool, true, false, cond, List, [], ◌∷◌, ◌++◌, length, find, Option, Some, None, refl, sym, ap, subst, arith}
use Rattle.std.specs.Prelude.{◌&&◌, ◌==◌, nat_lt, slice_get}
use Rattle.std.proofs.lemmas.Bool.{false≢true, true≢false, cond_both, and_parts, eqb-true, eq-eqb}
use Rattle.ldm_model.specs.declared.event.Event.{Event}
use Rattle.ldm_model.specs.declared.event.Event.TheVariants as event
use Rattle.ldm_model.specs.declared.event.Reply.TheVariants as reply
use Rattle.ldm_model.specs.State.{Row, Cursor, Queued, queued}
use Rattle.ldm_model.specs.Outcome.{Outcome, unchanged}
use Rattle.ldm_model.specs.Cursor.{if_owned, cursor_of, with_place, awaits, on_cursor, on_held}
use Rattle.ldm_model.specs.Step.{step, step_held, step_free, step_to, after_tell, after_give}
use Rattle.ldm_model.specs.Read.{read, read_row, part_of}
use Rattle.ldm_model.specs.Release.{release, after_release}
use Rattle.ldm_model.specs.Tally.{tally}
use Rattle.ldm_model.specs.Next.{next}
use Rattle.ldm_model.specs.Law.{Point, place_of_event, is_close, state_at, with_given, given, after_gap, lost, told, with_count, count_told, after_hold, hold_of}
use Rattle.ldm_types.specs.Cursors.{is_number}
use Rattle.ldm_model.proofs.Coming.{comes, number_of, find-comes, find-range_before, find-range_none}
use Rattle.ldm_model.proofs.Reading.{hold_now}
use Rattle.ldm_model.proofs.ReadingMoves.{Reads-given, Reads-end, Reads-told, Reads-released}
use Rattle.ldm_model.proofs.Losses.{among-lost, lost-among, Rises-lost}
use Rattle.ldm_model.proofs.Tied.{begun_at, Tied, Tied-own}

-- the reader is tied to its place at a point
abbrev pub TiedAt : Point → Type 0
TiedAt p = Tied p (state_at p) (given p) (told p) (hold_of p) (count_told p)

-- and after an outcome, with what the reply changes where it is the owner's
abbrev pub TiedAfter : Point → Bool → Outcome → Type 0
TiedAfter p own outcome = Tied p outcome.state
    (cond own (with_given (given p) outcome.reply) (given p))
    (cond own (after_gap p (told p) outcome.reply) (told p))
    (cond own (after_hold p (hold_of p) outcome.reply) (hold_of p))
    (cond own (with_count (count_told p) outcome.reply) (count_told p))

-- the owner's cursor
pub cursor-own : (p : Point) (t : TiedAt p) → cursor_of (state_at p) p.owner p.k ≡ Some t.cursor
cursor-own p t = ap (if_owned p.owner) t.is_at ∙ ap (λ (b : Bool). cond b (Some t.cursor) None) (eq-eqb t.cursor.actor p.owner t.owner)

-- of an actor and a place that are the reader's
pub cursor-same : (p : Point) (t : TiedAt p) (actor k : ℕ) → (actor == p.owner && k == p.k) ≡ true → cursor_of (state_at p) actor k ≡ Some t.cursor
cursor-same p t actor k own =
    let parts = and_parts (actor == p.owner) (k == p.k) own in
    (λ i. cursor_of (state_at p) (eqb-true actor p.owner parts.0 i) (eqb-true k p.k parts.1 i)) ∙ cursor-own p t

module _ (p : Point) (t : TiedAt p) where
  abbrev Leaves : Outcome → Type 0
  Leaves outcome = TiedAfter p true outcome

  after_step_to : (q : Option Queued) → find (awaits t.cursor) (queued (state_at p)) ≡ q → Leaves (step_to (state_at p) p.k t.cursor q)
  after_step_to None found =
      Tied-own p (state_at p) (given p) (told p) (given p) (told p) (hold_of p) (hold_of p) (count_told p) (count_told p) t (record t.cursor { position = length (state_at p).rows }) refl
      (Reads-end p.feed (begun_at p) (state_at p).rows t.cursor (given p) (told p) (hold_of p) (count_told p) t.reads
      (λ m lt. find-range_none (comes t.cursor (state_at p).rows) 0 (length (state_at p).rows) (sym (find-comes t.cursor (state_at p)) ∙ ap number_of found) m (omega arith) (omega arith)))
  after_step_to (Some q) found =
      let first = find-range_before (comes t.cursor (state_at p).rows) 0 (length (state_at p).rows) q.number (sym (find-comes t.cursor (state_at p)) ∙ ap number_of found) in
      Tied-own p (state_at p) (given p) (told p) (given p ++ q.number ∷ []) (told p) (hold_of p) (Some (hold_now (state_at p).rows q.number)) (count_told p) (count_told p) t
      (after_give q.number t.cursor) refl
      (Reads-given p.feed (begun_at p) (state_at p).rows t.cursor (given p) (told p) (hold_of p) (count_told p) t.reads q.number first.0 (λ m lt. first.1 m (omega arith) lt))

  after_step_free : (untold : List ℕ) → t.cursor.untold ≡ untold → Leaves (step_free (state_at p) p.k t.cursor untold)
  after_step_free [] e = after_step_to (find (awaits t.cursor) (queued (state_at p))) refl
  after_step_free (n ∷ ns) e =
      subst (λ (count : ℕ). Tied p (step_free (state_at p) p.k t.cursor (n ∷ ns)).state (given p) (lost p) (hold_of p) (count_told p + count)) (ap (λ (ms : List ℕ). length ms) e)
      (Tied-own p (state_at p) (given p) (told p) (given p) (lost p) (hold_of p) (hold_of p) (count_told p) (count_told p + length t.cursor.untold) t (after_tell t.cursor) refl
      (Reads-told p.feed (begun_at p) (state_at p).rows t.cursor (given p) (told p) (hold_of p) (count_told p) t.reads (lost p) (Rises-lost p) (among-lost p) (lost-among p)))

  after_step_held : (held : Option ℕ) → Leaves (step_held (state_at p) p.k t.cursor held)
  after_step_held (Some n) = t
  after_step_held None = after_step_free t.cursor.untold refl

  after_read_row : (offset len : ℕ) (row : Option Row) → Leaves (read_row (state_at p) row offset len)
  after_read_row offset len None = t
  after_read_row offset len (Some row) = cond_both (nat_lt row.product.info.size offset) (unchanged (state_at p) (reply.BadOffset row.product.info.size))
      (unchanged (state_at p) (reply.Bytes (part_of row.product offset len))) Leaves (λ e. t) (λ e. t)

  after_read_held : (offset len : ℕ) (held : Option ℕ) → Leaves (on_held (state_at p) held (λ n. read_row (state_at p) (slice_get (state_at p).rows n) offset len))
  after_read_held offset len None = t
  after_read_held offset len (Some n) = after_read_row offset len (slice_get (state_at p).rows n)

  after_release_held : (held : Option ℕ) → Leaves (on_held (state_at p) held (λ n. record { reply = reply.Released n; state = with_place (state_at p) p.k (Some (after_release t.cursor)) }))
  after_release_held None = t
  after_release_held (Some n) = Tied-own p (state_at p) (given p) (told p) (given p) (told p) (hold_of p) None (count_told p) (count_told p) t (after_release t.cursor) refl
      (Reads-released p.feed (begun_at p) (state_at p).rows t.cursor (given p) (told p) (hold_of p) (count_told p) t.reads)

  module _ (actor k : ℕ) (own : (actor == p.owner && k == p.k) ≡ true) where
    on_own : (act : Cursor → Outcome) → Leaves (act t.cursor) → Leaves (on_cursor (state_at p) (cursor_of (state_at p) actor k) act)
    on_own act h = subst (λ (place : Option Cursor). Leaves (on_cursor (state_at p) place act)) (sym (cursor-same p t actor k own)) h

    same_place : p.k ≡ k
    same_place = sym (eqb-true k p.k (and_parts (actor == p.owner) (k == p.k) own).1)

    after_step : Leaves (step (state_at p) actor k)
    unfolding step
    after_step = on_own _ (subst (λ (i : ℕ). Leaves (step_held (state_at p) i t.cursor t.cursor.held)) same_place (after_step_held t.cursor.held))

    after_read : (offset len : ℕ) → Leaves (read (state_at p) actor k offset len)
    unfolding read
    after_read offset len = on_own _ (after_read_held offset len t.cursor.held)

    after_release_own : Leaves (release (state_at p) actor k)
    unfolding release
    after_release_own = on_own _ (subst (λ (i : ℕ). Leaves
        (on_held (state_at p) t.cursor.held (λ n. record { reply = reply.Released n; state = with_place (state_at p) i (Some (after_release t.cursor)) }))) same_place
        (after_release_held t.cursor.held))

    after_tally : Leaves (tally (state_at p) actor k)
    unfolding tally
    after_tally = on_own _ t

  not_about : (b : Bool) → (b && false) ≡ true → ⊥
  not_about true h = false≢true h
  not_about false h = false≢true h

  pub TiedAfter-own : (actor : ℕ) (e : Event) → (actor == p.owner && is_number p.k (place_of_event e)) ≡ true → is_close e ≡ false → Leaves (next (state_at p) actor e)
  TiedAfter-own actor (event.Step k) own open_still = after_step actor k own
  TiedAfter-own actor (event.Read k offset len) own open_still = after_read actor k own offset len
  TiedAfter-own actor (event.Release k) own open_still = after_release_own actor k own
  TiedAfter-own actor (event.Close k) own open_still = absurd (true≢false open_still)
  TiedAfter-own actor (event.Tally k) own open_still = after_tally actor k own
  TiedAfter-own actor (event.Insert now info body) own open_still = absurd (not_about (actor == p.owner) own)
  TiedAfter-own actor (event.OpenCursor feed start) own open_still = absurd (not_about (actor == p.owner) own)
  TiedAfter-own actor (event.Look signature) own open_still = absurd (not_about (actor == p.owner) own)
  TiedAfter-own actor event.Expire own open_still = absurd (not_about (actor == p.owner) own)
  TiedAfter-own actor event.Stat own open_still = absurd (not_about (actor == p.owner) own)
  TiedAfter-own actor (event.Reserve info) own open_still = absurd (not_about (actor == p.owner) own)
  TiedAfter-own actor (event.Fill r bytes) own open_still = absurd (not_about (actor == p.owner) own)
  TiedAfter-own actor (event.Commit r now) own open_still = absurd (not_about (actor == p.owner) own)
  TiedAfter-own actor (event.Discard r) own open_still = absurd (not_about (actor == p.owner) own)
