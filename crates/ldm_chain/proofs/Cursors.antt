-- Cursor places: products that are passed on leave them as they are, and a cursor finds none where all are taken.
use Rattle.std.proofs.Common.{◌≡◌, ℕ, ◌≤◌, Bool, true, false, List, [], ◌∷◌, ◌++◌, length, map, take, Option, Some, None, inl, inr, refl, ap, sym, ◌∙◌, arith}
use Rattle.std.specs.Prelude.{◌&&◌, if◌then◌else◌, is_none, is_some, nat_le, slice_get}
use Rattle.std.specs.List.{list_all, position_or_len}
use Rattle.std.proofs.lemmas.Bool.{cases_lt, cond_both, lt-ltb}
use Rattle.ldm_types.specs.Info.{Metadata}
use Rattle.ldm_model.specs.declared.event.Event.TheVariants as event
use Rattle.ldm_model.specs.declared.event.Reply.{Reply}
use Rattle.ldm_model.specs.declared.event.Reply.TheVariants as reply
use Rattle.ldm_model.specs.declared.event.Start.{Start}
use Rattle.ldm_model.specs.Product.{Product}
use Rattle.ldm_model.specs.State.{Cursor, Row, State}
use Rattle.ldm_model.specs.Cursor.{least_empty}
use Rattle.ldm_model.specs.Outcome.{Outcome}
use Rattle.ldm_model.specs.Evict.{evict, evict_all, evict_row, unheld, with_loss}
use Rattle.ldm_model.specs.Insert.{after_evicting, insert}
use Rattle.ldm_model.specs.Reserve.{reserve}
use Rattle.ldm_model.specs.Fill.{fill}
use Rattle.ldm_model.specs.Commit.{commit}
use Rattle.ldm_model.specs.Open.{open_at, open_cursor, open_position}
use Rattle.ldm_model.specs.Next.{next}
use Rattle.ldm_model.proofs.Cases.{by_insert}
use Rattle.ldm_model.proofs.ReservationCases.{by_commit, by_fill, by_reserve}
use Rattle.ldm_types.specs.Feed.{feeds_meet}
use Rattle.ldm_upstream.specs.Blocks.{blocks}
use Rattle.ldm_between_ends.specs.Queue.{announced, filled, passed, passed_all, reserved_so}
use Rattle.ldm_chain.specs.Causes.{AreAllTaken}

-- which cursor places are taken
abbrev pub taken_places : State → List Bool
taken_places s = map is_some s.cursors

-- ---- products that are passed on

loss-taken : (n feed : ℕ) (place : Option Cursor) → is_some (with_loss n feed place) ≡ is_some place
loss-taken n feed None = refl
loss-taken n feed (Some cursor) = by (nat_le cursor.position n && feeds_meet cursor.feed feed)
  where
    by : (b : Bool) → is_some (if b then Some (record cursor { untold = cursor.untold ++ n ∷ [] }) else Some cursor) ≡ true
    by true = refl
    by false = refl

losses-taken : (n feed : ℕ) (places : List (Option Cursor)) → map is_some (map (with_loss n feed) places) ≡ map is_some places
losses-taken n feed [] = refl
losses-taken n feed (place ∷ places) = λ i. loss-taken n feed place i ∷ losses-taken n feed places i

evict-taken : (s : State) (n : ℕ) → taken_places (evict s n) ≡ taken_places s
evict-taken s n = by_row (slice_get s.rows n)
  where
    by_row : (row : Option Row) → taken_places (evict_row s n row) ≡ taken_places s
    by_row None = refl
    by_row (Some row) = losses-taken n row.product.info.feed s.cursors

evict_all-taken : (ns : List ℕ) (s : State) → taken_places (evict_all s ns) ≡ taken_places s
evict_all-taken [] s = refl
evict_all-taken (n ∷ ns) s = evict_all-taken ns (evict s n) ∙ evict-taken s n

module _ (s : State) where
  abbrev Keeps : Outcome → Type 0
  Keeps o = taken_places o.state ≡ taken_places s

  after-taken : (j : ℕ) → taken_places (after_evicting s j) ≡ taken_places s
  after-taken j = evict_all-taken (take j (unheld s)) s

  pub insert-taken : (now : ℕ) (p : Product) → Keeps (insert s now p)
  insert-taken now p = by_insert s Keeps now p (λ r quiet. refl) (λ j e. after-taken j)

  reserve-taken : (actor : ℕ) (info : Metadata) → Keeps (reserve s actor info)
  reserve-taken actor info = by_reserve s Keeps actor info (record {
    too_big = refl;
    duplicate = λ n. refl;
    all_reserved = refl;
    locked = λ held. refl;
    reserved = λ r j place e. after-taken j;
  })

  fill-taken : (actor r : ℕ) (bytes : List ℕ) → Keeps (fill s actor r bytes)
  fill-taken actor r bytes = by_fill s Keeps actor r bytes (record { no_reservation = λ e. refl; overfill = λ reservation e. refl; filled = λ reservation e few. refl })

  commit-taken : (actor r now : ℕ) → Keeps (commit s actor r now)
  commit-taken actor r now = by_commit s Keeps actor r now (record {
    no_reservation = λ e. refl;
    unfilled = λ reservation e. refl;
    duplicate = λ reservation e n. refl;
    time_end = λ reservation e. refl;
    committed = λ reservation e whole. refl;
  })

filled-taken : (actor r : ℕ) (parts : List (List ℕ)) (s : State) → taken_places (filled actor r parts s) ≡ taken_places s
filled-taken actor r [] s = refl
filled-taken actor r (block ∷ behind) s = filled-taken actor r behind (next s actor (event.Fill r block)).state ∙ fill-taken s actor r block

reserved_so-taken : (actor now : ℕ) (product : Product) (answer : Reply) (s : State) → taken_places (reserved_so actor now product answer s) ≡ taken_places s
reserved_so-taken actor now product (reply.Reserved r evicted) s =
    commit-taken (filled actor r (blocks product.body) s) actor r now ∙ filled-taken actor r (blocks product.body) s
reserved_so-taken actor now product _ s = refl

passed-taken : (actor max_hereis now : ℕ) (product : Product) (s : State) → taken_places (passed actor max_hereis now product s) ≡ taken_places s
passed-taken actor max_hereis now product s =
    cond_both (nat_le product.info.size max_hereis) (next s actor (event.Insert now product.info product.body)).state (announced actor now product s)
    (λ (t : State). taken_places t ≡ taken_places s)
    (λ e. insert-taken s now (record { info = product.info; body = product.body }))
    (λ e. reserved_so-taken actor now product (next s actor (event.Reserve product.info)).reply (next s actor (event.Reserve product.info)).state ∙ reserve-taken s actor product.info)

passed_all-taken : (actor max_hereis now : ℕ) (products : List Product) (s : State) → taken_places (passed_all actor max_hereis now products s) ≡ taken_places s
passed_all-taken actor max_hereis now [] s = refl
passed_all-taken actor max_hereis now (product ∷ behind) s =
    passed_all-taken actor max_hereis now behind (passed actor max_hereis now product s) ∙ passed-taken actor max_hereis now product s

-- ---- where all are taken

all-taken : (places : List (Option Cursor)) → list_all is_some places ≡ list_all (λ b. b) (map is_some places)
all-taken [] = refl
all-taken (None ∷ places) = refl
all-taken (Some cursor ∷ places) = all-taken places

pub taken-same : (one other : State) → taken_places one ≡ taken_places other → AreAllTaken one → AreAllTaken other
taken-same one other same all = all-taken other.cursors ∙ ap (list_all (λ b. b)) (sym same) ∙ sym (all-taken one.cursors) ∙ all

-- who was passed products had them taken before
pub passed-from : (actor max_hereis now : ℕ) (products : List Product) (s : State) → AreAllTaken (passed_all actor max_hereis now products s) → AreAllTaken s
passed-from actor max_hereis now products s all =
    taken-same (passed_all actor max_hereis now products s) s (passed_all-taken actor max_hereis now products s) all

-- ---- a cursor is to be opened

all-before : (places : List (Option Cursor)) → length places ≤ position_or_len is_none places → list_all is_some places ≡ true
all-before [] most = refl
all-before (None ∷ places) most = absurd (omega (arith, most))
all-before (Some cursor ∷ places) most = all-before places (omega (arith, most))

none-empty : (places : List (Option Cursor)) → least_empty places ≡ None → list_all is_some places ≡ true
none-empty places none = elim (cases_lt (position_or_len is_none places) (length places)) [
  | inl less ↦ absurd (let never = rw (lt-ltb (position_or_len is_none places) (length places) less) at none in cc never)
  | inr most ↦ all-before places most
]

pub busy-taken : (s : State) (actor feed : ℕ) (start : Start) → reply.AllBusy ≡ (open_cursor s actor feed start).reply → AreAllTaken s
unfolding open_cursor
busy-taken s actor feed start is = by (least_empty s.cursors) refl is
  where
    opened : (k : ℕ) (at : Option ℕ) → open_position s start ≡ at → reply.AllBusy ≡ (open_at s actor feed start (Some k)).reply → ⊥
    opened k None at is = let never = rw at at is in cc never
    opened k (Some place) at is = let never = rw at at is in cc never

    by : (k : Option ℕ) → least_empty s.cursors ≡ k → reply.AllBusy ≡ (open_at s actor feed start k).reply → AreAllTaken s
    by None none is = none-empty s.cursors none
    by (Some k) some is = absurd (opened k (open_position s start) refl is)

-- a cursor that was to be opened behind a product that is not queued changes nothing
pub missed-same : (s : State) (actor feed : ℕ) (start : Start) → reply.NotQueued ≡ (open_cursor s actor feed start).reply → (open_cursor s actor feed start).state ≡ s
unfolding open_cursor
missed-same s actor feed start is = by (least_empty s.cursors) is
  where
    opened : (k : ℕ) (at : Option ℕ) → open_position s start ≡ at → reply.NotQueued ≡ (open_at s actor feed start (Some k)).reply → (open_at s actor feed start (Some k)).state ≡ s
    opened k None at is = rw at refl
    opened k (Some place) at is = absurd (let never = rw at at is in cc never)

    by : (k : Option ℕ) → reply.NotQueued ≡ (open_at s actor feed start k).reply → (open_at s actor feed start k).state ≡ s
    by None is = absurd (cc is)
    by (Some k) is = opened k (open_position s start) refl is
