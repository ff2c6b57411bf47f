-- The reader's place in the state stays tied to it through what others do.
use Rattle.std.proofs.Common.{◌≡◌, ◌∙◌, ◌≢◌, ℕ, zero, suc, ◌<◌, Bool, true, false, cond, List, [], ◌∷◌, ◌++◌, length, map, Option, Some, None, refl, ap, arith, get_or-set_same, get_or-set_other}
use Rattle.std.specs.Prelude.{◌&&◌, ◌||◌, nat_le, is_some, slice_get, slice_index_or}
use Rattle.std.proofs.lemmas.Bool.{both_ways, eq-eqb}
use Rattle.ldm_types.specs.Feed.{feeds_meet}
use Rattle.ldm_model.specs.State.{State, Row, Cursor, Reservation, end_of, is_queued}
use Rattle.ldm_model.specs.Evict.{is_held, numbers, with_loss, evict, evict_row, evict_all}
use Rattle.ldm_types.specs.Cursors.{is_number}
use Rattle.ldm_model.specs.Cursor.{cursor_at, with_place}
use Rattle.ldm_model.specs.Reservation.{with_reservation}
use Rattle.ldm_model.specs.Open.{open_position}
use Rattle.ldm_model.specs.Law.{Point, Hold, held_number, state_before, is_among, is_not_below}
use Rattle.ldm_model.proofs.Held.{list_any-at}
use Rattle.ldm_model.proofs.Evictable.{AreEvictable}
use Rattle.ldm_model.proofs.Reading.{Reads, Reads-noted, Reads-not_noted}
use Rattle.ldm_model.proofs.ReadingMoves.{Reads-admitted}

-- whether a number is one from which on, or at which, rows are for the reader
abbrev pub begun_at : Point → ℕ → Bool
begun_at p n = nat_le (end_of (state_before p)) n || (is_among (numbers (state_before p)) n && is_not_below n (open_position (state_before p) p.start))

-- the reader's cursor is open, its owner's, and tied to what the reader was given, told and holds
pub record Tied (p : Point) (s : State) (given told : List ℕ) (hold : Option Hold) (counted : ℕ) : Type 0 where
  pub cursor : Cursor
  pub is_at : cursor_at s p.k ≡ Some cursor
  pub owner : cursor.actor ≡ p.owner
  pub reads : Reads p.feed (begun_at p) s.rows cursor given told hold counted

place-map : (m feed k : ℕ) (cursors : List (Option Cursor)) → slice_index_or (map (with_loss m feed) cursors) k None ≡ with_loss m feed (slice_index_or cursors k None)
place-map m feed k [] = refl
place-map m feed zero (place ∷ cursors) = refl
place-map m feed (suc k) (place ∷ cursors) = place-map m feed k cursors

place-within : (k : ℕ) (cursor : Cursor) (cursors : List (Option Cursor)) → slice_index_or cursors k None ≡ Some cursor → k < length cursors
place-within k cursor [] e = absurd cc
place-within zero cursor (place ∷ cursors) e = omega arith
place-within (suc k) cursor (place ∷ cursors) e = omega (arith, place-within k cursor cursors e)

module _ (p : Point) (given told : List ℕ) (hold : Option Hold) (counted : ℕ) where
  IsTied : State → Type 0
  IsTied s = Tied p s given told hold counted

  pub Tied-held : (s : State) (t : Tied p s given told hold counted) (n : ℕ) → held_number hold ≡ Some n → is_held s n ≡ true
  Tied-held s t n e =
      let mine : t.cursor.held ≡ Some n = t.reads.same_held ∙ e in
      list_any-at n p.k t.cursor s.cursors t.is_at (ap (is_number n) mine ∙ eq-eqb n n refl)

  pub Tied-evict : (s : State) (m : ℕ) → is_held s m ≡ false → is_queued s m ≡ true → Tied p s given told hold counted → Tied p (evict s m) given told hold counted
  Tied-evict s m free here t = by_row (slice_get s.rows m) refl
    where
      unheld : (n : ℕ) → held_number hold ≡ Some n → m ≡ n → ⊥
      unheld n e same = both_ways (is_held s m) free (ap (is_held s) same ∙ Tied-held s t n e)

      by_test : (row : Row) → slice_get s.rows m ≡ Some row → (b : Bool) → (nat_le t.cursor.position m && feeds_meet t.cursor.feed row.product.info.feed) ≡ b
          → Tied p (evict_row s m (Some row)) given told hold counted
      by_test row at true e = record {
        cursor = record t.cursor { untold = t.cursor.untold ++ m ∷ [] };
        is_at = place-map m row.product.info.feed p.k s.cursors ∙ ap (with_loss m row.product.info.feed) t.is_at
            ∙ ap (λ (b : Bool). cond b (Some (record t.cursor { untold = t.cursor.untold ++ m ∷ [] })) (Some t.cursor)) e;
        owner = t.owner;
        reads = Reads-noted p.feed (begun_at p) s.rows t.cursor given told hold counted t.reads m row at here unheld e;
      }
      by_test row at false e = record {
        cursor = t.cursor;
        is_at = place-map m row.product.info.feed p.k s.cursors ∙ ap (with_loss m row.product.info.feed) t.is_at
            ∙ ap (λ (b : Bool). cond b (Some (record t.cursor { untold = t.cursor.untold ++ m ∷ [] })) (Some t.cursor)) e;
        owner = t.owner;
        reads = Reads-not_noted p.feed (begun_at p) s.rows t.cursor given told hold counted t.reads m row at here unheld e;
      }

      by_row : (row : Option Row) → slice_get s.rows m ≡ row → Tied p (evict_row s m row) given told hold counted
      by_row None at = t
      by_row (Some row) at = by_test row at (nat_le t.cursor.position m && feeds_meet t.cursor.feed row.product.info.feed) refl

  pub Tied-evict_all : (ms : List ℕ) (s : State) → AreEvictable s ms → Tied p s given told hold counted → Tied p (evict_all s ms) given told hold counted
  Tied-evict_all [] s free t = t
  Tied-evict_all (m ∷ ms) s free t = Tied-evict_all ms (evict s m) free.2 (Tied-evict s m free.0 free.1 t)

  pub Tied-admit : (s : State) (row : Row) → is_some row.place ≡ true → Tied p s given told hold counted → Tied p (record s { rows = s.rows ++ row ∷ [] }) given told hold counted
  Tied-admit s row placed t = record {
    cursor = t.cursor;
    is_at = t.is_at;
    owner = t.owner;
    reads = Reads-admitted p.feed (begun_at p) s.rows t.cursor given told hold counted t.reads row placed;
  }

  -- a reservation changes
  pub Tied-reservation : (s : State) (r : ℕ) (place : Option Reservation) → Tied p s given told hold counted → Tied p (with_reservation s r place) given told hold counted
  Tied-reservation s r place t = record { cursor = t.cursor; is_at = t.is_at; owner = t.owner; reads = t.reads }

  -- another place changes
  pub Tied-other : (s : State) (k : ℕ) (place : Option Cursor) → p.k ≢ k → Tied p s given told hold counted → Tied p (with_place s k place) given told hold counted
  Tied-other s k place other t = record {
    cursor = t.cursor;
    is_at = get_or-set_other s.cursors k p.k place None other ∙ t.is_at;
    owner = t.owner;
    reads = t.reads;
  }

-- its own place changes
pub Tied-own : (p : Point) (s : State) (given told given' told' : List ℕ) (hold hold' : Option Hold) (counted counted' : ℕ) (t : Tied p s given told hold counted) (cursor : Cursor)
    → cursor.actor ≡ t.cursor.actor → Reads p.feed (begun_at p) s.rows cursor given' told' hold' counted' → Tied p (with_place s p.k (Some cursor)) given' told' hold' counted'
Tied-own p s given told given' told' hold hold' counted counted' t cursor actor reads = record {
  cursor = cursor;
  is_at = get_or-set_same s.cursors p.k (Some cursor) None (place-within p.k t.cursor s.cursors t.is_at);
  owner = actor ∙ t.owner;
  reads = reads;
}
