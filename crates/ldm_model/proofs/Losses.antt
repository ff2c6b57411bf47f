-- The rows for a reader and its losses, as ascending lists, against what is true of each member.
use Rattle.std.proofs.Common.{◌≡◌, ℕ, ◌<◌, Bool, true, not, length, arith}
use Rattle.std.specs.Prelude.{◌&&◌}
use Rattle.std.specs.List.{range_with_len}
use Rattle.std.proofs.lemmas.Bool.{and_parts, and_from, not-true, not_from_false}
use Rattle.ldm_model.specs.Law.{Point, is_among, state_at, due, given, lost}
use Rattle.ldm_model.proofs.Held.{present}
use Rattle.ldm_model.proofs.Ascending.{IsAmong, among-filter, filter-among, among-range, Rises, Rises-among, Rises-range, Rises-filter}
use Rattle.ldm_model.proofs.Reading.{due_in, IsLost}
use Rattle.ldm_model.proofs.Tied.{begun_at}

-- a row that was admitted and is for the reader
abbrev pub IsDue : Point → ℕ → Type 0
IsDue p n = (n < length (state_at p).rows) × (due_in p.feed (begun_at p) (state_at p).rows n ≡ true)

abbrev pub IsLostAt : Point → ℕ → Type 0
IsLostAt p n = IsLost p.feed (begun_at p) (state_at p).rows (given p) n

module _ (p : Point) where
  pub among-due : (n : ℕ) → IsAmong (due p) n → IsDue p n
  among-due n h =
      let parts = among-filter (due_in p.feed (begun_at p) (state_at p).rows) (range_with_len 0 (length (state_at p).rows)) n h in
      let bounds = Rises-among 0 (length (state_at p).rows) n (range_with_len 0 (length (state_at p).rows))
      (Rises-range 0 (length (state_at p).rows) (length (state_at p).rows) (omega arith)) parts.0 in
      (bounds.1, parts.1)

  pub due-among : (n : ℕ) → IsDue p n → IsAmong (due p) n
  due-among n h = filter-among (due_in p.feed (begun_at p) (state_at p).rows) (range_with_len 0 (length (state_at p).rows)) n
      (among-range 0 (length (state_at p).rows) n (omega arith) (omega (arith, h.0))) h.1

  pub Rises-due : Rises 0 (due p) (length (state_at p).rows)
  Rises-due = Rises-filter (due_in p.feed (begun_at p) (state_at p).rows) 0 (length (state_at p).rows) (range_with_len 0 (length (state_at p).rows))
      (Rises-range 0 (length (state_at p).rows) (length (state_at p).rows) (omega arith))

  abbrev is_lost : ℕ → Bool
  is_lost n = not (present (state_at p).rows n) && not (is_among (given p) n)

  pub among-lost : (n : ℕ) → IsAmong (lost p) n → IsLostAt p n
  among-lost n h =
      let parts = among-filter is_lost (due p) n h in
      let is_due = among-due n parts.0 in
      let tests = and_parts (not (present (state_at p).rows n)) (not (is_among (given p) n)) parts.1 in
      record {
        within = is_due.0;
        due = is_due.1;
        gone = not-true (present (state_at p).rows n) tests.0;
        not_given = not-true (is_among (given p) n) tests.1;
      }

  pub lost-among : (n : ℕ) → IsLostAt p n → IsAmong (lost p) n
  lost-among n h = filter-among is_lost (due p) n (due-among n (h.within, h.due))
      (and_from (not (present (state_at p).rows n)) (not (is_among (given p) n)) (not_from_false (present (state_at p).rows n) h.gone) (not_from_false (is_among (given p) n) h.not_given))

  pub Rises-lost : Rises 0 (lost p) (length (state_at p).rows)
  Rises-lost = Rises-filter is_lost 0 (length (state_at p).rows) (due p) Rises-due
