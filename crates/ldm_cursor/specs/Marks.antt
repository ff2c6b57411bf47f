-- Marks of the 64 places, one bit each.
use Rattle.std.specs.Prelude.{◌≡◌, ◌≢◌, ℕ, ◌<◌}
use Rattle.std.specs.Int.{bit_at}

-- a place is the least that is not marked
pub record IsFirstUnmarked (marks k : ℕ) : Type 0 where
  pub unmarked : bit_at marks k ≡ 0
  pub before : (i : ℕ) → i < k → bit_at marks i ≡ 1

-- a place has a mark no more, and the others are as they were
pub record LosesMark (old new k : ℕ) : Type 0 where
  pub unmarked : bit_at new k ≡ 0
  pub others : (i : ℕ) → i < 64 → i ≢ k → bit_at new i ≡ bit_at old i
