-- What workers begin with, and what they leave.
use Rattle.std.specs.Prelude.{ℕ, ◌<◌, List, length, slice_index_or}
use Rattle.ldm_shared.specs.Passes.{PassView, IsSamePass, HasAllOf}

-- each worker may begin with its pass and with what it has of its own
abbrev pub AllBegin : {T : Type 0} → (PassView → T → Type 0) → List PassView → List T → Type 0
AllBegin begins passes own =
    (i : ℕ) (p : PassView) (d : _) → i < length own → begins (slice_index_or passes i p) (slice_index_or own i d)

-- A worker did its work with a pass, which is the same after it, and the last pass has all calls that were made with it.
pub record Worked {T : Type 0} (does : PassView → T → PassView → T → Type 0) (last old : PassView) (own new_own : T) : Type 0 where
  pub pass : PassView
  pub same : IsSamePass old pass
  pub works : does old own pass new_own
  pub has_all : HasAllOf last pass

-- each worker did its work, with its pass
abbrev pub AllWorked : {T : Type 0} → (PassView → T → PassView → T → Type 0) → PassView → List PassView → List T → List T → Type 0
AllWorked works last passes own new_own =
    (i : ℕ) (p : PassView) (d : _) → i < length own
    → Worked works last (slice_index_or passes i p) (slice_index_or own i d) (slice_index_or new_own i d)
