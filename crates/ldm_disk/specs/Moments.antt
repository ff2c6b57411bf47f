-- Crashes at the moments of a call, and of many.
use Rattle.std.specs.Prelude.{◌≡◌, ◌⊎◌, ℕ, ◌≤◌, Bool, true, List, [], ◌∷◌}
use Rattle.std.specs.List.{AllByRecursion}
use Rattle.ldm_disk.specs.Told.{FileRecord}
use Rattle.ldm_disk.specs.Model.{Step, IsStep}

-- each file that a crash may leave after a call is one that it might leave before, after that step
abbrev pub Follows : Step → FileRecord → FileRecord → Type 0
Follows step old new =
    (after : List ℕ) → new.may_leave after ≡ true → (before : List ℕ) × (old.may_leave before ≡ true) × IsStep step before after

-- Time goes on: a crash since a moment may have left what it may have left before, or what it may leave now.
pub record Elapses (old new : FileRecord) : Type 0 where
  pub later : old.moment ≤ new.moment
  pub nothing_else : (since : ℕ) (left : List ℕ) → since ≤ old.moment → new.left_since since left ≡ true →
      (old.left_since since left ≡ true) ⊎ (new.may_leave left ≡ true)
  pub keeps : (since : ℕ) (left : List ℕ) → since ≤ old.moment → old.left_since since left ≡ true → new.left_since since left ≡ true

-- a call made a step
pub record Goes (step : Step) (old new : FileRecord) : Type 0 where
  pub crash : Follows step old new
  pub time : Elapses old new

-- calls made these steps, one after another
abbrev pub Run : List Step → FileRecord → FileRecord → Type 0
Run [] old new = new ≡ old
Run (step ∷ steps) old new = (mid : FileRecord) × Goes step old mid × Run steps mid new

-- A crash at any moment since the old one leaves a file that has P.
pub record LeavesOnly (P : List ℕ → Type 0) (old new : FileRecord) : Type 0 where
  pub later : old.moment ≤ new.moment
  pub each : (left : List ℕ) → new.left_since old.moment left ≡ true → P left
  -- since an earlier moment: what a crash up to the old one may have left, or what has P
  pub before : (since : ℕ) (left : List ℕ) → since ≤ old.moment → new.left_since since left ≡ true →
      (old.left_since since left ≡ true) ⊎ P left
  pub keeps : (since : ℕ) (left : List ℕ) → since ≤ old.moment → old.left_since since left ≡ true → new.left_since since left ≡ true

-- whatever passes the test before the step passes it after
abbrev pub Keeps : (List ℕ → Bool) → Step → Type 0
Keeps test step = (before after : List ℕ) → test before ≡ true → IsStep step before after → test after ≡ true

-- so it is for each of these steps
abbrev pub AllKeep : (List ℕ → Bool) → List Step → Type 0
AllKeep test steps = AllByRecursion (Keeps test) steps

-- what passes a test
abbrev pub Passes : (List ℕ → Bool) → List ℕ → Type 0
Passes test left = test left ≡ true
