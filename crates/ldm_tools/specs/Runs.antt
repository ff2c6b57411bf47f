-- Files that are taken over a link, one after another.
use Rattle.std.specs.Prelude.{◌≡◌, ◌⊎◌, ℕ, ◌+◌, Bool, false, ◌||◌, List, [], ◌∷◌, ◌++◌, length, Result, Ok, Err}
use Rattle.ldm_tools.specs.declared.fault.InsertFault.{InsertFault}
use Rattle.ldm_tools.specs.declared.fault.InsertFault.TheVariants as fault
use Rattle.ldm_tools.specs.Inserting.{Inserting}
use Rattle.ldm_tools.specs.Files.{Breaks, Step, Takes, is_refused_step}
use Rattle.ldm_tools.specs.Moments.{KeepsHands, InsertMoment}

-- The files under these paths were taken, one after another, the first under this number: each after all of the one before.
abbrev pub AreTaken : Inserting → ℕ → List (List ℕ) → List Step → InsertMoment → InsertMoment → Type 0
AreTaken all number [] [] old new = new ≡ old
AreTaken all number (path ∷ paths) (step ∷ steps) old new =
    (mid : InsertMoment) × Takes all (record { number = number; path = path }) step old mid × AreTaken all (number + 1) paths steps mid new
AreTaken all number [] (step ∷ steps) old new = ⊥
AreTaken all number (path ∷ paths) [] old new = ⊥

-- some file was refused
abbrev pub are_refused : List Step → Bool
are_refused [] = false
are_refused (step ∷ steps) = is_refused_step step || are_refused steps

-- All files were taken.
pub record TakesAll (refused : Bool) (all : Inserting) (old new : InsertMoment) : Type 0 where
  pub steps : List Step
  pub each : AreTaken all 0 all.files steps old new
  pub refused_is : refused ≡ are_refused steps

-- The files before one were taken, and the run ended at that one.
pub record StopsAt (why : InsertFault) (all : Inserting) (old new : InsertMoment) : Type 0 where
  pub before : List (List ℕ)
  pub path : List ℕ
  pub behind : List (List ℕ)
  pub files : all.files ≡ before ++ path ∷ behind
  pub steps : List Step
  pub mid : InsertMoment
  pub each : AreTaken all 0 before steps old mid
  -- no count fell up to there
  pub kept : KeepsHands old.hands mid.hands
  pub breaks : Breaks why all (record { number = length before; path = path }) old.hands.link mid new

-- How taking the files over a link ends: with all taken, and whether some file was refused; or at a file; or for want of memory before
-- the first.
abbrev pub Runs : Result Bool InsertFault → Inserting → InsertMoment → InsertMoment → Type 0
Runs (Ok refused) all old new = TakesAll refused all old new
Runs (Err fault.OutOfMemory) all old new = (new ≡ old) ⊎ StopsAt fault.OutOfMemory all old new
Runs (Err fault.StoreFault) all old new = StopsAt fault.StoreFault all old new
Runs (Err (fault.NoAnswer why)) all old new = StopsAt (fault.NoAnswer why) all old new
Runs (Err fault.Denied) all old new = StopsAt fault.Denied all old new
Runs (Err fault.SinkFault) all old new = StopsAt fault.SinkFault all old new
Runs (Err fault.Unreached) all old new = ⊥
