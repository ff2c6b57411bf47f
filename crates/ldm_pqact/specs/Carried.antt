-- What became of actions: all were done, or they were broken off.
use Rattle.std.specs.Prelude.{◌≡◌, ℕ, ◌⊎◌, List, [], ◌∷◌, ◌++◌, Option, Some, None}
use Rattle.ldm_outside.specs.Count.{Rose}
use Rattle.ldm_actions.specs.declared.answers.Fault.{Fault}
use Rattle.ldm_actions.specs.declared.answers.Fault.TheVariants as fault
use Rattle.ldm_actions.specs.Effects.{Action, begun, effects, given, in_hand}
use Rattle.ldm_actions.specs.Outputs.{Standing, kept_by, world_of}
use Rattle.ldm_actions.specs.Parts.{IsGivenPart, begin_parts, finish_parts}
use Rattle.ldm_actions.specs.Programs.{IsOneOf}
use Rattle.ldm_actions.specs.World.{Outside, World}
use Rattle.ldm_pqact.specs.declared.end.ActEnd.{ActEnd}
use Rattle.ldm_pqact.specs.declared.end.ActEnd.TheVariants as end

-- what stands of files and programs
abbrev pub world_in : Standing → World
world_in now = world_of (kept_by now)

-- an `Outputs` that is spent touches nothing, and one that is not stays so
abbrev pub IsAsBefore : Option Fault → Standing → Standing → Type 0
IsAsBefore None old new = new.outputs.spent ≡ None
IsAsBefore (Some fault) old new = new ≡ old

-- All these actions were done, and no call failed.
pub record Stands (deeds : List (Action × List ℕ)) (old new : Standing) : Type 0 where
  pub world : world_in new ≡ effects deeds (world_in old)
  pub store_faults : new.store.faults ≡ old.store.faults
  pub launcher_faults : new.launcher.faults ≡ old.launcher.faults
  pub as_before : IsAsBefore old.outputs.spent old new

-- What may stand of an action on that body that was broken off: nothing of it; a part of its beginning; a front of the body; or all of the
-- body and a part of its end.
abbrev pub IsPartOf : Action → List ℕ → World → Outside → Type 0
IsPartOf action body world outside =
    (outside ≡ world.outside)
    ⊎ (IsOneOf (begin_parts action world) outside
    ⊎ (IsGivenPart (in_hand action) body (begun action world) outside
    ⊎ IsOneOf (finish_parts (in_hand action) (given (in_hand action) body (begun action world))) outside))

-- of the first of these actions a part stands, and nothing of the others
abbrev pub IsPartOfFirst : List (Action × List ℕ) → World → Outside → Type 0
IsPartOfFirst [] world outside = outside ≡ world.outside
IsPartOfFirst (deed ∷ later) world outside = IsPartOf deed.0 deed.1 world outside

-- All of the earlier actions stand whole; of these some, and of the next a part.
pub record StandsInPart (earlier deeds : List (Action × List ℕ)) (before : World) (outside : Outside) : Type 0 where
  pub whole : List (Action × List ℕ)
  pub others : List (Action × List ℕ)
  pub are : whole ++ others ≡ deeds
  pub part : IsPartOfFirst others (effects (earlier ++ whole) before) outside

-- why a count rose: the fault that ended it, or an earlier one, after which nothing was touched
abbrev pub Faulted : Fault → ℕ → ℕ → Standing → Standing → Type 0
Faulted fault count count' old new = Rose count count' ⊎ ((old.outputs.spent ≡ Some fault) × (new ≡ old))

-- a count rises at its own end alone
abbrev pub StoreCount : ActEnd → Standing → Standing → Type 0
StoreCount end.StoreFault old new = Faulted fault.Store old.store.faults new.store.faults old new
StoreCount _ old new = new.store.faults ≡ old.store.faults

abbrev pub LauncherCount : ActEnd → Standing → Standing → Type 0
LauncherCount end.LaunchFault old new = Faulted fault.Launch old.launcher.faults new.launcher.faults old new
LauncherCount _ old new = new.launcher.faults ≡ old.launcher.faults

-- They were broken off: the earlier ones stand whole, and these in part.
pub record BreaksOff (why : ActEnd) (earlier deeds : List (Action × List ℕ)) (old new : Standing) : Type 0 where
  pub part : StandsInPart earlier deeds (world_in old) (world_in new).outside
  pub store_count : StoreCount why old new
  pub launcher_count : LauncherCount why old new

-- ends that come of outputs
abbrev pub IsOfOutputs : ActEnd → Type 0
IsOfOutputs end.StoreFault = Unit {0}
IsOfOutputs end.LaunchFault = Unit {0}
IsOfOutputs end.OutOfMemory = Unit {0}
IsOfOutputs _ = ⊥

-- these actions were done; or they were broken off
abbrev pub DoesBy : ActEnd → List (Action × List ℕ) → Standing → Standing → Type 0
DoesBy end.Stopped deeds old new = Stands deeds old new
DoesBy why deeds old new = IsOfOutputs why × BreaksOff why [] deeds old new

-- by how it ended: where the queue came to its end no action was in hand
abbrev pub Carries : ActEnd → (whole in_hand : List (Action × List ℕ)) → Standing → Standing → Type 0
Carries end.Stopped whole in_hand old new = Stands whole old new
Carries why whole in_hand old new = BreaksOff why whole in_hand old new
