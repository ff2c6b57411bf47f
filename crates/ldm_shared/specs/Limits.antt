-- Which numbers of passes a shared queue can have, and each fault of making one.
use Rattle.std.specs.Prelude.{◌≡◌, ℕ, ◌<◌, ◌≤◌}
use Rattle.ldm_types.specs.declared.numbers.TheConstants.Actor.{COUNT}
use Rattle.ldm_book.specs.Limits.{IsGoodArena, IsGoodSlots}
use Rattle.ldm_shared.specs.declared.fault.CreateFault.{CreateFault}
use Rattle.ldm_shared.specs.declared.fault.CreateFault.TheVariants.{BadArena, BadSlots, BadPasses, OutOfMemory}

-- a pass for each of the first actors
pub record IsGoodPasses (passes : ℕ) : Type 0 where
  pub some : 0 < passes
  pub most : passes ≤ COUNT

-- each fault of creating a shared queue, where it comes
abbrev pub IsFaultOf : ℕ → ℕ → ℕ → CreateFault → Type 0
IsFaultOf arena slots passes (BadArena a) = (a ≡ arena) × ¬ (IsGoodArena arena)
IsFaultOf arena slots passes (BadSlots n) = (n ≡ slots) × IsGoodArena arena × ¬ (IsGoodSlots slots)
IsFaultOf arena slots passes (BadPasses n) = (n ≡ passes) × IsGoodArena arena × IsGoodSlots slots × ¬ (IsGoodPasses passes)
IsFaultOf arena slots passes OutOfMemory = IsGoodArena arena × IsGoodSlots slots × IsGoodPasses passes
