-- Which arenas and numbers of slots a queue can have.
use Rattle.std.specs.Prelude.{◌≡◌, ℕ, ◌%◌, ◌<◌, ◌≤◌}
use Rattle.ldm_types.specs.declared.limits.TheConstants.{ARENA_UNIT, LARGEST_ARENA, MOST_SLOTS, SMALLEST_ARENA}
use Rattle.ldm_book.specs.declared.fault.CreateFault.{CreateFault}
use Rattle.ldm_book.specs.declared.fault.CreateFault.TheVariants.{BadArena, BadSlots, OutOfMemory}

-- bytes of an arena
pub record IsGoodArena (arena : ℕ) : Type 0 where
  pub whole : arena % ARENA_UNIT ≡ 0
  pub least : SMALLEST_ARENA ≤ arena
  pub greatest : arena ≤ LARGEST_ARENA

pub record IsGoodSlots (slots : ℕ) : Type 0 where
  pub some : 0 < slots
  pub most : slots ≤ MOST_SLOTS

-- each fault of creating a queue, where it comes
abbrev pub IsFaultOf : ℕ → ℕ → CreateFault → Type 0
IsFaultOf arena slots (BadArena a) = (a ≡ arena) × ¬ (IsGoodArena arena)
IsFaultOf arena slots (BadSlots n) = (n ≡ slots) × IsGoodArena arena × ¬ (IsGoodSlots slots)
IsFaultOf arena slots OutOfMemory = IsGoodArena arena × IsGoodSlots slots
