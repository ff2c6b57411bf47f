-- The calls of a form in memory, and how often it failed.
use Rattle.std.specs.Prelude.{◌≡◌, ℕ, true, false, List, Result, Ok, Err}
use Rattle.ldm_outside.specs.declared.fault.Failed.{Failed}
use Rattle.ldm_outside_memory.specs.Memory.{Plan, next_fails, after_call, first_plan}
use Rattle.ldm_outside.specs.Count.{raised}

-- the calls of an object so far
pub record CallsState : Type 0 where
  -- which of them fail, and how much one moves
  pub plan : Plan
  -- how often the object failed
  pub faults : ℕ

-- no call yet
abbrev pub first_calls : List ℕ → CallsState
first_calls failing = record { plan = first_plan failing; faults = 0 }

-- How a call begins: it is counted, and where its number is on the list of those that fail it fails.
abbrev pub Begins : Result (Unit {0}) Failed → CallsState → CallsState → Type 0
Begins (Ok done) old new = (next_fails old.plan ≡ false) × (new ≡ record old { plan = after_call old.plan })
Begins (Err failed) old new =
    (next_fails old.plan ≡ true) × (new ≡ record { plan = after_call old.plan; faults = raised old.faults })
