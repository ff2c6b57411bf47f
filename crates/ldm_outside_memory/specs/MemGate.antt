-- What contracts see of a gate in memory, and what one call of it does.
use Rattle.std.specs.Prelude.{◌≡◌, ℕ, true, false, List, [], ◌∷◌, ◌++◌, Some, None}
use Rattle.ldm_outside.specs.declared.gate.Go.{Go}
use Rattle.ldm_outside.specs.declared.gate.Go.TheVariants.{On, Stop}
use Rattle.ldm_outside.specs.declared.gate.GateCall.{GateCall}
use Rattle.ldm_outside.specs.declared.gate.GateCall.TheVariants.{Before}
use Rattle.ldm_outside.specs.Gate.{GateRecord}
use Rattle.ldm_outside_memory.specs.Memory.{Plan, next_fails, after_call, first_plan}
use Rattle.ldm_outside.specs.Count.{raised}

-- a gate that stops at chosen calls
pub record GateState : Type 0 where
  -- the calls that it let pass and those that it was told of, in order
  pub told : List GateCall
  pub stops : ℕ
  -- the calls that fail are those that are answered Stop
  pub plan : Plan

-- the gate at its beginning
abbrev pub first_gate : List ℕ → GateState
first_gate stopping = record { told = []; stops = 0; plan = first_plan stopping }

-- What one call of `before` did. Without memory for the call that it is to keep, it stops too.
abbrev pub PassesAsPlanned : Go → GateCall → GateState → GateState → Type 0
PassesAsPlanned On call old new =
    (next_fails old.plan ≡ false)
    × (new ≡ record old { told = old.told ++ call ∷ []; plan = after_call old.plan })
PassesAsPlanned Stop call old new = new ≡ record old { stops = raised old.stops; plan = after_call old.plan }

-- What one call of `idle` did.
abbrev pub IdlesAsPlanned : Go → GateState → GateState → Type 0
IdlesAsPlanned On old new = (next_fails old.plan ≡ false) × (new ≡ record old { plan = after_call old.plan })
IdlesAsPlanned Stop old new =
    (next_fails old.plan ≡ true) × (new ≡ record old { stops = raised old.stops; plan = after_call old.plan })

-- the last call was let pass, and the gate was not told of it yet
abbrev pub AwaitsAfter : List GateCall → Type 0
AwaitsAfter told = (earlier : List GateCall) × (actor : ℕ) × (i : ℕ) × (told ≡ earlier ++ Before actor i ∷ [])

-- what a gate in memory tells: its list says which idle calls stop
abbrev pub told_by_gate : GateState → GateRecord
told_by_gate s = record { stops = s.stops; idles = None; calls = Some s.told }
