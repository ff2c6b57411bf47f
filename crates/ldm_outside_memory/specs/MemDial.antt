-- What contracts see of a dial in memory, and what one call of it does.
use Rattle.std.specs.Prelude.{◌≡◌, ℕ, Bool, true, false, if◌then◌else◌, ◌⊎◌, List, [], ◌∷◌, ◌++◌, Some, None}
use Rattle.ldm_outside.specs.declared.dial.Dialled.{Dialled}
use Rattle.ldm_outside.specs.declared.dial.Dialled.TheVariants.{Linked, Failed}
use Rattle.ldm_outside_memory.specs.declared.mem_dial.DialCall.{DialCall}
use Rattle.ldm_outside_memory.specs.declared.mem_link.LinkScript.{LinkScript}
use Rattle.ldm_outside.specs.Dial.{Asked, DialRecord}
use Rattle.ldm_outside_memory.specs.Memory.{Plan, next_fails, after_call, first_plan}
use Rattle.ldm_outside.specs.Count.{raised}
use Rattle.ldm_outside_memory.specs.MemLink.{LinkState, first_link}
use Rattle.ldm_outside_memory.specs.MemLending.{LendingState, nothing_lent, lent, told_by_lending}

-- a dial that connects the links of a list
pub record DialState : Type 0 where
  -- what the links do that it did not connect yet
  pub scripts : List LinkScript
  -- whom it was asked for
  pub asked : List Asked
  -- whether it once had no memory to keep whom it was asked for
  pub lost : Bool
  pub faults : ℕ
  pub links : LendingState
  -- the calls of `connect`
  pub plan : Plan

-- whom a call was for
abbrev pub asked_by : DialCall → Asked
asked_by call = record { host = call.host.items; port = call.port }

-- the dial at its beginning
abbrev pub first_dial : List LinkScript → List ℕ → DialState
first_dial scripts failing = record {
  scripts = scripts;
  asked = [];
  lost = false;
  faults = 0;
  links = nothing_lent;
  plan = first_plan failing;
}

-- the dial after a call that failed
abbrev pub after_failure : DialState → DialState
after_failure s = record s { faults = raised s.faults; plan = after_call s.plan }

-- What one call of `connect` did. Without memory for what it is to keep and for the link, a call fails too.
abbrev pub ConnectsAsPlanned : Dialled LinkState → Asked → DialState → DialState → Type 0
-- the next link is connected
ConnectsAsPlanned (Linked link) peer old new =
    (next_fails old.plan ≡ false)
    × ((script : LinkScript) × (old.scripts ≡ script ∷ new.scripts) × (link ≡ first_link script))
    × (new ≡ record old {
      scripts = new.scripts;
      asked = old.asked ++ peer ∷ [];
      links = lent old.links;
      plan = after_call old.plan;
    })
ConnectsAsPlanned Failed peer old new =
    (new ≡ after_failure (record old { asked = old.asked ++ peer ∷ [] }))
    ⊎ (new ≡ after_failure (record old { lost = true }))

-- what a dial in memory tells: not whom it was asked for, once it could not keep one of these
abbrev pub told_by_dial : DialState → DialRecord
told_by_dial s = record {
  faults = s.faults;
  asked = if s.lost then None else Some s.asked;
  links = told_by_lending s.links;
}
