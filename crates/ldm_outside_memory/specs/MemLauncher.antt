-- What contracts see of a launcher in memory, and what one call of it does.
use Rattle.std.specs.Prelude.{◌≡◌, ℕ, Bool, true, false, List, [], ◌∷◌, ◌++◌, length, take, min, Some, Result, Ok, Err, slice_index_or, String}
use Rattle.std.specs.declared.alloc.Global.{Global}
use Rattle.ldm_outside.specs.declared.fault.Failed.{Failed}
use Rattle.ldm_outside.specs.declared.io.Put.{Put}
use Rattle.ldm_outside.specs.declared.io.Put.TheVariants as put
use Rattle.ldm_outside.specs.declared.launcher.ChildNo.{ChildNo}
use Rattle.ldm_outside_memory.specs.Memory.{Plan, next_fails, after_call, first_plan}
use Rattle.ldm_outside.specs.Count.{raised}
use Rattle.ldm_outside.specs.Numbered.{at_number, with_number, without_number}
use Rattle.ldm_outside.specs.Launcher.{Child, Running, LauncherRecord, is_piped, new_child, new_running, with_fed, with_input_shut, with_shut, with_waited}

-- a launcher that starts no program, and fails at chosen calls
pub record LauncherState : Type 0 where
  pub faults : ℕ
  -- the children that were neither waited for nor detached, under their numbers
  pub running : List (ℕ × Running)
  -- all children that were ever started: the number of a child is its place here
  pub children : List Child
  -- the status that each child ends with: 0 where the list is over
  pub statuses : List ℕ
  pub plan : Plan

-- what it tells
abbrev pub told_by_launcher : LauncherState → LauncherRecord
told_by_launcher s = record { faults = s.faults; next = length s.children; running = s.running; children = Some s.children }

-- a launcher that started no child
abbrev pub first_launcher : List ℕ → List ℕ → LauncherState
first_launcher statuses failing = record { faults = 0; running = []; children = []; statuses = statuses; plan = first_plan failing }

-- the status that a child ends with
abbrev pub status_of : ChildNo → LauncherState → ℕ
status_of child s = slice_index_or s.statuses child.0 0

-- the launcher after a call that failed
abbrev pub launcher_failed : LauncherState → LauncherState
launcher_failed old = record old { faults = raised old.faults; plan = after_call old.plan }

-- What one call of `start` did. Without memory for what it keeps a call fails too.
abbrev pub StartsChildAsPlanned : Result ChildNo Failed → List (String Global) → Bool → LauncherState → LauncherState → Type 0
StartsChildAsPlanned (Ok child) words piped old new =
    (next_fails old.plan ≡ false)
    × (child.0 ≡ length old.children)
    × (new ≡ record old {
      running = with_number (length old.children) (new_running words piped) old.running;
      children = old.children ++ new_child words piped ∷ [];
      plan = after_call old.plan;
    })
StartsChildAsPlanned (Err failed) words piped old new = new ≡ launcher_failed old

-- What one call of `write` did: a piped child takes all that it may. Without memory for the bytes a call fails too.
abbrev pub FeedsChildAsPlanned : Put → ChildNo → List ℕ → LauncherState → LauncherState → Type 0
FeedsChildAsPlanned (put.Took n) child piece old new =
    (next_fails old.plan ≡ false)
    × (is_piped (at_number child.0 old.running) ≡ true)
    × (n ≡ min (length piece) old.plan.most)
    × (new ≡ record old { children = with_fed child (take n piece) old.children; plan = after_call old.plan })
FeedsChildAsPlanned put.Failed child piece old new = new ≡ launcher_failed old

-- What one call of `shut` did.
abbrev pub ShutsInputAsPlanned : Result (Unit {0}) Failed → ChildNo → LauncherState → LauncherState → Type 0
ShutsInputAsPlanned (Ok done) child old new =
    (next_fails old.plan ≡ false)
    × (new ≡ record old {
      running = with_shut child (at_number child.0 old.running) old.running;
      children = with_input_shut child old.children;
      plan = after_call old.plan;
    })
ShutsInputAsPlanned (Err failed) child old new = (next_fails old.plan ≡ true) × (new ≡ launcher_failed old)

-- What one call of `wait` did.
abbrev pub WaitsAsPlanned : Result ℕ Failed → ChildNo → LauncherState → LauncherState → Type 0
WaitsAsPlanned (Ok status) child old new =
    (next_fails old.plan ≡ false)
    × (status ≡ status_of child old)
    × (new ≡ record old {
      running = without_number child.0 old.running;
      children = with_waited child old.children;
      plan = after_call old.plan;
    })
WaitsAsPlanned (Err failed) child old new = (next_fails old.plan ≡ true) × (new ≡ launcher_failed old)

-- What one call of `detach` did. It is not one of the calls that may fail.
abbrev pub DetachesAsPlanned : ChildNo → LauncherState → LauncherState → Type 0
DetachesAsPlanned child old new = new ≡ record old { running = without_number child.0 old.running }
