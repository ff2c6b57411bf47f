-- The commands of a configuration: how they are started and waited for.
use Rattle.std.specs.Prelude.{◌≡◌, ℕ, ◌+◌, ◌<◌, false, List, [], ◌∷◌, ◌++◌, option_map, Result, Ok, Err}
use Rattle.ldm_outside.specs.declared.fault.Failed as outside
use Rattle.ldm_outside.specs.declared.launcher.ChildNo.{ChildNo}
use Rattle.ldm_outside.specs.Launcher.{Child, IsNotWaitedFor, LauncherFails, LauncherRecord, Running, with_waited}
use Rattle.ldm_outside.specs.Numbered.{with_number, without_number}
use Rattle.ldm_node_command.specs.declared.commands.StartFault.{StartFault}
use Rattle.ldm_node_command.specs.declared.commands.StartFault.TheVariants.{Failed, OutOfMemory}

-- the words of a command, each as its bytes
abbrev pub Words : Type 0
Words = List (List ℕ)

-- what is told of a command that runs
abbrev pub running_of : Words → Running
running_of words = record { words = words; piped = false; shut = false }

-- a command that was just started, without a pipe
abbrev pub child_of : Words → Child
child_of words = record { words = words; piped = false; given = []; shut = false; waited = false }

-- the launcher after a command was started
abbrev pub with_command : Words → LauncherRecord → LauncherRecord
with_command words old = record old {
  next = old.next + 1;
  running = with_number old.next (running_of words) old.running;
  children = option_map (λ children. children ++ child_of words ∷ []) old.children;
}

-- the launcher after commands were started, in order
abbrev pub with_commands : List Words → LauncherRecord → LauncherRecord
with_commands [] old = old
with_commands (words ∷ commands) old = with_commands commands (with_command words old)

-- their numbers, the first of which is this one
abbrev pub numbers_from : ℕ → List Words → List ChildNo
numbers_from next [] = []
numbers_from next (words ∷ commands) = record { 0 = next } ∷ numbers_from (next + 1) commands

-- a command could not be started: those before it were, and none behind it
pub record FailsToStart (commands : List Words) (old new : LauncherRecord) : Type 0 where
  pub started : List Words
  pub failing : Words
  pub left : List Words
  pub in_order : commands ≡ started ++ failing ∷ left
  pub fails : LauncherFails (with_commands started old) new

-- Why commands were not all started.
abbrev pub StopsStarting : StartFault → List Words → LauncherRecord → LauncherRecord → Type 0
StopsStarting Failed commands old new = FailsToStart commands old new
StopsStarting OutOfMemory commands old new = new ≡ old

-- the launcher after a child was waited for
abbrev pub with_wait : ChildNo → LauncherRecord → LauncherRecord
with_wait child old = record old {
  running = without_number child.0 old.running;
  children = option_map (with_waited child) old.children;
}

-- the launcher after children were waited for, in order
abbrev pub with_waits : List ChildNo → LauncherRecord → LauncherRecord
with_waits [] old = old
with_waits (child ∷ children) old = with_waits children (with_wait child old)

-- a child was not waited for: those before it were, and none behind it
pub record FailsToWait (children : List ChildNo) (old new : LauncherRecord) : Type 0 where
  pub waited : List ChildNo
  pub failing : ChildNo
  pub left : List ChildNo
  pub in_order : children ≡ waited ++ failing ∷ left
  pub fails : LauncherFails (with_waits waited old) new

-- What waiting for children in order did.
abbrev pub WaitsForAll : Result (Unit {0}) outside.Failed → List ChildNo → LauncherRecord → LauncherRecord → Type 0
WaitsForAll (Ok done) children old new = new ≡ with_waits children old
WaitsForAll (Err failed) children old new = FailsToWait children old new

-- each later child has a greater number
abbrev pub AreBehind : ℕ → List ChildNo → Type 0
AreBehind number [] = Unit {0}
AreBehind number (child ∷ children) = (number < child.0) × AreBehind child.0 children

-- these children run, each under a number of its own
abbrev pub AllRun : List ChildNo → LauncherRecord → Type 0
AllRun [] launcher = Unit {0}
AllRun (child ∷ children) launcher = IsNotWaitedFor child launcher × AreBehind child.0 children × AllRun children launcher
