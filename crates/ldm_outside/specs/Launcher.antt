-- What a launcher of programs tells, and what each call of it does.
use Rattle.std.specs.Prelude.{◌≡◌, ℕ, ◌+◌, ◌<◌, ◌≤◌, Bool, true, false, List, [], ◌∷◌, ◌++◌, map, length, take, Option, Some, None, option_map, Result, Ok, Err, slice_index_or, slice_set, String, string_bytes}
use Rattle.std.specs.declared.alloc.Global.{Global}
use Rattle.ldm_outside.specs.declared.fault.Failed.{Failed}
use Rattle.ldm_outside.specs.declared.io.Put.{Put}
use Rattle.ldm_outside.specs.declared.io.Put.TheVariants as put
use Rattle.ldm_outside.specs.declared.launcher.ChildNo.{ChildNo}
use Rattle.ldm_outside.specs.Count.{Rose}
use Rattle.ldm_outside.specs.Numbered.{at_number, with_number, without_number, with_changed_number}

-- A child that was neither waited for nor detached.
pub record Running : Type 0 where
  -- the program and what it was told, each word as its bytes
  pub words : List (List ℕ)
  -- whether it can be written to
  pub piped : Bool
  -- whether its input was shut
  pub shut : Bool

-- A child that was started.
pub record Child : Type 0 where
  -- the program and what it was told, each word as its bytes
  pub words : List (List ℕ)
  -- whether it can be written to
  pub piped : Bool
  -- all bytes that it was given
  pub given : List ℕ
  -- whether its input was shut
  pub shut : Bool
  pub waited : Bool

-- What a launcher tells at a moment.
pub record LauncherRecord : Type 0 where
  -- how often it failed
  pub faults : ℕ
  -- the number that the next child gets which is started
  pub next : ℕ
  -- the children that were neither waited for nor detached, under their numbers
  pub running : List (ℕ × Running)
  -- all children that were ever started, in order, where it tells them: the number of a child is its place here
  pub children : Option (List Child)

-- a child that was neither waited for nor detached
abbrev pub running_at : ChildNo → LauncherRecord → Option Running
running_at child launcher = at_number child.0 launcher.running

-- The number was given, and the child was neither waited for nor detached.
pub record IsNotWaitedFor (child : ChildNo) (launcher : LauncherRecord) : Type 0 where
  pub it : Running
  pub given : child.0 < launcher.next
  pub not_waited : running_at child launcher ≡ Some it

-- The number was given, and the child was neither waited for nor detached, nor was its input shut.
pub record IsTaking (child : ChildNo) (launcher : LauncherRecord) : Type 0 where
  pub it : Running
  pub given : child.0 < launcher.next
  pub not_waited : running_at child launcher ≡ Some it
  pub not_shut : it.shut ≡ false

-- the child at a place; one that was not started is over
abbrev pub child_at : ChildNo → List Child → Child
child_at child children = slice_index_or children child.0 (record { words = []; piped = false; given = []; shut = true; waited = true })

-- the children after one of them was given more bytes
abbrev pub with_fed : ChildNo → List ℕ → List Child → List Child
with_fed child bytes children =
    let was = child_at child children in
    slice_set children child.0 (record was { given = was.given ++ bytes })

-- the children after the input of one of them was shut
abbrev pub with_input_shut : ChildNo → List Child → List Child
with_input_shut child children = slice_set children child.0 (record (child_at child children) { shut = true })

-- the children after one of them was waited for
abbrev pub with_waited : ChildNo → List Child → List Child
with_waited child children = slice_set children child.0 (record (child_at child children) { waited = true })

-- the children that run after the input of one of them was shut
abbrev pub with_shut : ChildNo → Option Running → List (ℕ × Running) → List (ℕ × Running)
with_shut child None running = running
with_shut child (Some it) running = with_changed_number child.0 (record it { shut = true }) running

-- whether a child can be written to
abbrev pub is_piped : Option Running → Bool
is_piped None = false
is_piped (Some it) = it.piped

-- the launcher failed: nothing changed but its count
abbrev pub LauncherFails : LauncherRecord → LauncherRecord → Type 0
LauncherFails old new = Rose old.faults new.faults × (new ≡ record old { faults = new.faults })

-- the words, each as its bytes
abbrev pub spelled : List (String Global) → List (List ℕ)
spelled words = map string_bytes words

-- a child that was just started
abbrev pub new_child : List (String Global) → Bool → Child
new_child words piped = record { words = spelled words; piped = piped; given = []; shut = false; waited = false }

-- what is told of it while it runs
abbrev pub new_running : List (String Global) → Bool → Running
new_running words piped = record { words = spelled words; piped = piped; shut = false }

-- the launcher after a child was started
abbrev pub with_started : List (String Global) → Bool → LauncherRecord → LauncherRecord
with_started words piped old = record old {
  next = old.next + 1;
  running = with_number old.next (new_running words piped) old.running;
  children = option_map (λ children. children ++ new_child words piped ∷ []) old.children;
}

-- What one call of `start` did.
abbrev pub StartsChild : Result ChildNo Failed → List (String Global) → Bool → LauncherRecord → LauncherRecord → Type 0
-- the next number was given, and the child was given no byte
StartsChild (Ok child) words piped old new = (child.0 ≡ old.next) × (new ≡ with_started words piped old)
StartsChild (Err failed) words piped old new = LauncherFails old new

-- What one call of `write` did.
abbrev pub FeedsChild : Put → ChildNo → List ℕ → LauncherRecord → LauncherRecord → Type 0
-- the child is piped, and was given the front of the piece
FeedsChild (put.Took n) child piece old new =
    (is_piped (running_at child old) ≡ true)
    × (n ≤ length piece)
    × (0 < length piece → 0 < n)
    × (new ≡ record old { children = option_map (with_fed child (take n piece)) old.children })
FeedsChild put.Failed child piece old new = LauncherFails old new

-- What one call of `shut` did.
abbrev pub ShutsInput : Result (Unit {0}) Failed → ChildNo → LauncherRecord → LauncherRecord → Type 0
ShutsInput (Ok done) child old new =
    new ≡ record old {
      running = with_shut child (running_at child old) old.running;
      children = option_map (with_input_shut child) old.children;
    }
ShutsInput (Err failed) child old new = LauncherFails old new

-- What one call of `wait` did.
abbrev pub WaitsForChild : Result ℕ Failed → ChildNo → LauncherRecord → LauncherRecord → Type 0
WaitsForChild (Ok status) child old new =
    new ≡ record old {
      running = without_number child.0 old.running;
      children = option_map (with_waited child) old.children;
    }
WaitsForChild (Err failed) child old new = LauncherFails old new

-- What one call of `detach` did: nobody can wait for the child any more.
abbrev pub DetachesChild : ChildNo → LauncherRecord → LauncherRecord → Type 0
DetachesChild child old new = new ≡ record old { running = without_number child.0 old.running }
