-- Programs that run under PIPE, and what each step of keeping them does.
use Rattle.std.specs.Prelude.{◌≡◌, ℕ, ◌-◌, ◌≤◌, ◌⊎◌, Bool, false, true, if◌then◌else◌, List, [], ◌∷◌, length, take, Option, Some, None, option_map, Result, Ok, Err, String}
use Rattle.std.specs.declared.alloc.Global.{Global}
use Rattle.ldm_outside.specs.Count.{Rose}
use Rattle.ldm_outside.specs.declared.fault.Failed.{Failed}
use Rattle.ldm_outside.specs.declared.launcher.ChildNo.{ChildNo}
use Rattle.ldm_outside.specs.Launcher.{IsTaking, LauncherFails, LauncherRecord, Running, StartsChild, running_at, spelled, with_input_shut, with_shut, with_started, with_waited}
use Rattle.ldm_outside.specs.Numbered.{with_number, without_number}
use Rattle.ldm_outside.specs.Store.{File}
use Rattle.ldm_actions.specs.declared.answers.Begun.{Begun}
use Rattle.ldm_actions.specs.declared.answers.Begun.TheVariants as begun
use Rattle.ldm_actions.specs.declared.limits.TheConstants.{MOST_PIPED}
use Rattle.ldm_actions.specs.Effects.{ended, piped_by, runs_under}
use Rattle.ldm_actions.specs.Kept.{AreApart, Each, first_of, last_of}
use Rattle.ldm_actions.specs.Parts.{all_over_parts, over_parts, pipe_parts}
use Rattle.ldm_actions.specs.World.{Outside, World, child_no, command_of}

-- the programs that run under PIPE, and what the launcher tells
pub record ProgramSide : Type 0 where
  pub kept : List (List ℕ × ℕ)
  pub launcher : LauncherRecord

abbrev pub program_side : List (List ℕ × ℕ) → LauncherRecord → ProgramSide
program_side kept launcher = record { kept = kept; launcher = launcher }

-- The programs that are kept are of this launcher, were not waited for and take bytes, and there are not too many.
pub record KeepsPrograms (side : ProgramSide) : Type 0 where
  pub are_taking : Each (λ it. IsTaking (child_no it.1) side.launcher) side.kept
  pub apart : AreApart side.kept
  pub few : length side.kept ≤ MOST_PIPED

-- the children, beside these files
abbrev pub outside_with : Option (List File) → LauncherRecord → Outside
outside_with files launcher = record { files = files; next = launcher.next; children = launcher.children }

abbrev pub world_with : Option (List File) → ProgramSide → World
world_with files side = record { outside = outside_with files side.launcher; piped = side.kept }

-- x is one of these
abbrev pub IsOneOf : List Outside → Outside → Type 0
IsOneOf [] x = ⊥
IsOneOf (y ∷ ys) x = (x ≡ y) ⊎ IsOneOf ys x

-- the launcher after the input of a child was shut,
abbrev pub with_input_closed : ChildNo → LauncherRecord → LauncherRecord
with_input_closed child old = record old {
  running = with_shut child (running_at child old) old.running;
  children = option_map (with_input_shut child) old.children;
}

-- after it was waited for,
abbrev pub with_child_over : ChildNo → LauncherRecord → LauncherRecord
with_child_over child old = record old {
  running = without_number child.0 old.running;
  children = option_map (with_waited child) old.children;
}

-- and after it was let go
abbrev pub with_child_gone : ChildNo → LauncherRecord → LauncherRecord
with_child_gone child old = record old { running = without_number child.0 old.running }

-- What ending a child did: its input was shut, and it was waited for; or one of the two calls failed.
abbrev pub EndsChild : Result (Unit {0}) Failed → ChildNo → LauncherRecord → LauncherRecord → Type 0
EndsChild (Ok ok) child old new = new ≡ with_child_over child (with_input_closed child old)
EndsChild (Err failed) child old new = LauncherFails old new ⊎ LauncherFails (with_input_closed child old) new

-- What ending the child of a number did, if there is one.
abbrev pub EndsGone : Option ℕ → Result (Unit {0}) Failed → LauncherRecord → LauncherRecord → Type 0
EndsGone None result old new = (result ≡ Ok tt) × (new ≡ old)
EndsGone (Some number) result old new = EndsChild result (child_no number) old new

-- the launcher after that
abbrev pub with_gone_over : Option ℕ → LauncherRecord → LauncherRecord
with_gone_over None launcher = launcher
with_gone_over (Some number) launcher = with_child_over (child_no number) (with_input_closed (child_no number) launcher)

-- No call failed, and what stands changed so, whatever files there are.
pub record ProgramsBecome (change : World → World) (old new : ProgramSide) : Type 0 where
  pub world : (files : Option (List File)) → world_with files new ≡ change (world_with files old)
  pub faults : new.launcher.faults ≡ old.launcher.faults
  pub keeps : KeepsPrograms new

-- The launcher failed, and what stands is one of these, whatever files there are.
pub record ProgramsFail (parts : World → List Outside) (old new : ProgramSide) : Type 0 where
  pub rose : Rose old.launcher.faults new.launcher.faults
  pub stands : (files : Option (List File)) → IsOneOf (parts (world_with files old)) (outside_with files new.launcher)

-- What a step did that needs no memory: what stands changed so; or the launcher failed, and one of the parts stands.
abbrev pub ChangesOr : Result (Unit {0}) Failed → (World → World) → (World → List Outside) → ProgramSide → ProgramSide → Type 0
ChangesOr (Ok ok) change parts old new = ProgramsBecome change old new
ChangesOr (Err failed) change parts old new = ProgramsFail parts old new

-- the child that was written longest ago is over
abbrev pub with_last_over : World → World
with_last_over world = record { outside = ended (last_of world.piped) world.outside; piped = take (length world.piped - 1) world.piped }

abbrev pub last_parts : World → List Outside
last_parts world = over_parts (last_of world.piped) world.outside

-- the child that was written last is over
abbrev pub first_parts : World → List Outside
first_parts world = over_parts (first_of world.piped) world.outside

-- the program of these words is the one that was written last
abbrev pub by_program : List (List ℕ) → World → World
by_program words world = piped_by (runs_under (command_of words) world) words world

abbrev pub by_program_parts : List (List ℕ) → World → List Outside
by_program_parts words world = pipe_parts (runs_under (command_of words) world) world

-- no program runs any more
abbrev pub closing_parts : World → List Outside
closing_parts world = all_over_parts world.piped world.outside

-- What starting a program did, whose words the launcher was told.
abbrev pub StartsProgram : Result ChildNo Failed → List (List ℕ) → Bool → LauncherRecord → LauncherRecord → Type 0
StartsProgram result words piped old new = (told : List (String Global)) × (spelled told ≡ words) × StartsChild result told piped old new

-- What starting a program under PIPE did, behind the end of the child of a number, if there is one.
abbrev pub StartsAfter : Result ChildNo Failed → Option ℕ → List (List ℕ) → LauncherRecord → LauncherRecord → Type 0
StartsAfter (Ok child) gone words old new = StartsProgram (Ok child) words true (with_gone_over gone old) new
StartsAfter (Err failed) gone words old new = EndsGone gone (Err failed) old new ⊎ LauncherFails (with_gone_over gone old) new

-- What giving an action its program did: it runs, as the one that was written last; or the launcher failed; or there was no
-- memory, and nothing was done.
abbrev pub BeginsProgram : Begun → List (List ℕ) → ProgramSide → ProgramSide → Type 0
BeginsProgram begun.Ready words old new = ProgramsBecome (by_program words) old new
BeginsProgram begun.StoreFault words old new = ⊥
BeginsProgram begun.LaunchFault words old new = ProgramsFail (by_program_parts words) old new
BeginsProgram begun.OutOfMemory words old new = new ≡ old

-- A program was started, and has ended where it is waited for; else it was let go.
abbrev pub with_executed : Bool → ChildNo → LauncherRecord → LauncherRecord
with_executed wait child old = if wait then with_child_over child old else with_child_gone child old

-- What executing a program did.
abbrev pub Executes : Result (Unit {0}) Failed → List (List ℕ) → Bool → LauncherRecord → LauncherRecord → Type 0
Executes (Ok ok) words wait old new =
    (told : List (String Global)) × (spelled told ≡ words) × (new ≡ with_executed wait (child_no old.next) (with_started told false old))
Executes (Err failed) words wait old new =
    LauncherFails old new
    ⊎ ((told : List (String Global)) × (spelled told ≡ words) × (wait ≡ true) × LauncherFails (with_started told false old) new)

-- the programs that run after one was started that is told no more
abbrev pub running_after : List (List ℕ) → LauncherRecord → List (ℕ × Running)
running_after words old = without_number old.next (with_number old.next (record { words = words; piped = false; shut = false }) old.running)
