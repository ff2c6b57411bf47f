-- What stands after an action. It is begun, is given the body of the product in pieces, and is finished.
use Rattle.std.specs.Prelude.{ℕ, ◌-◌, Bool, true, false, nat_lt, bytes_eq, if◌then◌else◌, List, [], ◌∷◌, length, take, drop, Option, Some, None}
use Rattle.std.specs.Map.{lookup, remove_entry}
use Rattle.ldm_actions.specs.declared.limits.TheConstants.{MOST_PIPED}
use Rattle.ldm_actions.specs.declared.options.FileOptions.{FileOptions}
use Rattle.ldm_actions.specs.declared.options.PipeOptions.{PipeOptions}
use Rattle.ldm_actions.specs.Kept.{first_of, last_of}
use Rattle.ldm_actions.specs.Strip.{kept}
use Rattle.ldm_actions.specs.World.{Outside, World, appended, command_of, emptied, fed, made, over, started, waited}

-- an action, with what its kind needs and the options that its kind has
pub data Action : Type 0 where
  -- FILE and STDIOFILE: a path
  ToFile : List ℕ → FileOptions → Action
  -- PIPE: the program and its arguments
  ToProgram : List (List ℕ) → PipeOptions → Action
  -- EXEC: the program and its arguments, and whether it is waited for
  Start : List (List ℕ) → Bool → Action
  -- NOOP
  Nothing : Action

-- where the bytes of an action go
pub data Target : Type 0 where
  Nowhere : Target
  -- to the end of the file of a path
  File : List ℕ → Target
  -- to the child under PIPE that was written last
  Child : Target

-- an action that was begun
pub record InHand : Type 0 where
  pub target : Target
  pub strip : Bool
  -- what it writes to is shut after the body
  pub close : Bool
  -- its file is flushed after the body, before it is shut
  pub flush : Bool

abbrev pub in_hand : Action → InHand
in_hand (ToFile path options) = record { target = File path; strip = options.strip; close = options.close; flush = options.flush }
in_hand (ToProgram words options) = record { target = Child; strip = options.strip; close = options.close; flush = false }
in_hand (Start words wait) = record { target = Nowhere; strip = false; close = false; flush = false }
in_hand Nothing = record { target = Nowhere; strip = false; close = false; flush = false }

-- the file of a path is there, and has no bytes where it is to be written anew
abbrev pub opened : Bool → List ℕ → Outside → Outside
opened overwrite path outside = if overwrite then emptied path (made path outside) else made path outside

-- a program was started that has no input, and it has ended where it is waited for
abbrev pub executed : Bool → List (List ℕ) → Outside → Outside
executed wait words outside = if wait then waited outside.next (started words false outside) else started words false outside

-- a child is over, if it is one
abbrev pub ended : Option (List ℕ × ℕ) → Outside → Outside
ended None outside = outside
ended (Some it) outside = over it.1 outside

-- one more may run under PIPE: where as many run as may, the one that was written longest ago is over
unfoldable pub with_room : World → World
with_room world =
    if nat_lt (length world.piped) MOST_PIPED then world
    else record { outside = ended (last_of world.piped) world.outside; piped = take (length world.piped - 1) world.piped }

-- a child was started under PIPE
abbrev pub with_new : List (List ℕ) → World → World
with_new words world = record {
  outside = started words true world.outside;
  piped = (command_of words, world.outside.next) ∷ world.piped;
}

-- by the child that runs under the command of these words: it is now the one that was written last, and is started where none runs
abbrev pub piped_by : Option ℕ → List (List ℕ) → World → World
piped_by (Some child) words world =
    record world { piped = (command_of words, child) ∷ remove_entry (bytes_eq (command_of words)) world.piped }
piped_by None words world = with_new words (with_room world)

-- the number of the child that runs under a command
abbrev pub runs_under : List ℕ → World → Option ℕ
runs_under command world = lookup (bytes_eq command) world.piped

-- after an action was begun
unfoldable pub begun : Action → World → World
begun (ToFile path options) world = record world { outside = opened options.overwrite path world.outside }
begun (ToProgram words options) world = piped_by (runs_under (command_of words) world) words world
begun (Start words wait) world = record world { outside = executed wait words world.outside }
begun Nothing world = world

-- a child was given bytes, if it is one
abbrev pub fed_to : Option (List ℕ × ℕ) → List ℕ → Outside → Outside
fed_to None bytes outside = outside
fed_to (Some it) bytes outside = fed it.1 bytes outside

-- bytes were written, by where they go
abbrev pub written : Target → List ℕ → World → World
written Nowhere bytes world = world
written (File path) bytes world = record world { outside = appended path bytes world.outside }
written Child bytes world = record world { outside = fed_to (first_of world.piped) bytes world.outside }

-- after an action was given a piece of the body
unfoldable pub given : InHand → List ℕ → World → World
given hand bytes world = written hand.target (kept hand.strip bytes) world

-- the child under PIPE that was written last is over
abbrev pub with_first_over : World → World
with_first_over world = record { outside = ended (first_of world.piped) world.outside; piped = drop 1 world.piped }

abbrev pub finished_by : Target → Bool → World → World
finished_by Nowhere close world = world
finished_by (File path) close world = world
finished_by Child close world = if close then with_first_over world else world

-- after an action was finished. That its file is flushed or shut changes no bytes: `store_finished` of OpenFiles says what it does
unfoldable pub finished : InHand → World → World
finished hand world = finished_by hand.target hand.close world

-- after an action on a product of this body
abbrev pub acted : Action → List ℕ → World → World
acted action body world = finished (in_hand action) (given (in_hand action) body (begun action world))

-- after actions, each on a product of its body
abbrev pub effects : List (Action × List ℕ) → World → World
effects [] world = world
effects (one ∷ others) world = effects others (acted one.0 one.1 world)

-- these children are over, the last of them first
abbrev pub all_over : List (List ℕ × ℕ) → Outside → Outside
all_over [] outside = outside
all_over (it ∷ others) outside = over it.1 (all_over others outside)

-- after all that runs under PIPE is over, the one that was written longest ago first
abbrev pub closed : World → World
closed world = record { outside = all_over world.piped world.outside; piped = [] }
