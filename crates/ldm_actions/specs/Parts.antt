-- What may stand where an action fails. Its effects are made one after another, by calls of a store and a launcher, and each front
-- of them is one of these.
use Rattle.std.specs.Prelude.{◌≡◌, ℕ, Bool, false, nat_lt, if◌then◌else◌, List, [], ◌∷◌, ◌++◌, length, Option, Some, None}
use Rattle.ldm_actions.specs.declared.limits.TheConstants.{MOST_PIPED}
use Rattle.ldm_actions.specs.Effects.{Action, ToFile, ToProgram, Start, Nothing, InHand, Target, Nowhere, File, Child}
use Rattle.ldm_actions.specs.Effects.{all_over, runs_under, with_room, written}
use Rattle.ldm_actions.specs.Kept.{first_of, last_of}
use Rattle.ldm_actions.specs.Strip.{kept}
use Rattle.ldm_actions.specs.World.{Outside, World, command_of, input_shut, made, started}

-- a child that is to be over: its input could not be shut; or it could not be waited for, after its input was shut
abbrev pub over_parts : Option (List ℕ × ℕ) → Outside → List Outside
over_parts None outside = []
over_parts (Some it) outside = outside ∷ input_shut it.1 outside ∷ []

-- the child that was written longest ago, where as many run as may; behind it, the program that could not be started
abbrev pub room_parts : World → List Outside
room_parts world =
    (if nat_lt (length world.piped) MOST_PIPED then [] else over_parts (last_of world.piped) world.outside)
    ++ (with_room world).outside ∷ []

-- no call is made where a child runs under the command
abbrev pub pipe_parts : Option ℕ → World → List Outside
pipe_parts (Some child) world = []
pipe_parts None world = room_parts world

-- where the beginning of an action fails
unfoldable pub begin_parts : Action → World → List Outside
-- a file that was unused for long could not be shut, or this one not be opened; or it could not be emptied
begin_parts (ToFile path options) world = world.outside ∷ (if options.overwrite then made path world.outside ∷ [] else [])
begin_parts (ToProgram words options) world = pipe_parts (runs_under (command_of words) world) world
-- the program could not be started; or it could not be waited for
begin_parts (Start words wait) world = world.outside ∷ (if wait then started words false world.outside ∷ [] else [])
begin_parts Nothing world = []

-- where a piece of the body fails: a front of what is written of it was written
pub record IsGivenPart (hand : InHand) (bytes : List ℕ) (world : World) (outside : Outside) : Type 0 where
  pub front : List ℕ
  pub rest : List ℕ
  pub is_front : front ++ rest ≡ kept hand.strip bytes
  pub stands : outside ≡ (written hand.target front world).outside

abbrev pub finish_parts_by : Target → Bool → World → List Outside
finish_parts_by Nowhere close world = []
finish_parts_by (File path) close world = world.outside ∷ []
finish_parts_by Child close world = if close then over_parts (first_of world.piped) world.outside else []

-- where the end of an action fails: its file could not be flushed or shut; or its child is not over
unfoldable pub finish_parts : InHand → World → List Outside
finish_parts hand world = finish_parts_by hand.target hand.close world

-- these children are to be over, the last of them first
abbrev pub all_over_parts : List (List ℕ × ℕ) → Outside → List Outside
all_over_parts [] outside = []
all_over_parts (it ∷ others) outside = all_over_parts others outside ++ over_parts (Some it) (all_over others outside)

-- where closing all fails: a file could not be shut; or some children are over, and of the next at most the input is shut
abbrev pub close_parts : World → List Outside
close_parts world = world.outside ∷ all_over_parts world.piped world.outside
