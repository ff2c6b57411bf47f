-- Actions as they are carried out, and what is remembered of the one in hand.
use Rattle.std.specs.Prelude.{ℕ, false, List, [], ◌∷◌, Option, option_map, string_bytes}
use Rattle.ldm_actions.specs.declared.action.Action.{Action as Given}
use Rattle.ldm_actions.specs.declared.action.Action.TheVariants as given
use Rattle.ldm_actions.specs.declared.hand.Hand.{Hand}
use Rattle.ldm_actions.specs.declared.hand.Place.{Place}
use Rattle.ldm_actions.specs.declared.hand.Place.TheVariants as place
use Rattle.ldm_actions.specs.Effects.{Action, ToFile, ToProgram, Start, Nothing, InHand, Target, Nowhere, File, Child}

-- the action of the definition
abbrev pub action_of : Given → Action
action_of (given.ToFile path options) = ToFile (string_bytes path) options
action_of (given.ToProgram program options) = ToProgram program options
action_of (given.Start program wait) = Start program wait
action_of given.Nothing = Nothing

-- what is remembered of an action
abbrev pub hand_of : Given → Hand
hand_of (given.ToFile path options) = record { place = place.File; strip = options.strip; close = options.close; flush = options.flush }
hand_of (given.ToProgram program options) = record { place = place.Child; strip = options.strip; close = options.close; flush = false }
hand_of (given.Start program wait) = record { place = place.Nowhere; strip = false; close = false; flush = false }
hand_of given.Nothing = record { place = place.Nowhere; strip = false; close = false; flush = false }

-- the path of the file that was used last
abbrev pub newest_path : List (List ℕ × ℕ) → List ℕ
newest_path [] = []
newest_path (it ∷ others) = it.0

abbrev pub target_of : Place → List (List ℕ × ℕ) → Target
target_of place.Nowhere files = Nowhere
target_of place.File files = File (newest_path files)
target_of place.Child files = Child

-- the action in hand, by the files that are kept open
abbrev pub seen_with : List (List ℕ × ℕ) → Hand → InHand
seen_with files hand = record { target = target_of hand.place files; strip = hand.strip; close = hand.close; flush = hand.flush }

abbrev pub hand_seen : Option Hand → List (List ℕ × ℕ) → Option InHand
hand_seen hand files = option_map (seen_with files) hand
