-- What a whole stream holds, as a computation: the items of a scanner that takes it byte by byte, and what is left open.
use Rattle.std.specs.Prelude.{ℕ, List, [], ◌∷◌, ◌++◌, if◌then◌else◌, Option}
use Rattle.std.specs.Option.{option_to_list}
use Rattle.ldm_wmo.specs.declared.framing.Framing.{Framing}
use Rattle.ldm_wmo.specs.Items.{Found}
use Rattle.ldm_wmo.specs.Scanning.{Scanning, after_byte, begun, cut_of, item_of, next_of, takes}

-- the item of the candidate that has ended, if there is one
abbrev pub given : Scanning → List Found
given s = option_to_list (item_of s)

-- One more byte, and a candidate that has ended is forgotten. A 1 that ended it begins the next one.
abbrev pub passed : Scanning → ℕ → Scanning
passed s byte =
    let t = next_of (after_byte s byte) in
    if takes s byte then t else after_byte t byte

-- the items that these bytes complete
unfoldable pub items_in : Scanning → List ℕ → List Found
items_in s [] = []
items_in s (byte ∷ bytes) = given (after_byte s byte) ++ items_in (passed s byte) bytes

-- what is in hand behind them
unfoldable pub in_hand : Scanning → List ℕ → Scanning
in_hand s [] = s
in_hand s (byte ∷ bytes) = in_hand (passed s byte) bytes

-- the items of a whole stream of that framing
abbrev pub items_of : Framing → List ℕ → List Found
items_of framing stream = items_in (begun framing) stream

-- where the candidate or the frame begins that a stream's end leaves open
abbrev pub cut_at_end : Framing → List ℕ → Option ℕ
cut_at_end framing stream = cut_of (in_hand (begun framing) stream)
