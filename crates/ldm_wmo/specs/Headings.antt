-- Abbreviated headings (WMO No. 386, Manual on the GTS, attachment II-5: TTAAii CCCC YYGGgg, and perhaps BBB).
use Rattle.std.specs.Prelude.{◌≡◌, ℕ, Bool, true, false, ◌==◌, ◌&&◌, ◌||◌, nat_le, if◌then◌else◌, List, [], ◌∷◌, ◌⊎◌, codes}

-- `A` to `Z`
abbrev pub is_letter : ℕ → Bool
is_letter byte = nat_le 65 byte && nat_le byte 90

-- `0` to `9`
abbrev pub is_digit : ℕ → Bool
is_digit byte = nat_le 48 byte && nat_le byte 57

-- What a symbol of the standard's notation stands for: T, A and B for a letter, C for a letter or a digit, i, Y, G and g for
-- a digit, and a space for itself.
abbrev pub stands_for : ℕ → ℕ → Bool
stands_for symbol byte =
    if symbol == 84 || symbol == 65 || symbol == 66 then is_letter byte
    else if symbol == 67 then is_letter byte || is_digit byte
    else if symbol == 32 then byte == 32
    else is_digit byte

-- the bytes are as these symbols say, one for one
unfoldable pub fits : List ℕ → List ℕ → Bool
fits [] [] = true
fits [] (byte ∷ bytes) = false
fits (symbol ∷ symbols) [] = false
fits (symbol ∷ symbols) (byte ∷ bytes) = stands_for symbol byte && fits symbols bytes

-- a heading without an indicator: the data designators, the station, and the day of the month and time
abbrev pub short_form : List ℕ
short_form = codes "TTAAii CCCC YYGGgg"

-- a heading with an indicator, as of a correction or an amendment
abbrev pub long_form : List ℕ
long_form = codes "TTAAii CCCC YYGGgg BBB"

abbrev pub is_heading : List ℕ → Bool
is_heading heading = fits short_form heading || fits long_form heading
