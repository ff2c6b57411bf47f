-- The text of a set of feedtypes.
use Rattle.std.specs.Prelude.{ℕ, zero, suc, ◌/◌, ◌%◌, List, [], ◌∷◌, ◌++◌}
use Rattle.std.specs.Char.{digit_char}

-- so many hexadecimal digits of a number, in lower case, the lowest last
unfoldable pub hex_digits : ℕ → ℕ → List ℕ
hex_digits zero n = []
hex_digits (suc count) n = hex_digits count (n / 16) ++ digit_char (n % 16) ∷ []

-- `0x` and eight digits
abbrev pub feed_digits : ℕ → List ℕ
feed_digits feed = 48 ∷ 120 ∷ hex_digits 8 feed
