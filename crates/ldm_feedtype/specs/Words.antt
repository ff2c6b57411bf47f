-- What a word means: a name of a feedtype, or a number.
use Rattle.std.specs.Prelude.{ℕ, ◌+◌, ◌*◌, ◌^◌, ◌==◌, ◌&&◌, nat_lt, if◌then◌else◌, List, [], ◌∷◌, Option, Some, None, Result, Ok, Err}
use Rattle.std.specs.Option.{ok_or}
use Rattle.std.specs.Char.{digit_value, is_ascii_alphabetic, is_ascii_digit}
use Rattle.std.specs.Str.{str_eq_ignore_ascii_case}
use Rattle.ldm_feedtype.specs.declared.fault.FeedFault.{FeedFault}
use Rattle.ldm_feedtype.specs.declared.fault.FeedFault.TheVariants.{Unknown, Syntax, Range}
use Rattle.ldm_feedtype.specs.Names.{feed_names}

-- the value behind the first name that is the word, whatever the case of the letters
abbrev pub lookup : List (List ℕ × ℕ) → List ℕ → Option ℕ
lookup [] word = None
lookup (row ∷ rows) word = if str_eq_ignore_ascii_case row.0 word then Some row.1 else lookup rows word

-- the value of a name
abbrev pub named : List ℕ → Option ℕ
named word = lookup feed_names word

-- a number that begins at that place, if it has 32 bits
abbrev pub within : ℕ → ℕ → Result ℕ FeedFault
within at n = if nat_lt n (2 ^ 32) then Ok n else Err (Range at)

-- the fault of a byte that continues no number, behind one that begins at `at` and so far is n
abbrev pub ended : ℕ → ℕ → Result ℕ FeedFault → Result ℕ FeedFault
ended at place (Ok n) = Err (Syntax place)
ended at place (Err fault) = Err fault

-- the number whose digits so far spell n, with the digits from that place on
abbrev pub numeral : ℕ → ℕ → ℕ → ℕ → List ℕ → Result ℕ FeedFault
numeral radix at place n [] = within at n
numeral radix at place n (byte ∷ rest) =
    if nat_lt (digit_value byte) radix
    then numeral radix at (place + 1) (n * radix + digit_value byte) rest
    else ended at place (within at n)

-- what follows `0x`: one or more hexadecimal digits
abbrev pub hexadecimal : ℕ → List ℕ → Result ℕ FeedFault
hexadecimal at [] = Err (Syntax (at + 2))
hexadecimal at (digit ∷ digits) = numeral 16 at (at + 2) 0 (digit ∷ digits)

-- a number, by its first digit and what follows that: behind `0x` (48 and 120) it is hexadecimal, else decimal
abbrev pub number : ℕ → ℕ → List ℕ → Result ℕ FeedFault
number at first [] = numeral 10 at at 0 (first ∷ [])
number at first (second ∷ digits) =
    if first == 48 && second == 120 then hexadecimal at digits else numeral 10 at at 0 (first ∷ second ∷ digits)

-- the value of a word at that place: a name begins with a letter, and a number with a digit
abbrev pub word_value : ℕ → List ℕ → Result ℕ FeedFault
word_value at [] = Err (Syntax at)
word_value at (byte ∷ rest) =
    if is_ascii_alphabetic byte then ok_or (named (byte ∷ rest)) (Unknown at)
    else if is_ascii_digit byte then number at byte rest
    else Err (Syntax at)
