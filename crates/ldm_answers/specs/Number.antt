-- Numbers in text: decimal digits without a sign or a leading zero, `0` itself apart.
use Rattle.std.specs.Prelude.{ℕ, ◌+◌, ◌-◌, ◌*◌, ◌^◌, Bool, ◌&&◌, ◌==◌, nat_le, nat_lt, List, [], ◌∷◌, length, Option, Some, None, if◌then◌else◌}
use Rattle.ldm_types.specs.declared.limits.TheConstants.{GREATEST_INSTANT}

abbrev pub is_digit : ℕ → Bool
is_digit byte = nat_le 48 byte && nat_le byte 57

-- the number that these digits spell behind others that spell n
abbrev pub digits_from : ℕ → List ℕ → Option ℕ
digits_from n [] = Some n
digits_from n (byte ∷ bytes) = if is_digit byte then digits_from (10 * n + (byte - 48)) bytes else None

-- a number, unless it is above the greatest
abbrev pub up_to : ℕ → Option ℕ → Option ℕ
up_to most None = None
up_to most (Some n) = if nat_le n most then Some n else None

-- a number, unless it is not below the limit
abbrev pub below : ℕ → Option ℕ → Option ℕ
below limit None = None
below limit (Some n) = if nat_lt n limit then Some n else None

-- the number, at most that one, that a text spells
abbrev pub number_up_to : ℕ → List ℕ → Option ℕ
number_up_to most [] = None
number_up_to most (byte ∷ bytes) =
    if byte == 48 && nat_le 1 (length bytes) then None else up_to most (digits_from 0 (byte ∷ bytes))

-- the number, below that one, that a text spells
abbrev pub number_below : ℕ → List ℕ → Option ℕ
number_below limit [] = None
number_below limit (byte ∷ bytes) =
    if byte == 48 && nat_le 1 (length bytes) then None else below limit (digits_from 0 (byte ∷ bytes))

-- a number of four bytes
abbrev pub four_bytes : List ℕ → Option ℕ
four_bytes field = number_up_to (2 ^ 32 - 1) field

-- an instant, in microseconds
abbrev pub instant_of : List ℕ → Option ℕ
instant_of field = number_up_to GREATEST_INSTANT field
