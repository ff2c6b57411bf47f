-- The two lines that a bulletin begins with, each up to its first carriage return (13).
use Rattle.std.specs.Prelude.{ℕ, ◌+◌, ◌-◌, ◌*◌, Bool, ◌==◌, ◌&&◌, nat_le, if◌then◌else◌, List, [], ◌∷◌, length, take, drop, Option, Some, None}
use Rattle.std.specs.List.{list_all, position_or_len, prefix_len}
use Rattle.std.specs.Str.{bytes_eq}
use Rattle.ldm_text.specs.Blanks.{is_blank}
use Rattle.ldm_wmo.specs.Headings.{fits, is_digit, long_form, short_form}

-- what stands behind that front, with which the bytes begin
abbrev pub behind : List ℕ → List ℕ → Option (List ℕ)
behind front bytes = if bytes_eq (take (length front) bytes) front then Some (drop (length front) bytes) else None

-- two carriage returns and a line feed
abbrev pub end_of_line : List ℕ
end_of_line = 13 ∷ 13 ∷ 10 ∷ []

-- how many bytes a line has
abbrev pub line_length : List ℕ → ℕ
line_length bytes = position_or_len (λ byte. byte == 13) bytes

-- the first line
abbrev pub line_of : List ℕ → List ℕ
line_of bytes = take (line_length bytes) bytes

-- what stands behind the end of the first line
abbrev pub rest_of : List ℕ → Option (List ℕ)
rest_of bytes = behind end_of_line (drop (line_length bytes) bytes)

-- the number that digits spell, behind others that spell this number
unfoldable pub number_from : ℕ → List ℕ → ℕ
number_from value [] = value
number_from value (digit ∷ digits) = number_from (value * 10 + (digit - 48)) digits

abbrev pub number_of : List ℕ → ℕ
number_of digits = number_from 0 digits

-- a line of so many digits at its front has one to five, and then any spaces and tabs
abbrev pub is_numbered : ℕ → List ℕ → Bool
is_numbered count line = nat_le 1 count && nat_le count 5 && list_all is_blank (drop count line)

-- the number of a line of one to five digits and then any spaces and tabs
unfoldable pub number_in : List ℕ → Option ℕ
number_in line =
    let count = prefix_len is_digit line in
    if is_numbered count line then Some (number_of (take count line)) else None

-- a line is bytes of that form, so many, and then any spaces and tabs
abbrev pub begins_so : List ℕ → ℕ → List ℕ → Bool
begins_so form count line = fits form (take count line) && list_all is_blank (drop count line)

-- the heading of a line of a heading and then any spaces and tabs
unfoldable pub heading_in : List ℕ → Option (List ℕ)
heading_in line =
    if begins_so long_form 22 line then Some (take 22 line)
    else if begins_so short_form 18 line then Some (take 18 line)
    else None
