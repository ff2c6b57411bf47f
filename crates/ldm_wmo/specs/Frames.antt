-- Frames of messages (WMO No. 386, Manual on the GTS, attachment II-15: eight digits of length, two letters of type, and the message).
use Rattle.std.specs.Prelude.{ℕ, ◌-◌, Bool, ◌==◌, ◌&&◌, nat_le, if◌then◌else◌, List, length, take, drop, slice_index, codes, Option, Some, None, option_map}
use Rattle.std.specs.List.{list_all}
use Rattle.std.specs.Str.{bytes_eq}
use Rattle.ldm_wmo.specs.declared.kind.Kind.{Kind}
use Rattle.ldm_wmo.specs.declared.kind.Kind.TheVariants.{Alphanumeric, Binary, Facsimile}
use Rattle.ldm_wmo.specs.declared.stage.TheConstants.{LARGEST_BULLETIN}
use Rattle.ldm_wmo.specs.Headings.{is_digit}
use Rattle.ldm_wmo.specs.Lines.{number_of}

-- what the ten bytes before a message say
pub record Head : Type 0 where
  pub size : ℕ
  pub kind : Kind

abbrev pub kind_of : List ℕ → Option Kind
kind_of letters =
    if bytes_eq letters (codes "AN") then Some Alphanumeric
    else if bytes_eq letters (codes "BI") then Some Binary
    else if bytes_eq letters (codes "FX") then Some Facsimile
    else None

-- the digits of a length: a message has some bytes, and no more than a bulletin may have
abbrev pub is_size : List ℕ → Bool
is_size digits = list_all is_digit digits && (nat_le 1 (number_of digits) && nat_le (number_of digits) LARGEST_BULLETIN)

-- the head that ten bytes are, if they are one
unfoldable pub head_of : List ℕ → Option Head
head_of bytes =
    if is_size (take 8 bytes) then option_map (λ kind. record { size = number_of (take 8 bytes); kind = kind }) (kind_of (drop 8 bytes))
    else None

-- with which a file of messages ends, in place of a head
abbrev pub file_end : List ℕ
file_end = codes "00000000"

-- a message of the right length begins with a 1, and ends with a 3
unfoldable pub is_enclosed : List ℕ → Bool
is_enclosed bytes = slice_index bytes 0 == 1 && slice_index bytes (length bytes - 1) == 3
