-- The fields of a record, read one behind another (XDR, RFC 4506).
--
-- A record that is being read is the bytes that are left of it. A field is its value and the bytes behind it. Where it
-- cannot be read, that is told by how many bytes there are from that place to the end of the record: from the field's
-- first byte, and for a byte of padding from the byte itself.
use Rattle.std.specs.Prelude.{ℕ, ◌-◌, List, [], ◌∷◌, length, take, drop, Option, Some, None, Result, Ok, Err, nat_lt, ◌==◌, position, if◌then◌else◌}
use Rattle.std.specs.Int.{Width, w32, byte_len, from_be_bytes}
use Rattle.ldm_types.specs.Info.{pad4}

infixl 10 ◌>>=◌
abbrev pub ◌>>=◌ : {A B E : Type 0} → Result A E → (A → Result B E) → Result B E
(Ok x) >>= f = f x
(Err fault) >>= f = Err fault

-- a number of a width, the highest byte first (sections 4.2 and 4.5)
unfoldable pub number_in : Width → List ℕ → Result (ℕ × List ℕ) ℕ
number_in width left =
    if nat_lt (length left) (byte_len width) then Err (length left)
    else Ok (from_be_bytes width (take (byte_len width) left), drop (byte_len width) left)

abbrev pub unsigned_in : List ℕ → Result (ℕ × List ℕ) ℕ
unsigned_in left = number_in w32 left

-- a number of four bytes, at most so great
unfoldable pub up_to_in : ℕ → List ℕ → Result (ℕ × List ℕ) ℕ
up_to_in most left = do
  number ← unsigned_in left
  if nat_lt most number.0 then Err (length left) else Ok number

-- a number of four bytes that is given
unfoldable pub exactly_in : ℕ → List ℕ → Result (ℕ × List ℕ) ℕ
exactly_in given left = do
  number ← unsigned_in left
  if number.0 == given then Ok number else Err (length left)

-- bytes whose padding has no byte that is not zero, or has one at a place of the padding
abbrev pub unless_found : Option ℕ → ℕ → List ℕ → List ℕ → Result (List ℕ × List ℕ) ℕ
unless_found None padding bytes left = Ok (bytes, left)
unless_found (Some place) padding bytes left = Err (padding - place)

-- so many bytes with their padding up to a multiple of four (section 4.9), or else how much was left at their field
unfoldable pub padded_in : ℕ → ℕ → List ℕ → Result (List ℕ × List ℕ) ℕ
padded_in field count left =
    if nat_lt (length left) (pad4 count) then Err field
    else unless_found (position (λ byte. nat_lt 0 byte) (take (pad4 count - count) (drop count left))) (length left - count) (take count left) (drop (pad4 count) left)

-- a fixed opaque of so many bytes (section 4.9)
abbrev pub fixed_in : ℕ → List ℕ → Result (List ℕ × List ℕ) ℕ
fixed_in count left = padded_in (length left) count left

-- an opaque of at most so many bytes (section 4.10)
unfoldable pub opaque_in : ℕ → List ℕ → Result (List ℕ × List ℕ) ℕ
opaque_in most left = do
  count ← up_to_in most left
  padded_in (length left) count.0 count.1

-- an opaque of at most so many bytes, whatever its bytes and its padding are: what is behind it
unfoldable pub passed_in : ℕ → List ℕ → Result (List ℕ) ℕ
passed_in most left = do
  count ← up_to_in most left
  if nat_lt (length count.1) (pad4 count.0) then Err (length left) else Ok (drop (pad4 count.0) count.1)

-- nothing may be left
abbrev pub no_more : List ℕ → Result (Unit {0}) ℕ
no_more [] = Ok tt
no_more (byte ∷ bytes) = Err (length (byte ∷ bytes))
