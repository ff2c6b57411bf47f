-- Bodies in lines.
use Rattle.std.specs.Prelude.{ℕ, ◌/◌, ◌==◌, List, [], ◌∷◌, length, replicate, codes, bytes_eq, Option, Some, None, if◌then◌else◌}
use Rattle.std.specs.List.{slice_split}
use Rattle.std.specs.Result.{result_ok}
use Rattle.hex.specs.Hex.{decode_sized}
use Rattle.ldm_script.specs.declared.body.TheConstants.{LONGEST_BODY}
use Rattle.ldm_answers.specs.Number.{number_up_to}

-- the bytes that hexadecimal digits of either case spell, two each
abbrev pub digits_of : List ℕ → Option (List ℕ)
digits_of field = result_ok (decode_sized field (length field / 2))

-- so many times one byte
abbrev pub filled : Option ℕ → Option (List ℕ) → Option (List ℕ)
filled (Some count) (Some (byte ∷ [])) = Some (replicate count byte)
filled _ _ = None

-- a field by its parts at `*`: digits; or a number, `*` and two digits
abbrev pub body_of_parts : List (List ℕ) → Option (List ℕ)
body_of_parts (digits ∷ []) = digits_of digits
body_of_parts (count ∷ byte ∷ []) = filled (number_up_to LONGEST_BODY count) (result_ok (decode_sized byte 1))
body_of_parts _ = None

-- the body that a field spells: `-` for no bytes, an even number of digits that is not 0, or `COUNT*HH`
abbrev pub body_of : List ℕ → Option (List ℕ)
body_of [] = None
body_of (byte ∷ bytes) =
    if bytes_eq (byte ∷ bytes) (codes "-") then Some [] else body_of_parts (slice_split (λ b. b == 42) (byte ∷ bytes))
