-- Texts in lines: origins and idents.
use Rattle.std.specs.Prelude.{ℕ, ◌==◌, Bool, not, ◌&&◌, nat_le, List, [], ◌∷◌, ◌++◌, length, codes, bytes_eq, Option, Some, None, if◌then◌else◌}
use Rattle.std.specs.List.{flat_map, list_any}
use Rattle.std.specs.Result.{result_ok}
use Rattle.hex.specs.Hex.{encode_lower, encode_upper, decode_sized}

-- a byte that stands for itself: 0x21 to 0x7E, `%` apart
abbrev pub is_plain : ℕ → Bool
is_plain byte = nat_le 33 byte && nat_le byte 126 && not (byte == 37)

-- a byte of a text: another one is `%` and two upper-case hexadecimal digits
abbrev pub spelled_byte : ℕ → List ℕ
spelled_byte byte = if is_plain byte then byte ∷ [] else 37 ∷ encode_upper (byte ∷ [])

-- how a text is spelled: `-` is the empty one, so the text `-` is spelled by its number
abbrev pub spelled : List ℕ → List ℕ
spelled [] = codes "-"
spelled (byte ∷ bytes) = if bytes_eq (byte ∷ bytes) (codes "-") then codes "%2D" else flat_map spelled_byte (byte ∷ bytes)

-- the bytes that a field stands for, where `%` and two hexadecimal digits stand for one
abbrev pub with_byte : Option (List ℕ) → Option (List ℕ) → Option (List ℕ)
with_byte None rest = None
with_byte (Some bytes) None = None
with_byte (Some bytes) (Some rest) = Some (bytes ++ rest)

abbrev pub unspelled : List ℕ → Option (List ℕ)
unspelled [] = Some []
unspelled (byte ∷ []) = if byte == 37 then None else Some (byte ∷ [])
unspelled (byte ∷ next ∷ []) = if byte == 37 then None else with_byte (Some (byte ∷ [])) (unspelled (next ∷ []))
unspelled (byte ∷ high ∷ low ∷ rest) =
    if byte == 37
    then with_byte (result_ok (decode_sized (high ∷ low ∷ []) 1)) (unspelled rest)
    else with_byte (Some (byte ∷ [])) (unspelled (high ∷ low ∷ rest))

-- a text without a zero byte, of at most so many bytes, that is spelled by this field and by no other
abbrev pub if_text : ℕ → List ℕ → Option (List ℕ) → Option (List ℕ)
if_text most field None = None
if_text most field (Some text) =
    if bytes_eq (spelled text) field && nat_le (length text) most && not (list_any (λ byte. byte == 0) text) then Some text else None

-- the text, of at most so many bytes, that a field spells
abbrev pub text_up_to : ℕ → List ℕ → Option (List ℕ)
text_up_to most field = if bytes_eq field (codes "-") then Some [] else if_text most field (unspelled field)

-- how a body is spelled: `-` for no bytes, or digits
abbrev pub body_text : List ℕ → List ℕ
body_text [] = codes "-"
body_text (byte ∷ bytes) = encode_lower (byte ∷ bytes)
