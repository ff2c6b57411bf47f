-- What calls say that read and write texts.
use Rattle.std.specs.Prelude.{◌≡◌, ℕ, ◌<◌, ◌≤◌, List, [], ◌∷◌, length, drop, Option, Some, None, IsSome, MatchOption, unwrap_or}
use Rattle.ldm_answers.specs.declared.texts.Spelled.{Spelled}
use Rattle.ldm_answers.specs.declared.texts.Spelled.TheVariants.{Itself, Coded}
use Rattle.ldm_answers.specs.Texts.{text_up_to, with_byte, unspelled}

-- the bytes that a field stands for were found; or there are none, or more than so many
abbrev pub IsUnspelled : ℕ → Option (List ℕ) → Option (List ℕ) → Type 0
IsUnspelled most meant (Some text) = (meant ≡ Some text) × (length text ≤ most)
IsUnspelled most meant None = MatchOption meant (Unit {0}) (λ text. most < length text)

-- the byte that stands at a place of a field, with the place behind it: what is unspelled from there on begins with it
abbrev pub GivesByte : List ℕ → ℕ → Option (ℕ × ℕ) → Type 0
GivesByte field at None = unspelled (drop at field) ≡ None
GivesByte field at (Some (byte, next)) =
    (at < next) × (next ≤ length field) × (unspelled (drop at field) ≡ with_byte (Some (byte ∷ [])) (unspelled (drop next field)))

-- the text, of at most so many bytes, that was found in a field
abbrev pub text_of : ℕ → Spelled → List ℕ
text_of most (Itself text) = text.now
text_of most (Coded field) = unwrap_or (text_up_to most field.now) []

-- A text that a line can spell, of at most so many bytes.
abbrev pub IsText : ℕ → Spelled → Type 0
IsText most (Itself text) = length text.now ≤ most
IsText most (Coded field) = IsSome (text_up_to most field.now)
