-- The parts of a text. Blanks stand between parts and are none.
use Rattle.std.specs.Prelude.{ℕ, suc, ◌+◌, Bool, false, ◌==◌, ◌||◌, if◌then◌else◌, List, [], ◌∷◌}
use Rattle.std.specs.Char.{is_ascii_alphanumeric}

pub data Part : Type 0 where
  -- a maximal run of letters, digits and `_`, and the place of its first byte
  Word : (at : ℕ) → (bytes : List ℕ) → Part
  -- any other byte, and its place
  Mark : (at : ℕ) → (byte : ℕ) → Part

-- space or tab
abbrev pub is_blank : ℕ → Bool
is_blank byte = byte == 32 || byte == 9

-- a letter, a digit or `_`
abbrev pub is_word_byte : ℕ → Bool
is_word_byte byte = is_ascii_alphanumeric byte || byte == 95

abbrev pub begins_in_word : List ℕ → Bool
begins_in_word [] = false
begins_in_word (byte ∷ rest) = is_word_byte byte

-- a byte in front of the word that follows it
abbrev pub longer : ℕ → ℕ → List Part → List Part
longer at byte [] = []
longer at byte (Word _ bytes ∷ behind) = Word at (byte ∷ bytes) ∷ behind
longer at byte (Mark place mark ∷ behind) = Mark place mark ∷ behind

-- the parts of a text whose first byte has that place
abbrev pub parts : ℕ → List ℕ → List Part
parts at [] = []
parts at (byte ∷ rest) =
    if is_blank byte then parts (at + 1) rest
    else if is_word_byte byte
    then (if begins_in_word rest then longer at byte (parts (at + 1) rest) else Word at (byte ∷ []) ∷ parts (at + 1) rest)
    else Mark at byte ∷ parts (at + 1) rest

-- how many word bytes a text begins with
abbrev pub word_length : List ℕ → ℕ
word_length [] = 0
word_length (byte ∷ rest) = if is_word_byte byte then suc (word_length rest) else 0
