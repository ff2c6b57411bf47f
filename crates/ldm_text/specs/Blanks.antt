-- Blanks, and what a text begins with.
use Rattle.std.specs.Prelude.{ℕ, Bool, false, ◌==◌, ◌||◌, List, [], ◌∷◌}

-- space (32) or tab (9)
abbrev pub is_blank : ℕ → Bool
is_blank byte = byte == 32 || byte == 9

-- a text begins with that byte
abbrev pub begins_with : ℕ → List ℕ → Bool
begins_with byte [] = false
begins_with byte (first ∷ rest) = first == byte

-- a text begins with a blank
abbrev pub begins_in_blank : List ℕ → Bool
begins_in_blank [] = false
begins_in_blank (byte ∷ bytes) = is_blank byte
