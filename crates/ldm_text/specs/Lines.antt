-- The lines of a text, one after another.
use Rattle.std.specs.Prelude.{◌≡◌, ℕ, ◌+◌, ◌<◌, ◌==◌, List, [], ◌∷◌, length, Option, Some, None}
use Rattle.std.specs.Borrow.{Bor}
use Rattle.std.specs.List.{slice_split}

-- the lines of a text, without the newlines (10) between them: what stands behind the last newline is a line, even where it is empty
abbrev pub lines_of : List ℕ → List (List ℕ)
lines_of text = slice_split (λ byte. byte == 10) text

-- what is left of a text is lines, or no line
abbrev pub lines_left : Option (Bor (List ℕ)) → List (List ℕ)
lines_left None = []
lines_left (Some rest) = lines_of rest.now

-- how much is left of a text
abbrev pub length_left : Option (Bor (List ℕ)) → ℕ
length_left None = 0
length_left (Some rest) = length rest.now + 1

-- a text is its first line and what is left
pub record Splits (text line : List ℕ) (behind : Option (Bor (List ℕ))) : Type 0 where
  pub lines : lines_of text ≡ line ∷ lines_left behind
  pub shorter : length_left behind < length text + 1
