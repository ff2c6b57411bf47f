-- The lines of a text: its parts between newlines.
use Rattle.std.specs.Prelude.{ℕ, ◌==◌, List, [], ◌∷◌, ◌++◌, if◌then◌else◌}

-- a text cut at its newlines: the lines that end in one, and what stands behind the last
pub record Cut : Type 0 where
  pub lines : List (List ℕ)
  pub unfinished : List ℕ

-- a byte in front of a text that is cut: it begins the first line, or what is unfinished
abbrev pub onto_line : ℕ → List (List ℕ) → List ℕ → Cut
onto_line byte [] unfinished = record { lines = []; unfinished = byte ∷ unfinished }
onto_line byte (line ∷ lines) unfinished = record { lines = (byte ∷ line) ∷ lines; unfinished = unfinished }

abbrev pub cut : List ℕ → Cut
cut [] = record { lines = []; unfinished = [] }
cut (byte ∷ bytes) =
    if byte == 10
    then record { lines = [] ∷ (cut bytes).lines; unfinished = (cut bytes).unfinished }
    else onto_line byte (cut bytes).lines (cut bytes).unfinished

-- the lines that end in a newline
abbrev pub whole_lines : List ℕ → List (List ℕ)
whole_lines text = (cut text).lines

-- a last line that is not empty counts, though no newline ends it
abbrev pub last_line : List ℕ → List (List ℕ)
last_line [] = []
last_line (byte ∷ bytes) = (byte ∷ bytes) ∷ []

-- the lines of a text
abbrev pub lines_of : List ℕ → List (List ℕ)
lines_of text = whole_lines text ++ last_line (cut text).unfinished
