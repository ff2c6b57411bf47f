-- The lines that `check` writes of faults.
use Rattle.std.specs.Prelude.{ℕ, ◌++◌, ◌==◌, if◌then◌else◌, List, [], ◌∷◌, codes, decimal, length, map, take}
use Rattle.ldm_outside.specs.Putting.{shown}
use Rattle.ldm_check.specs.declared.lines.TheConstants.{LONGEST_SHOWN}

-- what stands in the file, behind what is wrong: the front of the line, if it is not empty
abbrev pub text_behind : List ℕ → List ℕ
text_behind text = if length text == 0 then [] else codes ": " ++ map shown (take LONGEST_SHOWN text)

-- `FILE:LINE: what is wrong: TEXT`, with a newline (10)
abbrev pub fault_line : List ℕ → ℕ → List ℕ → List ℕ → List ℕ
fault_line path number words text =
    map shown path ++ codes ":" ++ decimal number ++ codes ": " ++ words ++ text_behind text ++ 10 ∷ []

-- `FILE: what is wrong`, of a whole file
abbrev pub file_line : List ℕ → List ℕ → List ℕ
file_line path words = map shown path ++ codes ": " ++ words ++ 10 ∷ []

-- the line of a file that was not read, by the reason of the store, which names the file; or, where it gives none, by the path
abbrev pub unread_line : List ℕ → List ℕ → List ℕ
unread_line path [] = file_line path (codes "the file cannot be read")
unread_line path (byte ∷ bytes) = (byte ∷ bytes) ++ 10 ∷ []
