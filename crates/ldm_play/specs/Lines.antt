-- Which lines of a script are known before its end.
use Rattle.std.specs.Prelude.{ℕ, nat_lt, List, [], ◌∷◌, ◌++◌, length, Bool, true, false, if◌then◌else◌}
use Rattle.ldm_script.specs.declared.line.TheConstants.{LONGEST_LINE}
use Rattle.ldm_script.specs.Lines.{cut, whole_lines, lines_of}

-- a line that is too long already, though its end was not seen
abbrev pub too_long : List ℕ → List (List ℕ)
too_long unfinished = if nat_lt LONGEST_LINE (length unfinished) then unfinished ∷ [] else []

-- The lines of which something is known after these bytes of a script: all of them, where the script ended there;
-- else those that ended, and one that is too long already.
abbrev pub known_lines : Bool → List ℕ → List (List ℕ)
known_lines true script = lines_of script
known_lines false script = whole_lines script ++ too_long (cut script).unfinished
