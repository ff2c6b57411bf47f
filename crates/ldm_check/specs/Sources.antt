-- What the lines of a file stand for that are left. No caller needs it.
use Rattle.std.specs.Prelude.{ℕ, ◌+◌, ◌<◌, ◌≤◌, List}
use Rattle.ldm_text.specs.Lines.{length_left, lines_left}
use Rattle.ldm_text.specs.declared.limits.TheConstants.{LONGEST_CONFIGURATION}
use Rattle.ldm_check.specs.declared.source.Line as code
use Rattle.ldm_check.specs.declared.source.Lines.{Lines}
use Rattle.ldm_check.specs.ConfFaults.{Line, numbered}

-- a line of the file under a path to which so many INCLUDE lines lead
abbrev pub line_in : List ℕ → ℕ → code.Line → Line
line_in path depth line = record { path = path; depth = depth; number = line.number; text = line.text.now }

-- the lines that are left of the file under a path
abbrev pub left_of : List ℕ → Lines → List Line
left_of path lines = numbered path lines.depth lines.next (lines_left lines.rest)

-- what is left is no longer than a file may be, and no number exceeds what a file may have
abbrev pub Fits : Lines → Type 0
Fits lines = (0 < lines.next) × (lines.next + length_left lines.rest ≤ LONGEST_CONFIGURATION + 2)
