-- What a `Line` and the `Lines` of the code stand for.
use Rattle.std.specs.Prelude.{ℕ, ◌+◌, List}
use Rattle.ldm_conf.specs.declared.lines.Line as code
use Rattle.ldm_conf.specs.declared.lines.Lines.{Lines}
use Rattle.ldm_text.specs.Lines.{length_left, lines_left}
use Rattle.ldm_conf.specs.Reading.{Line, numbered}

abbrev pub line_view : code.Line → Line
line_view line = record { file = line.file; depth = line.depth; number = line.number; text = line.text.now }

-- the lines that are left
abbrev pub left_of : Lines → List Line
left_of lines = numbered lines.file lines.depth lines.next (lines_left lines.rest)

-- a number that no number of a line that is left exceeds
abbrev pub room_of : Lines → ℕ
room_of lines = lines.next + length_left lines.rest
