-- The log lines of losses.
use Rattle.std.specs.Prelude.{ℕ, List, []}
use Rattle.std.specs.List.{flat_map}
use Rattle.ldm_shared.specs.Givens.{Gave, Lost, Turn}
use Rattle.ldm_session.specs.Gaps.{gap_line}

abbrev pub turn_lines : List ℕ → Turn → List ℕ
turn_lines name (Lost count first last) = gap_line name count first last
turn_lines name (Gave given) = []

-- a log line for each loss
abbrev pub lines_of : List ℕ → List Turn → List ℕ
lines_of name turns = flat_map (turn_lines name) turns
