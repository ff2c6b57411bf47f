-- The line of a file that is not sent.
use Rattle.std.specs.Prelude.{ℕ, List, codes}

-- the line of a file that is too long
abbrev pub too_long_line : List ℕ
too_long_line = codes "toolong\n"
