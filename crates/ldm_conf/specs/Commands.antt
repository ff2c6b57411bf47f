-- The command of an EXEC line.
use Rattle.std.specs.Prelude.{ℕ, Bool, ◌==◌, ◌&&◌, not, List, length, filter}
use Rattle.std.specs.List.{list_all, slice_split}
use Rattle.std.specs.Str.{is_utf8}
use Rattle.ldm_text.specs.Blanks.{is_blank}

-- the parts of a command: the runs of its bytes between blanks and tabs
unfoldable pub parts_of : List ℕ → List (List ℕ)
parts_of command = filter (λ part. not (length part == 0)) (slice_split is_blank command)

-- a command is UTF-8 and has a part, which is where some byte is no blank
abbrev pub is_command : List ℕ → Bool
is_command command = is_utf8 command && not (list_all is_blank command)
