-- Lines, and the entries that they join to.
use Rattle.std.specs.Prelude.{ℕ, ◌+◌, Bool, ◌||◌, if◌then◌else◌, List, [], ◌∷◌, ◌++◌, Option, Some, None}
use Rattle.std.specs.List.{list_all}
use Rattle.ldm_text.specs.Blanks.{begins_with, is_blank}

-- a comment line, which begins with `#` (35), or blanks and tabs alone
abbrev pub is_skipped : List ℕ → Bool
is_skipped line = begins_with 35 line || list_all is_blank line

-- it begins with a tab
abbrev pub is_continuation : List ℕ → Bool
is_continuation line = begins_with 9 line

-- an entry: the number of its first line, and its lines joined
pub record Raw : Type 0 where
  pub line : ℕ
  pub text : List ℕ

-- what the lines behind the first line of an entry add to it: up to the next entry, each that begins with a tab
abbrev pub added : List (List ℕ) → List ℕ
added [] = []
added (line ∷ lines) =
    if is_skipped line then added lines
    else if is_continuation line then line ++ added lines
    else []

-- the entries of lines, the first of which has that number
abbrev pub raw_entries : ℕ → List (List ℕ) → List Raw
raw_entries n [] = []
raw_entries n (line ∷ lines) =
    if is_skipped line then raw_entries (n + 1) lines
    else if is_continuation line then raw_entries (n + 1) lines
    else record { line = n; text = line ++ added lines } ∷ raw_entries (n + 1) lines

-- the line that begins with a tab before any entry, if there is one
abbrev pub stray : ℕ → List (List ℕ) → Option ℕ
stray n [] = None
stray n (line ∷ lines) =
    if is_skipped line then stray (n + 1) lines
    else if is_continuation line then Some n
    else None
