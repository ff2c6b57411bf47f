-- Where a pattern is found in a text: the patterns and the search are those of `regex` on bytes.
use Rattle.std.specs.Prelude.{ℕ, Bool, false, nat_le, List, Option, Some, None, is_some, IsSomeAnd, if◌then◌else◌}
use Rattle.std.specs.Str.{chars, is_utf8}
use Rattle.regex.specs.Patterns.{Re, Config, SameCaptures, default_config, find}
use Rattle.regex_syntax.specs.Brackets.{Nested}
use Rattle.regex_syntax.specs.Grammar.{Names, read}

-- the options of `regex`: all as they are by default, but that a pattern may match bytes that are no text
abbrev pub byte_config : Config
byte_config = record default_config { utf8 = false }

-- the tree that was read, if it is nested no deeper than the options allow
abbrev pub if_shallow : Option (Nested Re × Names) → Option Re
if_shallow None = None
if_shallow (Some (tree, names)) = if nat_le tree.depth byte_config.nest_limit then Some tree.value else None

-- what a pattern means. None where it is not UTF-8, where the grammar reads no pattern in it, or where it nests too deep
unfoldable pub pattern_meaning : List ℕ → Option Re
pattern_meaning pattern = if is_utf8 pattern then if_shallow (read byte_config (chars pattern)) else None

-- a tree matches what a pattern means, with the same captures
abbrev pub IsMeantBy : List ℕ → Re → Type 0
IsMeantBy pattern re = IsSomeAnd (pattern_meaning pattern) (SameCaptures re)

-- whether a match of what a pattern means begins somewhere in a text
abbrev pub is_found : Option Re → List ℕ → Bool
is_found None text = false
is_found (Some re) text = is_some (find re text 0)

-- whether a pattern is found in a text. What is no pattern is found in none.
unfoldable pub found : List ℕ → List ℕ → Bool
found pattern text = is_found (pattern_meaning pattern) text
