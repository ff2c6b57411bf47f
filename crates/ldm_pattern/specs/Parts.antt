-- Which parts of a text the groups of a pattern have: those of its first match, as `regex` finds it.
use Rattle.std.specs.Prelude.{ℕ, List, [], ◌∷◌, map, slice_range, Option, Some, None}
use Rattle.std.specs.Option.{option_copied, option_map}
use Rattle.regex.specs.Patterns.{Re, Match, find}
use Rattle.regex.specs.Writes.{group_of}
use Rattle.regex.specs.Bytes.{captures_haystack, captures_span}
use Rattle.regex.specs.declared.bytes.captures.Captures.{Captures}
use Rattle.ldm_pattern.specs.Patterns.{pattern_meaning}
use Rattle.ldm_pattern.specs.declared.groups.Groups.{Groups}

-- the groups that are told, by number
abbrev pub told : List ℕ
told = 1 ∷ 2 ∷ 3 ∷ 4 ∷ 5 ∷ 6 ∷ 7 ∷ 8 ∷ 9 ∷ []

-- the bytes of a text from one place up to, but not with, another
abbrev pub part_of : List ℕ → Option (ℕ × ℕ) → Option (List ℕ)
part_of text span = option_map (λ (place : ℕ × ℕ). slice_range text place.0 place.1) span

-- the parts that the told groups have in a match, in order. None for one that took no part
abbrev pub parts_in : List ℕ → Match → List (Option (List ℕ))
parts_in text match = map (λ group. part_of text (group_of match group)) told

-- the parts in the first match of what a pattern means, if there is one
abbrev pub first_parts : Option Re → List ℕ → Option (List (Option (List ℕ)))
first_parts None text = None
first_parts (Some re) text = option_map (parts_in text) (find re text 0)

-- the parts of a text that groups 1 to 9 of a pattern have in its first match. None where the pattern is not found
unfoldable pub group_parts : List ℕ → List ℕ → Option (List (Option (List ℕ)))
group_parts pattern text = first_parts (pattern_meaning pattern) text

-- the parts that a `Groups` lends, from group 1 on
abbrev pub parts_of : Groups → List (Option (List ℕ))
parts_of groups = map option_copied groups.parts

-- the parts that the told groups have in what `regex` captured
abbrev pub captured_parts : Captures → List (Option (List ℕ))
captured_parts captures = map (λ group. part_of (captures_haystack captures) (captures_span captures group)) told
