-- What `regex` captures, in the words of the definitions of `Parts`.
use Rattle.std.proofs.Common.{◌≡◌, ℕ, ◌+◌, ◌*◌, ◌<◌, ◌≤◌, false, List, map, get_or, Option, None, Some, IsSomeAnd, is_some, refl, ap, lit≤, IsUtf8}
use Rattle.std.specs.Option.{option_map}
use Rattle.regex.proofs.ForCallers.{found_alike}
use Rattle.regex.specs.Bytes.{regex_config, regex_pattern, regex_source, captures_haystack, captures_span, IsReadFromSource}
use Rattle.regex.specs.Patterns.{Re, Match, SameCaptures, find}
use Rattle.regex.specs.Writes.{both, group_of}
use Rattle.regex.specs.declared.bytes.captures.Captures.{Captures}
use Rattle.regex.specs.declared.bytes.regex.Regex.{Regex}
use Rattle.ldm_pattern.specs.Patterns.{byte_config, pattern_meaning, is_found, found}
use Rattle.ldm_pattern.specs.Parts.{told, part_of, parts_in, first_parts, group_parts, captured_parts}
use Rattle.ldm_pattern.proofs.Meanings.{means_what_is_built}

parts_alike : (meaning : Option Re) (a : Re) (text : List ℕ) → ((k : ℕ) → get_or text k 0 < 256) → IsSomeAnd meaning (SameCaptures a) →
    (m : Match) → find a text 0 ≡ Some m → first_parts meaning text ≡ Some (parts_in text m)
parts_alike None a text bytes h m e = absurd h
parts_alike (Some re) a text bytes h m e =
    let same = found_alike h text bytes false 0 m e in
    rw same.1
    (ap (λ (slots : ℕ → Option ℕ). Some (map (λ group. part_of text (both (slots (2 * group)) (slots (2 * group + 1)))) told)) same.2)

-- what a regex that was built matches first is the first match of its text
pub parts_are : (r : Regex) → IsUtf8 (regex_source r) → regex_config r ≡ byte_config → IsReadFromSource r →
    (text : List ℕ) → ((k : ℕ) → get_or text k 0 < 256) → (m : Match) → find (regex_pattern r) text 0 ≡ Some m →
    group_parts (regex_source r) text ≡ Some (parts_in text m)
unfolding group_parts
parts_are r utf8 config h text bytes m e =
    parts_alike (pattern_meaning (regex_source r)) (regex_pattern r) text bytes (means_what_is_built r utf8 config h) m e

some_as_found : (first : Option Match) (text : List ℕ) → is_some (option_map (parts_in text) first) ≡ is_some first
some_as_found None text = refl
some_as_found (Some m) text = refl

parts_found : (meaning : Option Re) (text : List ℕ) → is_some (first_parts meaning text) ≡ is_found meaning text
parts_found None text = refl
parts_found (Some re) text = some_as_found (find re text 0) text

-- the groups have parts exactly where the pattern is found
pub group_parts_found : (pattern text : List ℕ) → is_some (group_parts pattern text) ≡ found pattern text
unfolding group_parts found
group_parts_found pattern text = parts_found (pattern_meaning pattern) text

-- what was captured are the parts of the match
pub captured : (captures : Captures) (text : List ℕ) (m : Match) → captures_haystack captures ≡ text →
    ((n : ℕ) → 1 ≤ n → captures_span captures n ≡ group_of m n) → captured_parts captures ≡ parts_in text m
captured captures text m hay spans =
    rw (spans 1 (lit≤ tt), spans 2 (lit≤ tt), spans 3 (lit≤ tt), spans 4 (lit≤ tt), spans 5 (lit≤ tt), spans 6 (lit≤ tt), spans 7 (lit≤ tt), spans 8 (lit≤ tt), spans 9 (lit≤ tt))
    (rw hay refl)

-- a value that is not there is None
pub none_from_test : {A : Type 0} (o : Option A) → is_some o ≡ false → o ≡ None
none_from_test None e = refl
none_from_test (Some x) e = absurd cc
