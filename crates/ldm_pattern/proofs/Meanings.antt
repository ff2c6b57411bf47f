-- What the crate `regex` promises of a pattern that it built or refused, in the words of the definitions of `Patterns`.
use Rattle.std.proofs.Common.{◌≡◌, ◌≢◌, ℕ, ◌<◌, ◌≤◌, Bool, true, false, List, length, get_or, Option, None, Some, IsSome, IsSomeAnd, IfSome, is_some, refl, inl, inr, arith, IsUtf8}
use Rattle.std.proofs.lemmas.Bool.Decides.{nat_tests}
use Rattle.std.proofs.lemmas.Str.{IsUtf8-from_is_utf8, is_utf8-from_IsUtf8}
use Rattle.std.specs.Prelude.{nat_le, cond}
use Rattle.std.specs.Str.{chars, is_utf8}
use Rattle.regex.proofs.ForCallers.{is_match_alike}
use Rattle.regex.specs.Bytes.{regex_config, regex_pattern, regex_source, IsReadFromSource}
use Rattle.regex.specs.Failures.{IsRightKind}
use Rattle.regex.specs.Names.{names_of}
use Rattle.regex.specs.Patterns.{Re, SameCaptures, find}
use Rattle.regex.specs.Sources.{IsRefusal}
use Rattle.regex.specs.declared.bytes.regex.Regex.{Regex}
use Rattle.regex.specs.declared.error.Error.{Error}
use Rattle.regex.specs.declared.error.Error.TheVariants.{Syntax}
use Rattle.regex_hir.specs.Meaning.{meaning}
use Rattle.regex_hir.specs.declared.hir.Hir.{Hir}
use Rattle.regex_syntax.specs.Brackets.{Nested}
use Rattle.regex_syntax.specs.Grammar.{Names, group_count, read}
use Rattle.regex_syntax.specs.Verdict.{Reads, Refuses}
use Rattle.regex_syntax.specs.declared.error.Error as parser
use Rattle.regex_syntax.specs.declared.error.ErrorKind.{ErrorKind}
use Rattle.regex_syntax.specs.declared.error.ErrorKind.TheVariants.{OutOfMemory}
use Rattle.ldm_pattern.specs.Patterns.{byte_config, if_shallow, pattern_meaning, IsMeantBy, is_found, found}

shallow_as : (o : Option (Nested Re × Names)) (a : Re) (names : Names) →
    IsSomeAnd o (λ (re, found). (re.depth ≤ byte_config.nest_limit) × SameCaptures a re.value × (names ≡ found) × (group_count a ≤ length names)) →
    IsSomeAnd (if_shallow o) (SameCaptures a)
shallow_as None a names h = absurd h
shallow_as (Some found) a names h =
    let fits : nat_le found.0.depth byte_config.nest_limit ≡ true = grind (arith, nat_tests) in rw fits h.1

-- what a regex that was built searches for is what its text means
pub means_what_is_built : (r : Regex) → IsUtf8 (regex_source r) → regex_config r ≡ byte_config → IsReadFromSource r →
    IsSomeAnd (pattern_meaning (regex_source r)) (SameCaptures (regex_pattern r))
unfolding Reads pattern_meaning
means_what_is_built r utf8 config h =
    rw (is_utf8-from_IsUtf8 (regex_source r) utf8)
    (shallow_as (read byte_config (chars (regex_source r))) (regex_pattern r) (names_of r.pattern.names.items) (rw config at h))

some_of : {A : Type 0} (o : Option A) (P : A → Type 0) → IsSomeAnd o P → IsSome o
some_of None P h = absurd h
some_of (Some x) P h = refl

-- a regex that was built is of a pattern
pub built_is_pattern : (r : Regex) → IsUtf8 (regex_source r) → regex_config r ≡ byte_config → IsReadFromSource r →
    IsSome (pattern_meaning (regex_source r))
built_is_pattern r utf8 config h = some_of _ _ (means_what_is_built r utf8 config h)

-- a tree that the grammar reads in a text, within the limit on nesting, matches what the text means
pub meant_by_read : (source : List ℕ) → IsUtf8 source → (hir : Hir) (names : Names) → Reads byte_config source hir names →
    IsMeantBy source (meaning hir)
unfolding Reads pattern_meaning
meant_by_read source utf8 hir names h =
    rw (is_utf8-from_IsUtf8 source utf8) (shallow_as (read byte_config (chars source)) (meaning hir) names h)

-- a pattern of which a tree matches what it means, means something
pub meant_is_pattern : (source : List ℕ) (re : Re) → IsMeantBy source re → IsSome (pattern_meaning source)
meant_is_pattern source re h = some_of _ _ h

alike : (m : Option Re) (a : Re) (text : List ℕ) → ((k : ℕ) → get_or text k 0 < 256) → IsSomeAnd m (SameCaptures a) →
    is_some (find a text 0) ≡ is_found m text
alike None a text bytes h = absurd h
alike (Some re) a text bytes h = is_match_alike h text bytes false 0

-- what a regex that was built finds is what is found of its text
pub finds : (r : Regex) → IsUtf8 (regex_source r) → regex_config r ≡ byte_config → IsReadFromSource r →
    (text : List ℕ) → ((k : ℕ) → get_or text k 0 < 256) → is_some (find (regex_pattern r) text 0) ≡ found (regex_source r) text
unfolding found
finds r utf8 config h text bytes =
    alike (pattern_meaning (regex_source r)) (regex_pattern r) text bytes (means_what_is_built r utf8 config h)

-- what is found by a search for what a pattern means is what is found of the pattern
pub search_finds : (pattern : List ℕ) (a : Re) (text : List ℕ) → ((k : ℕ) → get_or text k 0 < 256) → IsSomeAnd (pattern_meaning pattern) (SameCaptures a) →
    is_some (find a text 0) ≡ found pattern text
unfolding found
search_finds pattern a text bytes h = alike (pattern_meaning pattern) a text bytes h

-- bytes that are not UTF-8 are no pattern
pub nothing_of_other_bytes : (source : List ℕ) → ¬ (IsUtf8 source) → pattern_meaning source ≡ None
unfolding pattern_meaning
nothing_of_other_bytes source h =
    elim (is_utf8 source) as (λ b. (b ≡ true → IsUtf8 source) → cond b (if_shallow (read byte_config (chars source))) None ≡ None)
    [ true ↦ λ is. absurd (h (is refl)) | false ↦ λ _. refl ] (IsUtf8-from_is_utf8 source)

deep_means_nothing : (o : Option (Nested Re × Names)) → IfSome o (λ (re, _). byte_config.nest_limit < re.depth) → if_shallow o ≡ None
deep_means_nothing None h = refl
deep_means_nothing (Some found) h =
    let too_deep : nat_le found.0.depth byte_config.nest_limit ≡ false = grind (arith, nat_tests) in rw too_deep

no_tree_means_nothing : (source : List ℕ) → if_shallow (read byte_config (chars source)) ≡ None → pattern_meaning source ≡ None
unfolding pattern_meaning
no_tree_means_nothing source h = rw h (same_either (is_utf8 source))
  where
    same_either : (b : Bool) → cond {A = Option Re} b None None ≡ None
    same_either true = refl
    same_either false = refl

-- a text that the parser refuses, but for want of memory, is no pattern
pub nothing_of_unread : (source : List ℕ) (kind : ErrorKind) → kind ≢ OutOfMemory → Refuses byte_config source kind → pattern_meaning source ≡ None
unfolding Refuses
nothing_of_unread source kind not_memory refused =
    elim refused [
      | inl memory ↦ absurd (not_memory memory)
      | inr other ↦ elim other [
        | inl none ↦ no_tree_means_nothing source (rw none)
        | inr deep ↦ no_tree_means_nothing source (deep_means_nothing (read byte_config (chars source)) deep.1)
      ]
    ]

-- a text that was refused for its syntax is no pattern
pub nothing_of_refused : (source : List ℕ) (error : Error) (e : parser.Error) → error ≡ Syntax e → IsRefusal byte_config source error →
    IsRightKind byte_config source error → pattern_meaning source ≡ None
nothing_of_refused source error e is refused right = nothing_of_unread source e.kind (rw is at right) (refused e is)
