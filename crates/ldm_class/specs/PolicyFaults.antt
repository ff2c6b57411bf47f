-- Why a rule is not added to a policy.
use Rattle.std.specs.Prelude.{◌≡◌, ℕ, List, ◌∷◌, ◌++◌, Option, Some, is_none}
use Rattle.std.specs.List.{position_from}
use Rattle.std.specs.Option.{option_to_list}
use Rattle.ldm_pattern.specs.Patterns.{pattern_meaning}
use Rattle.ldm_class.specs.declared.policy.PolicyFault.{PolicyFault}
use Rattle.ldm_class.specs.declared.policy.PolicyFault.TheVariants.{BadPattern, OutOfMemory}

-- the patterns of an ALLOW rule, in the order in which they are given
abbrev pub allow_patterns : List ℕ → Option (List ℕ) → Option (List ℕ) → List (List ℕ)
allow_patterns host ok not = host ∷ (option_to_list ok ++ option_to_list not)

-- the place of the first of these patterns that means nothing, where the places are counted from a number on
abbrev pub bad_from : ℕ → List (List ℕ) → Option ℕ
bad_from first patterns = position_from (λ pattern. is_none (pattern_meaning pattern)) first patterns

-- the cause of a fault: the place of the first pattern that means nothing, or too little memory, of which nothing is said
abbrev pub IsFaultFrom : ℕ → List (List ℕ) → PolicyFault → Type 0
IsFaultFrom first patterns (BadPattern place) = bad_from first patterns ≡ Some place
IsFaultFrom first patterns OutOfMemory = Unit {0}
