-- What is kept open or running, under names: the paths of files, the commands of programs. Each has the number that the store or
-- the launcher gave it, and the one that was used last comes first.
use Rattle.std.specs.Prelude.{◌≡◌, ◌≢◌, ℕ, ◌-◌, List, [], ◌∷◌, ◌++◌, Option, Some, None, String, bytes_eq, length, map, option_map, slice_get, string_bytes, take}
use Rattle.std.specs.declared.alloc.Global.{Global}
use Rattle.std.specs.Map.{lookup, remove_entry}
use Rattle.ldm_actions.specs.declared.recent.TheConstants.{ROOM}

-- the entries of a cache whose keys are texts
abbrev pub named : List (String Global × ℕ) → List (List ℕ × ℕ)
named entries = map (λ (it : String Global × ℕ). (string_bytes it.0, it.1)) entries

-- P holds of each entry
abbrev pub Each : (List ℕ × ℕ → Type 0) → List (List ℕ × ℕ) → Type 0
Each P [] = Unit {0}
Each P (it ∷ others) = P it × Each P others

-- two entries have neither one name nor one number
abbrev pub Differs : List ℕ × ℕ → List ℕ × ℕ → Type 0
Differs it other = (it.0 ≢ other.0) × (it.1 ≢ other.1)

-- no name and no number comes twice
abbrev pub AreApart : List (List ℕ × ℕ) → Type 0
AreApart [] = Unit {0}
AreApart (it ∷ others) = Each (Differs it) others × AreApart others

-- the entry that was used last
abbrev pub first_of : List (List ℕ × ℕ) → Option (List ℕ × ℕ)
first_of kept = slice_get kept 0

-- the entry that was used longest ago
abbrev pub last_of : List (List ℕ × ℕ) → Option (List ℕ × ℕ)
last_of kept = slice_get kept (length kept - 1)

abbrev pub number_of : List ℕ × ℕ → ℕ
number_of it = it.1

-- the number of the entry that goes where one more is kept, if one does; and those that stay
abbrev pub gone_of : List (List ℕ × ℕ) → Option ℕ
gone_of kept = option_map number_of (slice_get kept (ROOM - 1))

abbrev pub staying : List (List ℕ × ℕ) → List (List ℕ × ℕ)
staying kept = take (ROOM - 1) kept

-- the number under a name
abbrev pub number_under : List ℕ → List (List ℕ × ℕ) → Option ℕ
number_under name kept = lookup (bytes_eq name) kept

abbrev pub raised_by : Option ℕ → List ℕ → List (List ℕ × ℕ) → List (List ℕ × ℕ)
raised_by None name kept = kept
raised_by (Some number) name kept = (name, number) ∷ remove_entry (bytes_eq name) kept

-- the entries after the one of a name was used, if there is one
abbrev pub raised : List ℕ → List (List ℕ × ℕ) → List (List ℕ × ℕ)
raised name kept = raised_by (number_under name kept) name kept

-- An entry was used last.
pub record IsNewest (it : List ℕ × ℕ) (kept : List (List ℕ × ℕ)) : Type 0 where
  pub others : List (List ℕ × ℕ)
  pub is : kept ≡ it ∷ others

-- What taking out the entry that was used last did.
abbrev pub TakesNewest : Option ℕ → List (List ℕ × ℕ) → List (List ℕ × ℕ) → Type 0
TakesNewest None old new = (old ≡ []) × (new ≡ [])
TakesNewest (Some number) old new = (name : List ℕ) × (old ≡ (name, number) ∷ new)

-- What taking out the entry that was used longest ago did.
abbrev pub TakesOldest : Option ℕ → List (List ℕ × ℕ) → List (List ℕ × ℕ) → Type 0
TakesOldest None old new = (old ≡ []) × (new ≡ [])
TakesOldest (Some number) old new = (name : List ℕ) × (old ≡ new ++ (name, number) ∷ [])
