-- The names of a set of feedtypes, for people.
use Rattle.std.specs.Prelude.{ℕ, zero, suc, ◌^◌, ◌==◌, List, [], ◌∷◌, ◌++◌, Option, Some, None, unwrap_or, if◌then◌else◌}
use Rattle.std.specs.Int.{bit_at}
use Rattle.ldm_feedtype.specs.Names.{feed_names}

-- the first name that means just these feedtypes, where one does
abbrev pub first_named : List (List ℕ × ℕ) → ℕ → Option (List ℕ)
first_named [] set = None
first_named (row ∷ rows) set = if row.1 == set then Some row.0 else first_named rows set

-- the name of a feedtype, by its bit: each has one
abbrev pub member_name : ℕ → List ℕ
member_name bit = unwrap_or (first_named feed_names (2 ^ bit)) []

-- a name behind those before it, with `|` (124) between two
abbrev pub listed : List ℕ → List ℕ → List ℕ
listed [] name = name
listed (byte ∷ before) name = byte ∷ (before ++ 124 ∷ name)

-- the names of the members below a bit, the lowest first
unfoldable pub members_text : ℕ → ℕ → List ℕ
members_text zero set = []
members_text (suc bit) set = if bit_at set bit == 1 then listed (members_text bit set) (member_name bit) else members_text bit set

-- the name of the set, or else those of its members
unfoldable pub feeds_text : ℕ → List ℕ
feeds_text set = unwrap_or (first_named feed_names set) (members_text 32 set)
