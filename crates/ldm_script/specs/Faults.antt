-- Which column is told of a line outside the grammar, by the lines of the grammar: that of the first field at which no
-- line goes on. How long a line may be is no matter of these.
use Rattle.std.specs.Prelude.{◌≡◌, ◌⊎◌, ℕ, ◌+◌, List, [], ◌∷◌, ◌++◌, length, Some, Ok}
use Rattle.ldm_script.specs.Order.{Order}
use Rattle.ldm_script.specs.Split.{Lacks}
use Rattle.ldm_script.specs.Grammar.{read_order}

abbrev pub IsLine : ℕ → List ℕ → Type 0
IsLine actors line = (order : Order) × (read_order actors (Some line) ≡ Ok order)

-- some line begins with these bytes
abbrev pub Begins : ℕ → List ℕ → Type 0
Begins actors front = (behind : List ℕ) × IsLine actors (front ++ behind)

-- a field begins behind these: they are none, or end in a blank (32)
abbrev pub BeginsField : List ℕ → Type 0
BeginsField front = (front ≡ []) ⊎ ((fields : List ℕ) × (front ≡ fields ++ 32 ∷ []))

-- a field ends in front of these: they are none, or begin with a blank
abbrev pub EndsField : List ℕ → Type 0
EndsField [] = Unit {0}
EndsField (byte ∷ bytes) = byte ≡ 32

-- a field that no line has there: some line begins with what is in front of it, and none with that and the field
pub record IsWrongField (actors : ℕ) (line : List ℕ) (column : ℕ) : Type 0 where
  pub front : List ℕ
  pub wrong : List ℕ
  pub behind : List ℕ
  pub split : line ≡ front ++ wrong ++ behind
  pub starts : BeginsField front
  pub solid : Lacks 32 wrong
  pub ends : EndsField behind
  pub begins : Begins actors front
  pub stops : (more : List ℕ) → EndsField more → IsLine actors (front ++ wrong ++ more) → ⊥
  pub column_is : column ≡ length front + 1

-- a field that is missing: some line begins with all of these and a blank
pub record IsMissing (actors : ℕ) (line : List ℕ) (column : ℕ) : Type 0 where
  pub unfinished : IsLine actors line → ⊥
  pub begins : Begins actors (line ++ 32 ∷ [])
  pub column_is : column ≡ length line + 1

-- a field too many: what is in front of a blank is a line, and no line begins with that and the blank
pub record IsSurplus (actors : ℕ) (line : List ℕ) (column : ℕ) : Type 0 where
  pub front : List ℕ
  pub surplus : List ℕ
  pub split : line ≡ front ++ 32 ∷ surplus
  pub whole : IsLine actors front
  pub stops : Begins actors (front ++ 32 ∷ []) → ⊥
  pub column_is : column ≡ length front + 1

abbrev pub IsFirstFault : ℕ → List ℕ → ℕ → Type 0
IsFirstFault actors line column =
    IsWrongField actors line column ⊎ (IsMissing actors line column ⊎ IsSurplus actors line column)
