-- The regions of owners in the order in which they lie, and the spaces between them.
use Rattle.std.specs.Prelude.{◌≡◌, ℕ, ◌+◌, ◌-◌, ◌<◌, ◌≤◌, nat_lt, List, [], ◌∷◌, map, None, if◌then◌else◌}
use Rattle.std.specs.FinMap.{find}
use Rattle.std.specs.Ordering.{nat_cmp}
use Rattle.ldm_types.specs.Arena.{Region}

-- the region of an owner
pub record Used : Type 0 where
  pub start : ℕ
  pub extent : ℕ
  pub owner : ℕ

abbrev pub region_of : Used → Region
region_of used = record { start = used.start; extent = used.extent }

-- an owner and its region
abbrev pub entry_of : Used → ℕ × Region
entry_of used = (used.owner, region_of used)

-- from a position on, each region begins where the one before it ends or later, and the last ends within the arena
abbrev pub Lie : ℕ → List Used → ℕ → Type 0
Lie from [] arena = from ≤ arena
Lie from (used ∷ rest) arena = (from ≤ used.start) × (0 < used.extent) × Lie (used.start + used.extent) rest arena

-- no owner stands twice
abbrev pub HaveOwners : List Used → Type 0
HaveOwners [] = Unit {0}
HaveOwners (used ∷ rest) = (find nat_cmp used.owner (map entry_of rest) ≡ None) × HaveOwners rest

-- the space between two positions, if there is one, in front of the spaces behind it
abbrev pub space_before : ℕ → ℕ → List Region → List Region
space_before from to behind = if nat_lt from to then record { start = from; extent = to - from } ∷ behind else behind

-- the spaces in front of each region, and behind the last
abbrev pub spaces : ℕ → List Used → ℕ → List Region
spaces from [] arena = space_before from arena []
spaces from (used ∷ rest) arena = space_before from used.start (spaces (used.start + used.extent) rest arena)
