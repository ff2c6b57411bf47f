-- Which owner has which region of an arena.
use Rattle.std.specs.Prelude.{◌≡◌, ◌≢◌, ℕ, ◌+◌, ◌<◌, ◌≤◌, Bool, false, List, slice_index_or, Some, refl}
use Rattle.std.specs.Coded.{Coded, code_by, coded×, coded_ℕ}
use Rattle.std.specs.FinMap as map
use Rattle.std.specs.Ordering.{nat_cmp}
use Rattle.ldm_types.specs.Arena.{Region, AreApart}

-- the region of each owner that has one, by the owner's number
abbrev pub Owned : Type 0
Owned = map.FinMap nat_cmp Region

-- an arena's size, how many owners there may be, and the regions that they have
pub record Layout : Type 0 where
  pub arena : ℕ
  pub slots : ℕ
  pub owned : Owned

-- a region is stored as its two numbers
abbrev pub region_code : Coded Region
region_code = code_by (ℕ × ℕ) (coded× coded_ℕ coded_ℕ) (λ r. (r.start, r.extent)) (λ p. record { start = p.0; extent = p.1 }) (λ _. refl)

-- a layout is stored as its three parts
abbrev pub layout_code : Coded Layout
layout_code = code_by (ℕ × (ℕ × Owned)) (coded× coded_ℕ (coded× coded_ℕ (map.code coded_ℕ region_code))) (λ l. (l.arena, (l.slots, l.owned))) (λ p. record { arena = p.0; slots = p.1.0; owned = p.1.1 }) (λ _. refl)

-- the regions that owners have
abbrev pub occupied : Owned → List Region
occupied owned = map.values owned

-- what is left once every owner that is not marked has given its region back
abbrev pub marked_only : List Bool → Owned → Owned
marked_only marks owned = map.retain_keys owned (λ owner. slice_index_or marks owner false)

-- one more owner, with its region
abbrev pub with_region : Layout → ℕ → Region → Layout
with_region layout owner region = record layout { owned = map.insert layout.owned owner region }

-- one owner less
abbrev pub without_owner : Layout → ℕ → Layout
without_owner layout owner = record layout { owned = map.remove layout.owned owner }

-- the regions are not empty, lie within the arena, and no two owners' regions share a position
pub record Tiles (layout : Layout) : Type 0 where
  pub owner : (owner : ℕ) (region : Region) → map.get layout.owned owner ≡ Some region → owner < layout.slots
  pub extent : (owner : ℕ) (region : Region) → map.get layout.owned owner ≡ Some region → 0 < region.extent
  pub within : (owner : ℕ) (region : Region) → map.get layout.owned owner ≡ Some region → region.start + region.extent ≤ layout.arena
  pub apart : (owner other : ℕ) (region behind : Region) → owner ≢ other → map.get layout.owned owner ≡ Some region → map.get layout.owned other ≡ Some behind → AreApart region behind

-- a region lies within the arena, and shares no position with that of an owner
pub record IsFree (region : Region) (layout : Layout) : Type 0 where
  pub within : region.start + region.extent ≤ layout.arena
  pub apart : (owner : ℕ) (taken : Region) → map.get layout.owned owner ≡ Some taken → AreApart region taken
