-- The gaps between regions, as pairs of numbers in two sets.
use Rattle.std.specs.Prelude.{◌≡◌, ℕ, ◌+◌, ◌-◌, ◌^◌, ◌<◌, ◌≤◌, nat_lt, true, List, [], ◌∷◌, ◌++◌, Option, Some, None, if◌then◌else◌}
use Rattle.std.specs.FinSet as set
use Rattle.ldm_freelist.specs.Pairs.{pair_cmp, IsBest, IsGreatest}
use Rattle.ldm_regions.specs.Order.{Used}
use Rattle.ldm_regions.specs.declared.gaps.Gap.{Gap}

-- how long a gap is, and where it begins
abbrev pub by_extent : Gap → ℕ × ℕ
by_extent gap = (gap.end - gap.start, gap.start)

-- where a gap begins, and the owner of the region in front of it
abbrev pub by_front : Gap → ℕ × ℕ
by_front gap = (gap.start, gap.front)

-- a gap, unless it is empty
abbrev pub if_any : Gap → List Gap
if_any gap = if nat_lt gap.start gap.end then gap ∷ [] else []

-- the gaps behind a position, where the region of an owner ends
abbrev pub gaps_between : ℕ → ℕ → List Used → ℕ → List Gap
gaps_between front from [] arena = if_any (record { start = from; end = arena; front = front }) ++ []
gaps_between front from (used ∷ rest) arena =
    if_any (record { start = from; end = used.start; front = front }) ++ gaps_between used.owner (used.start + used.extent) rest arena

-- one gap more, unless it is empty
abbrev pub with_gap : (Gap → ℕ × ℕ) → set.FinSet pair_cmp → Gap → set.FinSet pair_cmp
with_gap key pairs gap = if nat_lt gap.start gap.end then set.insert pairs (key gap) else pairs

-- one gap less, unless it is empty
abbrev pub without_gap : (Gap → ℕ × ℕ) → set.FinSet pair_cmp → Gap → set.FinSet pair_cmp
without_gap key pairs gap = if nat_lt gap.start gap.end then set.remove pairs (key gap) else pairs

-- each gap ends at a position, and is known by where it begins, too, with a number of the region in front of it
pub record AreMatched (extents fronts : set.FinSet pair_cmp) : Type 0 where
  pub end : (extent start : ℕ) → set.contains extents (extent, start) ≡ true → start + extent < 2 ^ 64
  pub begins : (extent start : ℕ) → set.contains extents (extent, start) ≡ true → (front : ℕ) × (set.contains fronts (start, front) ≡ true)
  pub front : (start front : ℕ) → set.contains fronts (start, front) ≡ true → front < 2 ^ 32

-- the best gap, as the sets have it
abbrev pub IsFound : ℕ → set.FinSet pair_cmp → set.FinSet pair_cmp → Option Gap → Type 0
IsFound need extents fronts None = IsBest need extents None
IsFound need extents fronts (Some gap) = IsBest need extents (Some (by_extent gap)) × (gap.start ≤ gap.end) × (set.contains fronts (by_front gap) ≡ true)

-- the extent of a pair, 0 where there is none
abbrev pub extent_of : Option (ℕ × ℕ) → ℕ
extent_of None = 0
extent_of (Some pair) = pair.0

-- the greatest extent, 0 where there is none
abbrev pub IsLongest : set.FinSet pair_cmp → ℕ → Type 0
IsLongest extents longest = (greatest : Option (ℕ × ℕ)) × ((IsGreatest extents greatest) × (longest ≡ extent_of greatest))
