-- The arena: positions from 0 up to its size, the regions that occupy it, and the gaps between them.
use Rattle.std.specs.Prelude.{ℕ, zero, suc, ◌+◌, ◌≤◌, ◌⊎◌, Bool, ◌&&◌, nat_le, nat_lt, List, [], ◌∷◌, Option, Some, None, ◌==◌, if◌then◌else◌, max}
use Rattle.std.specs.List.{list_any}
use Rattle.std.specs.Option.{option_map}

-- the positions from a start up to, but not with, start plus extent
pub record Region : Type 0 where
  pub start : ℕ
  pub extent : ℕ

-- one ends before the other begins
abbrev pub AreApart : Region → Region → Type 0
AreApart one other = (one.start + one.extent ≤ other.start) ⊎ (other.start + other.extent ≤ one.start)

-- whether a region covers a position
abbrev pub covers : ℕ → Region → Bool
covers position region = nat_le region.start position && nat_lt position (region.start + region.extent)

-- whether one of these regions covers a position
abbrev pub is_covered : List Region → ℕ → Bool
is_covered occupied position = list_any (covers position) occupied

-- a free position, in front of the gaps behind it: it joins the gap that begins right behind it, if one does
abbrev pub with_free : ℕ → List Region → List Region
with_free position [] = record { start = position; extent = 1 } ∷ []
with_free position (gap ∷ gaps) =
    if gap.start == position + 1
    then record { start = position; extent = gap.extent + 1 } ∷ gaps
    else record { start = position; extent = 1 } ∷ gap ∷ gaps

-- the gaps among so many positions from one on: the maximal runs of positions that no region covers
abbrev pub free_runs : List Region → ℕ → ℕ → List Region
free_runs occupied position zero = []
free_runs occupied position (suc count) =
    if is_covered occupied position
    then free_runs occupied (position + 1) count
    else with_free position (free_runs occupied (position + 1) count)

-- the gaps of an arena, in ascending order
abbrev pub gaps : List Region → ℕ → List Region
gaps occupied arena = free_runs occupied 0 arena

-- the shorter of a gap and one behind it, and of two equally long ones the first
abbrev pub shorter : Region → Option Region → Option Region
shorter gap None = Some gap
shorter gap (Some behind) = if nat_le gap.extent behind.extent then Some gap else Some behind

-- the shortest gap of at least the extent that is needed, the lowest where several are equally short
abbrev pub best_gap : ℕ → List Region → Option Region
best_gap need [] = None
best_gap need (gap ∷ gaps) = if nat_le need gap.extent then shorter gap (best_gap need gaps) else best_gap need gaps

-- where a region of that extent goes: the start of the best gap
abbrev pub fit : ℕ → List Region → ℕ → Option ℕ
fit need occupied arena = option_map (λ gap. gap.start) (best_gap need (gaps occupied arena))

-- the extent of the longest gap, 0 where there is none
abbrev pub longest : List Region → ℕ
longest [] = 0
longest (gap ∷ gaps) = max gap.extent (longest gaps)
