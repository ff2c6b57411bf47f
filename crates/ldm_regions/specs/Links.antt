-- Regions that are linked to their neighbours by the numbers of their owners, in a ring through the wall.
use Rattle.std.specs.Prelude.{◌≡◌, ℕ, zero, suc, ◌+◌, ◌-◌, ◌<◌, ◌==◌, List, [], ◌∷◌, length, slice_index_or, slice_set, if◌then◌else◌}
use Rattle.std.specs.List.{AllByRecursion}
use Rattle.ldm_regions.specs.Order.{Used, Lie, HaveOwners}
use Rattle.ldm_regions.specs.declared.links.Node.{Node}

abbrev pub node_at : List Node → ℕ → Node
node_at nodes place = slice_index_or nodes place (record { start = 0; end = 0; front = 0; behind = 0 })

-- the region of an owner
abbrev pub used_at : List Node → ℕ → Used
used_at nodes owner = record { start = (node_at nodes owner).start; extent = (node_at nodes owner).end - (node_at nodes owner).start; owner = owner }

-- so many regions from an owner's on, one behind another, up to the wall
abbrev pub ordered_from : List Node → ℕ → ℕ → ℕ → List Used
ordered_from nodes wall zero owner = []
ordered_from nodes wall (suc count) owner = if owner == wall then [] else used_at nodes owner ∷ ordered_from nodes wall count (node_at nodes owner).behind

-- the regions of all owners below a wall's number
abbrev pub in_order : List Node → ℕ → List Used
in_order nodes wall = ordered_from nodes wall wall (node_at nodes wall).behind

-- one entry leads to the next, and back, up to the last
abbrev pub Joined : List Node → ℕ → List Used → ℕ → Type 0
Joined nodes place [] last = ((node_at nodes place).behind ≡ last) × ((node_at nodes last).front ≡ place)
Joined nodes place (used ∷ rest) last =
    ((node_at nodes place).behind ≡ used.owner) × ((node_at nodes used.owner).front ≡ place) × Joined nodes used.owner rest last

-- the table has these regions
abbrev pub Held : List Node → List Used → Type 0
Held nodes [] = Unit {0}
Held nodes (used ∷ rest) =
    ((node_at nodes used.owner).start ≡ used.start) × ((node_at nodes used.owner).end ≡ used.start + used.extent) × Held nodes rest

-- the table's regions are linked in a ring, in the order in which they lie
pub record IsRingOf (nodes : List Node) (wall arena : ℕ) (used : List Used) : Type 0 where
  pub many : length nodes ≡ wall + 1
  pub begins : (node_at nodes wall).end ≡ 0
  pub ends : (node_at nodes wall).start ≡ arena
  pub joined : Joined nodes wall used wall
  pub held : Held nodes used
  pub lie : Lie 0 used arena
  pub owners : HaveOwners used
  pub below : AllByRecursion (λ u. u.owner < wall) used

abbrev pub IsRing : List Node → ℕ → ℕ → Type 0
IsRing nodes wall arena = IsRingOf nodes wall arena (in_order nodes wall)

abbrev set_front : List Node → ℕ → ℕ → List Node
set_front nodes place front = slice_set nodes place (record (node_at nodes place) { front = front })

abbrev set_behind : List Node → ℕ → ℕ → List Node
set_behind nodes place behind = slice_set nodes place (record (node_at nodes place) { behind = behind })

-- one more region, right behind that of another
abbrev pub linked : List Node → ℕ → ℕ → ℕ → ℕ → List Node
linked nodes owner start end front =
    let behind = (node_at nodes front).behind in
    set_front (set_behind (slice_set nodes owner (record { start = start; end = end; front = front; behind = behind })) front owner) behind owner

-- one region less
abbrev pub unlinked : List Node → ℕ → List Node
unlinked nodes owner =
    let node = node_at nodes owner in
    set_front (set_behind nodes node.front node.behind) node.behind node.front
