-- What is always true of an arena: its regions are linked in a ring, and two sets have the gaps between them.
use Rattle.std.specs.Prelude.{◌≡◌, ℕ, ◌+◌, List, map}
use Rattle.std.specs.FinSet as set
use Rattle.ldm_freelist.specs.Pairs.{Pairs}
use Rattle.ldm_regions.specs.Links.{in_order, IsRing}
use Rattle.ldm_regions.specs.Gaps.{by_extent, by_front, gaps_between}
use Rattle.ldm_regions.specs.declared.links.Node.{Node}

pub record IsKept (nodes : List Node) (arena slots : ℕ) (extents fronts : Pairs) : Type 0 where
  pub ring : IsRing nodes slots arena
  pub by_extents : extents ≡ record { room = slots + 1; members = set.from_list (map by_extent (gaps_between slots 0 (in_order nodes slots) arena)) }
  pub by_fronts : fronts ≡ record { room = slots + 1; members = set.from_list (map by_front (gaps_between slots 0 (in_order nodes slots) arena)) }
