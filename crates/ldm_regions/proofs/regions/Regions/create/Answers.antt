use Rattle.std.proofs.Common.{◌≡◌, ◌+◌, replicate, ap}
use Rattle.ldm_regions.specs.Layout.{Owned}
use Rattle.ldm_regions.specs.Gaps.{by_extent, by_front}
use Rattle.ldm_regions.specs.declared.gaps.Gaps.{Gaps}
use Rattle.ldm_regions.proofs.Owners.{owned_by}
use Rattle.ldm_regions.proofs.Sets.{extent_tells, front_tells}
use Rattle.ldm_regions.proofs.Arenas.{tiles_kept}
use Rattle.ldm_regions.proofs.Whole.{wall_of, none_in_order, first_new, kept_first}
use Rattle.ldm_regions.proofs.regions.Regions.create.Goals as goal
use Rattle.ldm_regions.proofs.regions.Regions.create.Goals.{After-add}

pub add-requires-clause-extents : goal.add-requires-clause-extents
add-requires-clause-extents c = first_new c.args.arena c.args.slots by_extent extent_tells c.in_ok-gaps.gaps.extents (ap (λ (g : Gaps). g.extents) c.in_ok-gaps.ensures)

pub add-requires-clause-fronts : goal.add-requires-clause-fronts
add-requires-clause-fronts c = first_new c.args.arena c.args.slots by_front front_tells c.in_ok-gaps.gaps.fronts (ap (λ (g : Gaps). g.fronts) c.in_ok-gaps.ensures)

-- the wall stands in each entry
walls : (c : After-add) → c.in_ok-nodes.nodes.items ≡ replicate (c.args.slots + 1) (wall_of c.args.arena c.args.slots)
walls c = c.in_ok-nodes.ensures.items_if_clones_equal (λ y is. is)

pub invariant_of-result : goal.invariant_of-result
invariant_of-result c =
    kept_first c.args.arena c.args.slots c.in_ok-nodes.nodes.items c.in_ok-gaps.gaps.extents c.in_ok-gaps.gaps.fronts c.add.new.self.extents c.add.new.self.fronts
    (walls c) (ap (λ (g : Gaps). g.extents) c.in_ok-gaps.ensures) (ap (λ (g : Gaps). g.fronts) c.in_ok-gaps.ensures) c.add.ensures.extents c.add.ensures.fronts

pub returns-clause-empty : goal.returns-clause-empty
returns-clause-empty c =
    ap (λ (owned : Owned). record { arena = c.args.arena; slots = c.args.slots; owned = owned }) (ap owned_by (none_in_order c.args.arena c.args.slots c.in_ok-nodes.nodes.items (walls c)))

pub returns-clause-tiles : goal.returns-clause-tiles
returns-clause-tiles c = tiles_kept c.in_ok-nodes.nodes.items c.args.arena c.args.slots c.add.new.self.extents c.add.new.self.fronts (invariant_of-result c)
