use Rattle.std.proofs.Common.{ap, ◌∙◌, subst}
use Rattle.ldm_types.specs.Arena.{gaps, longest}
use Rattle.ldm_regions.specs.Layout.{Layout, Tiles, occupied}
use Rattle.ldm_regions.proofs.Arenas.{longest_kept, tiles_kept}
use Rattle.ldm_regions.proofs.regions.Regions.largest.Goals as goal

pub returns-clause-longest : goal.returns-clause-longest
returns-clause-longest c =
    let inside = c.self.inside in
    longest_kept inside.nodes.items inside.arena inside.slots inside.gaps.extents inside.gaps.fronts c.self.invariant c.longest.result c.longest.ensures
    ∙ ap (λ (layout : Layout). longest (gaps (occupied layout.owned) layout.arena)) c.self.view_is

pub returns-clause-tiles : goal.returns-clause-tiles
returns-clause-tiles c =
    let inside = c.self.inside in
    subst Tiles c.self.view_is (tiles_kept inside.nodes.items inside.arena inside.slots inside.gaps.extents inside.gaps.fronts c.self.invariant)
