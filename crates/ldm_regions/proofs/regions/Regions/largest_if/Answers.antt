use Rattle.std.proofs.Common.{◌≡◌, List, false, length, slice_index_or, sym, ap, ◌∙◌, subst}
use Rattle.std.specs.List.{filter}
use Rattle.ldm_types.specs.Arena.{gaps, longest}
use Rattle.ldm_regions.specs.Layout.{Layout, Tiles, occupied, marked_only}
use Rattle.ldm_regions.specs.Order.{Used, spaces}
use Rattle.ldm_regions.specs.Links.{in_order, IsRing}
use Rattle.ldm_regions.specs.declared.links.Node.{Node}
use Rattle.ldm_regions.proofs.Laid.{gaps_if_marked}
use Rattle.ldm_regions.proofs.Arenas.{tiles_kept}
use Rattle.ldm_regions.proofs.regions.Regions.largest_if.Goals as goal

pub longest_space_if-requires : goal.longest_space_if-requires
longest_space_if-requires c =
    let inside = c.self.inside in
    let slots : inside.slots ≡ length c.args.kept.now = ap (λ (layout : Layout). layout.slots) c.self.view_is ∙ sym c.requires in
    subst (λ (nodes : List Node). IsRing nodes (length c.args.kept.now) inside.arena) (sym c.deref.ensures.value)
    (subst (λ n. IsRing inside.nodes.items n inside.arena) slots c.self.invariant.ring)

pub returns-clause-longest : goal.returns-clause-longest
returns-clause-longest c =
    let inside = c.self.inside in
    let kept = c.args.kept.now in
    let slots : length kept ≡ inside.slots = c.requires ∙ sym (ap (λ (layout : Layout). layout.slots) c.self.view_is) in
    c.longest_space_if.ensures
    ∙ (λ i. longest (spaces 0 (filter (λ (u : Used). slice_index_or kept u.owner false) (in_order (c.deref.ensures.value i) (slots i))) inside.arena))
    ∙ ap longest (sym (gaps_if_marked kept (in_order inside.nodes.items inside.slots) inside.arena c.self.invariant.ring.lie c.self.invariant.ring.owners))
    ∙ ap (λ (layout : Layout). longest (gaps (occupied (marked_only kept layout.owned)) layout.arena)) c.self.view_is

pub returns-clause-tiles : goal.returns-clause-tiles
returns-clause-tiles c =
    let inside = c.self.inside in
    subst Tiles c.self.view_is (tiles_kept inside.nodes.items inside.arena inside.slots inside.gaps.extents inside.gaps.fronts c.self.invariant)
