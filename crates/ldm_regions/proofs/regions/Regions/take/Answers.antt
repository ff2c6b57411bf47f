use Rattle.std.proofs.Common.{◌≡◌, ◌+◌, ◌<◌, List, ◌∷◌, ◌++◌, sym, ap, ◌∙◌, subst, arith, length}
use Rattle.std.specs.FinMap as map
use Rattle.std.specs.Vec.{with_items}
use Rattle.std.proofs.lemmas.List.{with_items_is}
use Rattle.ldm_types.specs.Arena.{fit}
use Rattle.ldm_regions.specs.Layout.{Layout, Owned, Tiles, occupied, with_region}
use Rattle.ldm_regions.specs.Gaps.{by_extent, by_front}
use Rattle.ldm_regions.specs.Kept.{IsKept}
use Rattle.ldm_regions.specs.Links.{node_at, in_order, linked}
use Rattle.ldm_regions.specs.declared.links.Node.{Node}
use Rattle.ldm_regions.proofs.Owners.{owned_by, get-owned_by}
use Rattle.ldm_regions.proofs.Sets.{extent_tells, front_tells}
use Rattle.ldm_regions.proofs.Arenas.{tiles_kept, matched, none_fits, gap_fits, kept_from}
use Rattle.ldm_regions.proofs.Amid.{Amid, amid_found, amid_owned, behind_new, front_in, left_front, region_amid, without_front}
use Rattle.ldm_regions.proofs.regions.Regions.take.Goals as goal
use Rattle.ldm_regions.proofs.regions.Regions.take.Goals.{After-remove, After-add}

pub best-requires : goal.best-requires
best-requires c =
    let inside = c.self.inside in
    matched inside.nodes.items inside.arena inside.slots inside.gaps.extents inside.gaps.fronts c.self.invariant (omega arith) (omega arith)

pub returns-in_err-gap-clause-place : goal.returns-in_err-gap-clause-place
returns-in_err-gap-clause-place c =
    let inside = c.self.inside in
    c.from_residual.ensures
    ∙ none_fits inside.nodes.items inside.arena inside.slots inside.gaps.extents inside.gaps.fronts c.self.invariant c.args.need c.in_err-gap.ensures
    ∙ ap (λ (layout : Layout). fit c.args.need (occupied layout.owned) layout.arena) c.self.view_is

pub returns-in_err-gap-clause-tiles : goal.returns-in_err-gap-clause-tiles
returns-in_err-gap-clause-tiles c =
    let inside = c.self.inside in
    subst Tiles c.self.view_is (tiles_kept inside.nodes.items inside.arena inside.slots inside.gaps.extents inside.gaps.fronts c.self.invariant)

-- how the region comes to the start of the gap
amid : (c : After-remove) → Amid c.self.inside.nodes.items c.self.inside.arena c.self.inside.slots c.in_ok-gap.gap c.in_ok-gap.gap.start c.args.need c.args.owner
amid c =
    let slots = ap (λ (layout : Layout). layout.slots) c.self.view_is in
    let below = c.requires.owner in
    let none = sym (get-owned_by (in_order c.self.inside.nodes.items c.self.inside.slots) c.args.owner) ∙ ap (λ (layout : Layout). map.get layout.owned c.args.owner) c.self.view_is ∙ c.requires.none in
    amid_found c.self.invariant c.requires.need (omega (arith, slots, below)) none c.in_ok-gap.ensures

pub link-requires-clause-front : goal.link-requires-clause-front
link-requires-clause-front c =
    let inside = (amid (goal.at.link-requires-clause-front c).After-remove).front_inside in
    omega (arith, inside, ap length c.deref_mut.ensures.value)

pub link-requires-clause-behind : goal.link-requires-clause-behind
link-requires-clause-behind c =
    let inside = (amid (goal.at.link-requires-clause-behind c).After-remove).behind_inside in
    subst (λ (nodes : List Node). (node_at nodes c.in_ok-gap.gap.front).behind < length nodes) (sym c.deref_mut.ensures.value) inside

pub add-requires-clause-extents : goal.add-requires-clause-extents
add-requires-clause-extents c = behind_new (amid (goal.at.add-requires-clause-extents c).After-remove) by_extent extent_tells c.self.invariant.by_extents c.remove.ensures.extents

pub add-requires-clause-fronts : goal.add-requires-clause-fronts
add-requires-clause-fronts c = behind_new (amid (goal.at.add-requires-clause-fronts c).After-remove) by_front front_tells c.self.invariant.by_fronts c.remove.ensures.fronts

-- the table as it is written back
table : (c : After-add) → (with_items c.self.inside.nodes c.link.new.nodes).items ≡ linked c.self.inside.nodes.items c.args.owner c.in_ok-gap.gap.start (c.in_ok-gap.gap.start + c.args.need) c.in_ok-gap.gap.front
table c =
    let gap = c.in_ok-gap.gap in
    with_items_is c.self.inside.nodes c.link.new.nodes (omega (arith, c.link.auto.nodes, ap length c.deref_mut.ensures.value, c.self.inside.nodes.ok.0))
    ∙ c.link.ensures ∙ ap (λ (nodes : List Node). linked nodes c.args.owner gap.start (gap.start + c.args.need) gap.front) c.deref_mut.ensures.value

pub invariant_of-self : goal.invariant_of-self
invariant_of-self c =
    let inside = c.self.inside in
    let gap = c.in_ok-gap.gap in
    let in_gap = amid (goal.at.invariant_of-self c).After-remove in
    let used = in_gap.front ++ region_amid gap.start c.args.need c.args.owner ∷ in_gap.behind in
    subst (λ (nodes : List Node). IsKept nodes inside.arena inside.slots c.add.new.self.extents c.add.new.self.fronts) (sym (table c))
    (kept_from (linked inside.nodes.items c.args.owner gap.start (gap.start + c.args.need) gap.front) inside.arena inside.slots c.add.new.self.extents c.add.new.self.fronts used in_gap.ring
    (front_in in_gap by_extent extent_tells c.self.invariant.by_extents c.remove.ensures.extents c.add.ensures.extents (without_front by_extent c.add.new.self.extents (left_front gap gap.start) (omega arith)))
    (front_in in_gap by_front front_tells c.self.invariant.by_fronts c.remove.ensures.fronts c.add.ensures.fronts (without_front by_front c.add.new.self.fronts (left_front gap gap.start) (omega arith))))

pub returns-clause-place : goal.returns-clause-place
returns-clause-place c =
    let inside = c.self.inside in
    gap_fits inside.nodes.items inside.arena inside.slots inside.gaps.extents inside.gaps.fronts c.self.invariant c.args.need c.in_ok-gap.gap c.in_ok-gap.ensures
    ∙ ap (λ (layout : Layout). fit c.args.need (occupied layout.owned) layout.arena) c.self.view_is

pub returns-clause-owned : goal.returns-clause-owned
returns-clause-owned c =
    let inside = c.self.inside in
    ap (λ (owned : Owned). record { arena = inside.arena; slots = inside.slots; owned = owned })
    (ap (λ (nodes : List Node). owned_by (in_order nodes inside.slots)) (table c) ∙ amid_owned (amid (goal.at.returns-clause-owned c).After-remove))
    ∙ ap (λ (layout : Layout). with_region layout c.args.owner (record { start = c.in_ok-gap.gap.start; extent = c.args.need })) c.self.view_is

pub returns-clause-tiles : goal.returns-clause-tiles
returns-clause-tiles c =
    let inside = c.self.inside in
    tiles_kept (with_items inside.nodes c.link.new.nodes).items inside.arena inside.slots c.add.new.self.extents c.add.new.self.fronts (invariant_of-self c)
