use Rattle.std.proofs.Common.{◌≡◌, ◌+◌, ◌<◌, ◌≤◌, Some, List, ◌∷◌, ◌++◌, false, refl, sym, ap, ◌∙◌, subst, arith, length}
use Rattle.std.specs.FinMap as map
use Rattle.std.specs.Vec.{with_items}
use Rattle.std.proofs.lemmas.Bool.{both_ways}
use Rattle.std.proofs.lemmas.List.{with_items_is}
use Rattle.ldm_types.specs.Arena.{Region}
use Rattle.ldm_freelist.specs.Pairs.{IsLastTo}
use Rattle.ldm_regions.specs.Layout.{IsFree, Layout, Owned, Tiles, with_region}
use Rattle.ldm_regions.specs.Gaps.{by_extent, by_front}
use Rattle.ldm_regions.specs.Kept.{IsKept}
use Rattle.ldm_regions.specs.Links.{node_at, in_order, linked}
use Rattle.ldm_regions.specs.declared.links.Node.{Node}
use Rattle.ldm_regions.specs.declared.gaps.Gap.{Gap}
use Rattle.ldm_regions.proofs.Owners.{owned_by, get-owned_by}
use Rattle.ldm_regions.proofs.Sets.{extent_tells, front_tells}
use Rattle.ldm_regions.proofs.Arenas.{tiles_kept, matched, kept_from}
use Rattle.ldm_regions.proofs.Inside.{none_begun, was_free}
use Rattle.ldm_regions.proofs.Amid.{Amid, front_inside, next_inside, not_free, amid_of, amid_owned, gap_there, behind_new, front_new, front_in, region_amid}
use Rattle.ldm_regions.proofs.regions.Regions.place.Goals as goal
use Rattle.ldm_regions.proofs.regions.Regions.place.Goals.{After-index-2, After-add-2}

pub begun-requires : goal.begun-requires
begun-requires c =
    let inside = c.self.inside in
    matched inside.nodes.items inside.arena inside.slots inside.gaps.extents inside.gaps.fronts c.self.invariant (omega arith) (omega arith)

pub returns-in_default-clause-free : goal.returns-in_default-clause-free
returns-in_default-clause-free c =
    let inside = c.self.inside in
    let region : Region = record { start = c.args.offset; extent = c.args.need } in (
      λ no. absurd (both_ways false refl no),
      λ free. absurd (none_begun inside.nodes.items inside.arena inside.slots inside.gaps.extents inside.gaps.fronts c.self.invariant c.args.offset c.args.need c.requires.need c.in_default.ensures
          (subst (IsFree region) (sym c.self.view_is) free)),
    )

pub returns-in_default-clause-tiles : goal.returns-in_default-clause-tiles
returns-in_default-clause-tiles c =
    let inside = c.self.inside in
    subst Tiles c.self.view_is (tiles_kept inside.nodes.items inside.arena inside.slots inside.gaps.extents inside.gaps.fronts c.self.invariant)

pub index-requires : goal.index-requires
index-requires c =
    let inside = c.self.inside in
    let last : IsLastTo c.args.offset inside.gaps.fronts.members (Some (c.in-Some.start, c.in-Some.front)) = c.in-Some.ensures in
    let within = front_inside inside.nodes.items inside.arena inside.slots inside.gaps.extents inside.gaps.fronts c.self.invariant c.args.offset c.args.need c.requires.need c.in-Some.start c.in-Some.front last in
    omega (arith, within, inside.nodes.ok.0)

pub index-requires-2 : goal.index-requires-2
index-requires-2 c =
    let inside = c.self.inside in
    let last : IsLastTo c.args.offset inside.gaps.fronts.members (Some (c.in-Some.start, c.in-Some.front)) = c.in-Some.ensures in
    let within = next_inside inside.nodes.items inside.arena inside.slots inside.gaps.extents inside.gaps.fronts c.self.invariant c.args.offset c.args.need c.requires.need c.in-Some.start c.in-Some.front last
    c.index.result.now c.index.ensures in
    omega (arith, within, inside.nodes.ok.0)

pub returns-then-room-need-clause-free : goal.returns-then-room-need-clause-free
returns-then-room-need-clause-free c =
    let inside = c.self.inside in
    let region : Region = record { start = c.args.offset; extent = c.args.need } in
    let last : IsLastTo c.args.offset inside.gaps.fronts.members (Some (c.in-Some.start, c.in-Some.front)) = c.in-Some.ensures in
    let short : c.index-2.result.now.start < c.args.offset + c.args.need = omega (arith, c.if-room-need.true, c.saturating_sub-room.ensures, c.requires.need) in (
      λ no. absurd (both_ways false refl no),
      λ free. absurd (not_free inside.nodes.items inside.arena inside.slots inside.gaps.extents inside.gaps.fronts c.self.invariant c.args.offset c.args.need c.requires.need c.in-Some.start c.in-Some.front last
          c.index.result.now c.index.ensures c.index-2.result.now c.index-2.ensures short (subst (IsFree region) (sym c.self.view_is) free)),
    )

pub returns-then-room-need-clause-tiles : goal.returns-then-room-need-clause-tiles
returns-then-room-need-clause-tiles c =
    let inside = c.self.inside in
    subst Tiles c.self.view_is (tiles_kept inside.nodes.items inside.arena inside.slots inside.gaps.extents inside.gaps.fronts c.self.invariant)

-- the gap, and how the region comes into it
abbrev gap_of : After-index-2 → Gap
gap_of c = record { start = c.in-Some.start; end = c.index-2.result.now.start; front = c.in-Some.front }

amid : (c : After-index-2) → c.args.offset + c.args.need ≤ c.index-2.result.now.start → Amid c.self.inside.nodes.items c.self.inside.arena c.self.inside.slots (gap_of c) c.args.offset c.args.need c.args.owner
amid c room =
    let inside = c.self.inside in
    let last : IsLastTo c.args.offset inside.gaps.fronts.members (Some (c.in-Some.start, c.in-Some.front)) = c.in-Some.ensures in
    let slots = ap (λ (layout : Layout). layout.slots) c.self.view_is in
    let below = c.requires.owner in
    let none = sym (get-owned_by (in_order inside.nodes.items inside.slots) c.args.owner) ∙ ap (λ (layout : Layout). map.get layout.owned c.args.owner) c.self.view_is ∙ c.requires.none in
    amid_of inside.nodes.items inside.arena inside.slots inside.gaps.extents inside.gaps.fronts c.self.invariant c.args.offset c.args.need c.requires.need c.in-Some.start c.in-Some.front last
    c.index.result.now c.index.ensures c.index-2.result.now c.index-2.ensures c.args.owner (omega (arith, slots, below)) none room

pub remove-requires-clause-extents : goal.remove-requires-clause-extents
remove-requires-clause-extents c =
    let at = (goal.at.remove-requires-clause-extents c).After-index-2 in
    gap_there (amid at (omega (arith, c.if-room-need.false, c.saturating_sub-room.ensures, c.requires.need))) by_extent extent_tells c.self.invariant.by_extents

pub remove-requires-clause-fronts : goal.remove-requires-clause-fronts
remove-requires-clause-fronts c =
    let at = (goal.at.remove-requires-clause-fronts c).After-index-2 in
    gap_there (amid at (omega (arith, c.if-room-need.false, c.saturating_sub-room.ensures, c.requires.need))) by_front front_tells c.self.invariant.by_fronts

pub link-requires-clause-front : goal.link-requires-clause-front
link-requires-clause-front c =
    let inside = (amid (goal.at.link-requires-clause-front c).After-index-2 (omega (arith, c.if-room-need.false, c.saturating_sub-room.ensures, c.requires.need))).front_inside in
    omega (arith, inside, ap length c.deref_mut.ensures.value)

pub link-requires-clause-behind : goal.link-requires-clause-behind
link-requires-clause-behind c =
    let inside = (amid (goal.at.link-requires-clause-behind c).After-index-2 (omega (arith, c.if-room-need.false, c.saturating_sub-room.ensures, c.requires.need))).behind_inside in
    subst (λ (nodes : List Node). (node_at nodes c.in-Some.front).behind < length nodes) (sym c.deref_mut.ensures.value) inside

pub add-requires-clause-extents : goal.add-requires-clause-extents
add-requires-clause-extents c =
    let at = (goal.at.add-requires-clause-extents c).After-index-2 in
    behind_new (amid at (omega (arith, c.if-room-need.false, c.saturating_sub-room.ensures, c.requires.need))) by_extent extent_tells c.self.invariant.by_extents
    c.remove.ensures.extents

pub add-requires-clause-fronts : goal.add-requires-clause-fronts
add-requires-clause-fronts c =
    let at = (goal.at.add-requires-clause-fronts c).After-index-2 in
    behind_new (amid at (omega (arith, c.if-room-need.false, c.saturating_sub-room.ensures, c.requires.need))) by_front front_tells c.self.invariant.by_fronts
    c.remove.ensures.fronts

pub add-requires-2-clause-extents : goal.add-requires-2-clause-extents
add-requires-2-clause-extents c =
    let at = (goal.at.add-requires-2-clause-extents c).After-index-2 in
    front_new (amid at (omega (arith, c.if-room-need.false, c.saturating_sub-room.ensures, c.requires.need))) by_extent extent_tells c.self.invariant.by_extents
    c.remove.ensures.extents c.add.ensures.extents

pub add-requires-2-clause-fronts : goal.add-requires-2-clause-fronts
add-requires-2-clause-fronts c =
    let at = (goal.at.add-requires-2-clause-fronts c).After-index-2 in
    front_new (amid at (omega (arith, c.if-room-need.false, c.saturating_sub-room.ensures, c.requires.need))) by_front front_tells c.self.invariant.by_fronts
    c.remove.ensures.fronts c.add.ensures.fronts

-- the table as it is written back
table : (c : After-add-2) → (with_items c.self.inside.nodes c.link.new.nodes).items ≡ linked c.self.inside.nodes.items c.args.owner c.args.offset (c.args.offset + c.args.need) c.in-Some.front
table c =
    with_items_is c.self.inside.nodes c.link.new.nodes (omega (arith, c.link.auto.nodes, ap length c.deref_mut.ensures.value, c.self.inside.nodes.ok.0))
    ∙ c.link.ensures ∙ ap (λ (nodes : List Node). linked nodes c.args.owner c.args.offset (c.args.offset + c.args.need) c.in-Some.front) c.deref_mut.ensures.value

pub invariant_of-self : goal.invariant_of-self
invariant_of-self c =
    let inside = c.self.inside in
    let at = (goal.at.invariant_of-self c).After-index-2 in
    let in_gap = amid at (omega (arith, c.if-room-need.false, c.saturating_sub-room.ensures, c.requires.need)) in
    let used = in_gap.front ++ region_amid c.args.offset c.args.need c.args.owner ∷ in_gap.behind in
    subst (λ (nodes : List Node). IsKept nodes inside.arena inside.slots c.add-2.new.self.extents c.add-2.new.self.fronts) (sym (table c))
    (kept_from (linked inside.nodes.items c.args.owner c.args.offset (c.args.offset + c.args.need) c.in-Some.front) inside.arena inside.slots c.add-2.new.self.extents c.add-2.new.self.fronts used in_gap.ring
    (front_in in_gap by_extent extent_tells c.self.invariant.by_extents
    c.remove.ensures.extents c.add.ensures.extents c.add-2.ensures.extents)
    (front_in in_gap by_front front_tells c.self.invariant.by_fronts
    c.remove.ensures.fronts c.add.ensures.fronts c.add-2.ensures.fronts))

pub returns-clause-owned : goal.returns-clause-owned
returns-clause-owned c =
    let inside = c.self.inside in
    let at = (goal.at.returns-clause-owned c).After-index-2 in
    let in_gap = amid at (omega (arith, c.if-room-need.false, c.saturating_sub-room.ensures, c.requires.need)) in
    ap (λ (owned : Owned). record { arena = inside.arena; slots = inside.slots; owned = owned })
    (ap (λ (nodes : List Node). owned_by (in_order nodes inside.slots)) (table c)
    ∙ amid_owned in_gap)
    ∙ ap (λ (layout : Layout). with_region layout c.args.owner (record { start = c.args.offset; extent = c.args.need })) c.self.view_is

pub returns-clause-tiles : goal.returns-clause-tiles
returns-clause-tiles c =
    let inside = c.self.inside in
    tiles_kept (with_items inside.nodes c.link.new.nodes).items inside.arena inside.slots c.add-2.new.self.extents c.add-2.new.self.fronts (invariant_of-self c)

pub returns-clause-free : goal.returns-clause-free
returns-clause-free c =
    let region : Region = record { start = c.args.offset; extent = c.args.need } in
    (λ _. was_free c.args.self.now c.args.owner region c.requires.none (subst Tiles (returns-clause-owned c) (returns-clause-tiles c)), λ _. refl)
