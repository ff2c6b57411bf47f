use Rattle.std.proofs.Common.{◌≡◌, ◌<◌, List, is_some, sym, ap, ◌∙◌, subst, arith, length}
use Rattle.std.specs.FinMap as map
use Rattle.std.specs.Vec.{with_items}
use Rattle.std.proofs.lemmas.List.{with_items_is}
use Rattle.ldm_regions.specs.Layout.{Layout, Owned, without_owner}
use Rattle.ldm_regions.specs.Gaps.{by_extent, by_front}
use Rattle.ldm_regions.specs.Kept.{IsKept}
use Rattle.ldm_regions.specs.Links.{node_at, in_order, unlinked}
use Rattle.ldm_regions.specs.declared.links.Node.{Node}
use Rattle.ldm_regions.specs.declared.gaps.Gap.{Gap}
use Rattle.ldm_regions.proofs.Owners.{owned_by}
use Rattle.ldm_regions.proofs.Sets.{extent_tells, front_tells}
use Rattle.ldm_regions.proofs.Arenas.{tiles_kept, kept_from}
use Rattle.ldm_regions.proofs.Joint.{Joint, in_table, front_read, behind_read, joint_of, joint_owned, one_there, two_there, both_new, both_in}
use Rattle.ldm_regions.proofs.regions.Regions.give_back.Goals as goal
use Rattle.ldm_regions.proofs.regions.Regions.give_back.Goals.{After-index-2, After-add}

pub index-node-requires : goal.index-node-requires
index-node-requires c =
    let inside = c.self.inside in
    let there = ap (λ (layout : Layout). is_some (map.get layout.owned c.args.owner)) c.self.view_is ∙ c.requires in
    let within = (in_table inside.nodes.items inside.arena inside.slots c.args.owner c.self.invariant.ring there).inside in
    omega (arith, inside.nodes.ok.0)

pub index-requires : goal.index-requires
index-requires c =
    let inside = c.self.inside in
    let there = ap (λ (layout : Layout). is_some (map.get layout.owned c.args.owner)) c.self.view_is ∙ c.requires in
    let within = front_read inside.nodes.items inside.arena inside.slots c.args.owner c.self.invariant.ring there c.index-node.result.now c.index-node.ensures in
    omega (arith, inside.nodes.ok.0)

pub index-requires-2 : goal.index-requires-2
index-requires-2 c =
    let inside = c.self.inside in
    let there = ap (λ (layout : Layout). is_some (map.get layout.owned c.args.owner)) c.self.view_is ∙ c.requires in
    let within = behind_read inside.nodes.items inside.arena inside.slots c.args.owner c.self.invariant.ring there c.index-node.result.now c.index-node.ensures in
    omega (arith, inside.nodes.ok.0)

-- the gaps in front and behind, and what they become
abbrev one_of : After-index-2 → Gap
one_of c = record { start = c.index.result.now.end; end = c.index-node.result.now.start; front = c.index-node.result.now.front }

abbrev two_of : After-index-2 → Gap
two_of c = record { start = c.index-node.result.now.end; end = c.index-2.result.now.start; front = c.args.owner }

abbrev both_of : After-index-2 → Gap
both_of c = record { start = c.index.result.now.end; end = c.index-2.result.now.start; front = c.index-node.result.now.front }

joint : (c : After-index-2) → Joint c.self.inside.nodes.items c.self.inside.arena c.self.inside.slots c.args.owner (one_of c) (two_of c) (both_of c)
joint c =
    let inside = c.self.inside in
    let there = ap (λ (layout : Layout). is_some (map.get layout.owned c.args.owner)) c.self.view_is ∙ c.requires in
    joint_of inside.nodes.items inside.arena inside.slots c.args.owner c.self.invariant.ring there
    c.index-node.result.now c.index-node.ensures c.index.result.now c.index-2.result.now c.index.ensures c.index-2.ensures

pub remove-requires-clause-extents : goal.remove-requires-clause-extents
remove-requires-clause-extents c =
    one_there (joint (goal.at.remove-requires-clause-extents c).After-index-2) by_extent extent_tells c.self.invariant.by_extents

pub remove-requires-2-clause-extents : goal.remove-requires-2-clause-extents
remove-requires-2-clause-extents c =
    two_there (joint (goal.at.remove-requires-2-clause-extents c).After-index-2) by_extent extent_tells c.self.invariant.by_extents c.remove.ensures.extents

pub add-requires-clause-extents : goal.add-requires-clause-extents
add-requires-clause-extents c =
    both_new (joint (goal.at.add-requires-clause-extents c).After-index-2) by_extent extent_tells c.self.invariant.by_extents c.remove.ensures.extents c.remove-2.ensures.extents

pub remove-requires-clause-fronts : goal.remove-requires-clause-fronts
remove-requires-clause-fronts c =
    one_there (joint (goal.at.remove-requires-clause-fronts c).After-index-2) by_front front_tells c.self.invariant.by_fronts

pub remove-requires-2-clause-fronts : goal.remove-requires-2-clause-fronts
remove-requires-2-clause-fronts c =
    two_there (joint (goal.at.remove-requires-2-clause-fronts c).After-index-2) by_front front_tells c.self.invariant.by_fronts c.remove.ensures.fronts

pub add-requires-clause-fronts : goal.add-requires-clause-fronts
add-requires-clause-fronts c =
    both_new (joint (goal.at.add-requires-clause-fronts c).After-index-2) by_front front_tells c.self.invariant.by_fronts c.remove.ensures.fronts c.remove-2.ensures.fronts

pub unlink-requires-clause-owner : goal.unlink-requires-clause-owner
unlink-requires-clause-owner c =
    let within = (joint (goal.at.unlink-requires-clause-owner c).After-index-2).inside in
    omega (arith, ap length c.deref_mut.ensures.value)

pub unlink-requires-clause-front : goal.unlink-requires-clause-front
unlink-requires-clause-front c =
    let within = (joint (goal.at.unlink-requires-clause-front c).After-index-2).front_inside in
    subst (λ (nodes : List Node). (node_at nodes c.args.owner).front < length nodes) (sym c.deref_mut.ensures.value) within

pub unlink-requires-clause-behind : goal.unlink-requires-clause-behind
unlink-requires-clause-behind c =
    let within = (joint (goal.at.unlink-requires-clause-behind c).After-index-2).behind_inside in
    subst (λ (nodes : List Node). (node_at nodes c.args.owner).behind < length nodes) (sym c.deref_mut.ensures.value) within

-- the table as it is written back
table : (c : After-add) → (with_items c.self.inside.nodes c.unlink.new.nodes).items ≡ unlinked c.self.inside.nodes.items c.args.owner
table c =
    with_items_is c.self.inside.nodes c.unlink.new.nodes (omega (arith, c.unlink.auto.nodes, ap length c.deref_mut.ensures.value, c.self.inside.nodes.ok.0))
    ∙ c.unlink.ensures ∙ ap (λ (nodes : List Node). unlinked nodes c.args.owner) c.deref_mut.ensures.value

pub invariant_of-self : goal.invariant_of-self
invariant_of-self c =
    let inside = c.self.inside in
    let at = (goal.at.invariant_of-self c).After-index-2 in
    let left = joint at in
    subst (λ (nodes : List Node). IsKept nodes inside.arena inside.slots c.add.new.self.extents c.add.new.self.fronts) (sym (table c))
    (kept_from (unlinked inside.nodes.items c.args.owner) inside.arena inside.slots c.add.new.self.extents c.add.new.self.fronts left.left left.ring
    (both_in left by_extent extent_tells c.self.invariant.by_extents
    c.remove.ensures.extents c.remove-2.ensures.extents c.add.ensures.extents)
    (both_in left by_front front_tells c.self.invariant.by_fronts
    c.remove.ensures.fronts c.remove-2.ensures.fronts c.add.ensures.fronts))

pub returns-clause-owned : goal.returns-clause-owned
returns-clause-owned c =
    let inside = c.self.inside in
    let at = (goal.at.returns-clause-owned c).After-index-2 in
    ap (λ (owned : Owned). record { arena = inside.arena; slots = inside.slots; owned = owned })
    (ap (λ (nodes : List Node). owned_by (in_order nodes inside.slots)) (table c) ∙ joint_owned (joint at))
    ∙ ap (λ (layout : Layout). without_owner layout c.args.owner) c.self.view_is

pub returns-clause-tiles : goal.returns-clause-tiles
returns-clause-tiles c =
    let inside = c.self.inside in
    tiles_kept (with_items inside.nodes c.unlink.new.nodes).items inside.arena inside.slots c.add.new.self.extents c.add.new.self.fronts (invariant_of-self c)
