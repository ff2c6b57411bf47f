use Rattle.std.proofs.Common.{false, ℕ, length, slice_index_or, refl, sym, subst, ◌∙◌}
use Rattle.std.specs.List.{filter}
use Rattle.ldm_types.specs.Arena.{longest}
use Rattle.ldm_regions.specs.Order.{Used, spaces}
use Rattle.ldm_regions.specs.Links.{node_at, in_order}
use Rattle.ldm_regions.proofs.Ways.{Walked, walked_first, walked_skipped, walked_marked, next_behind, next_fewer}
use Rattle.ldm_regions.proofs.links.longest_space_if.Goals as goal
use Rattle.ldm_regions.proofs.links.longest_space_if.Goals.{then-marked, else-marked}

pub loop-owner-init : goal.loop-owner-init
loop-owner-init c = walked_first (λ u. slice_index_or c.args.marks.now u.owner false) c.args.nodes.now (length c.args.marks.now) c.args.arena c.requires

pub overflow_sub-node : goal.overflow_sub-node
overflow_sub-node c =
    next_behind (λ u. slice_index_or c.args.marks.now u.owner false) c.args.nodes.now (length c.args.marks.now) c.args.arena c.loop-owner.owner c.loop-owner.from c.loop-owner.longest _ c.loop-owner.invariant c.loop-owner-test.true

pub loop-owner-smaller : goal.loop-owner-smaller
loop-owner-smaller c =
    next_fewer (λ u. slice_index_or c.args.marks.now u.owner false) c.args.nodes.now (length c.args.marks.now) c.args.arena c.loop-owner.owner c.loop-owner.from c.loop-owner.longest _ c.loop-owner.invariant c.loop-owner-test.true

pub loop-owner-preserved : goal.loop-owner-preserved
loop-owner-preserved c =
    let marks = c.args.marks.now in
    let nodes = c.args.nodes.now in
    let wall = length marks in
    let arena = c.args.arena in
    let owner = c.loop-owner.owner in
    let p = λ (u : Used). slice_index_or marks u.owner false in
    let q = λ (n : ℕ). slice_index_or marks n false in
    let total = longest (spaces 0 (filter p (in_order nodes wall)) arena) in
    let behind = (node_at nodes owner).behind in
    elim c.if-marked.branch [
      | then-marked w ↦
          let on = walked_marked p nodes wall arena owner c.loop-owner.from c.loop-owner.longest total c.loop-owner.invariant c.loop-owner-test.true q (λ u. refl) w.if-marked.true in
          subst (λ n. Walked p nodes wall arena behind n c.if-marked.longest total) (sym w.from-is)
          (subst (λ n. Walked p nodes wall arena behind (node_at nodes owner).end n total) (sym (w.longest-is ∙ w.max-longest.ensures)) on)
      | else-marked w ↦
          let on = walked_skipped p nodes wall arena owner c.loop-owner.from c.loop-owner.longest total c.loop-owner.invariant c.loop-owner-test.true q (λ u. refl) w.if-marked.false in
          subst (λ n. Walked p nodes wall arena behind n c.if-marked.longest total) (sym w.from-is)
          (subst (λ n. Walked p nodes wall arena behind c.loop-owner.from n total) (sym w.longest-is) on)
    ]
