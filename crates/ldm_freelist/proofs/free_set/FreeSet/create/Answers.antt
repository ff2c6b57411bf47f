use Rattle.std.proofs.Common.{ℕ, ◌≤◌, List, length, sym, ap, ◌∙◌, subst, arith}
use Rattle.std.specs.FinSet as set
use Rattle.ldm_freelist.specs.Pairs.{Pairs, pair_cmp}
use Rattle.ldm_freelist.specs.Nodes.{free_nodes}
use Rattle.ldm_freelist.specs.Tree.{Leaf, pairs_of}
use Rattle.ldm_freelist.specs.Held.{tree_at, IsHeld}
use Rattle.ldm_freelist.specs.declared.node_table.Node.{Node}
use Rattle.ldm_freelist.specs.declared.node_table.TheConstants.{NONE}
use Rattle.ldm_freelist.proofs.Held.{made_held, down_from, tree_at_is, length-free_nodes}
use Rattle.ldm_freelist.proofs.free_set.FreeSet.create.Goals as goal

pub invariant_of-result : goal.invariant_of-result
invariant_of-result c =
    let room : c.args.room ≤ NONE = omega arith in (
      Leaf,
      (
        down_from c.args.room,
        subst (λ ns. IsHeld ns NONE c.number_before.result Leaf (down_from c.args.room)) (sym c.in_ok-create.ensures)
            (subst (λ n. IsHeld (free_nodes c.args.room) NONE n Leaf (down_from c.args.room)) (sym c.number_before.ensures) (made_held c.args.room room)),
      ),
    )

pub returns : goal.returns
returns c =
    let room : c.args.room ≤ NONE = omega arith in
    let seen : List Node → Pairs = λ ns. record { room = length ns; members = set.from_list {R = pair_cmp} (pairs_of (tree_at ns NONE)) } in
    ap seen c.in_ok-create.ensures
    ∙ ap (λ (n : ℕ). let s : Pairs = record { room = n; members = set.from_list {R = pair_cmp} (pairs_of (tree_at (free_nodes c.args.room) NONE)) } in s) (length-free_nodes c.args.room)
    ∙ ap (λ t. let s : Pairs = record { room = c.args.room; members = set.from_list {R = pair_cmp} (pairs_of t) } in s)
    (tree_at_is (free_nodes c.args.room) NONE Leaf (made_held c.args.room room).tree_is)
