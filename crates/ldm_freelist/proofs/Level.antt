-- A node over two trees whose heights are near is balanced.
use Rattle.std.proofs.Common.{◌≡◌, ℕ, List, refl, arith}
use Rattle.ldm_freelist.specs.Nodes.{pair_at, joined, CanJoin}
use Rattle.ldm_freelist.specs.Tree.{Tree, Fork, height, pairs_of, IsLoose, IsBalancedOver, DifferByAtMost}
use Rattle.ldm_freelist.specs.declared.node_table.Node.{Node}
use Rattle.ldm_freelist.proofs.Order.{cut}
use Rattle.ldm_freelist.proofs.Built.{AreBuilt, both_untouched, can_fork, forked, over}

module _ {nodes : List Node} {number left right : ℕ} {less more : Tree} (loose : IsLoose nodes number left right less more) where
  below : AreBuilt nodes nodes less more
  below = both_untouched loose.left_tree.spelled loose.right_tree.spelled

  pub can_level : CanJoin nodes number left right
  can_level = can_fork below loose.is_number loose.left_tree.root_is loose.right_tree.root_is (omega (arith, loose.low))

  pub level : {new : List Node} → new ≡ joined nodes number left right → DifferByAtMost 1 (height less) (height more) → (made : Tree) × IsBalancedOver nodes new number number less more made
  level is near = (
    Fork number (pair_at nodes number) less more,
    over (forked below loose.is_number (cut (pairs_of less) (pair_at nodes number) (pairs_of more) loose.rising) loose.left_tree.root_is loose.right_tree.root_is is)
        refl refl loose.rising (near, loose.left_tree.balanced, loose.right_tree.balanced) (λ i h. h) (omega arith, omega arith, λ d. refl),
  )
