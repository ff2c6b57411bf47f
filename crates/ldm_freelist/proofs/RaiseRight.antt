-- The rotation where the right tree is two higher, and its outer side no lower than its inner one.
use Rattle.std.proofs.Common.{◌≡◌, ℕ, inl, inr, ◌≤◌, List, ◌∷◌, ◌++◌, refl, sym, subst, arith}
use Rattle.ldm_freelist.specs.Nodes.{node_at, pair_at, joined, CanJoin}
use Rattle.ldm_freelist.specs.Tree.{Tree, Fork, height, pairs_of, IsLeaningRight, IsBalancedOver}
use Rattle.ldm_freelist.specs.declared.node_table.Node.{Node}
use Rattle.ldm_freelist.proofs.Order.{Rises, IsCut, cut, regroup}
use Rattle.ldm_freelist.proofs.Spelled.{left_told, right_told}
use Rattle.ldm_freelist.proofs.Built.{AreBuilt, untouched, both_untouched, stays_behind, side_by_side, can_fork, forked, over}

-- the sides are named as the code reads them
module _ {nodes : List Node} {number left right o i : ℕ} {less inner outer : Tree} (lean : IsLeaningRight nodes number left right less inner outer)
    (o_is : o ≡ (node_at nodes right).right) (i_is : i ≡ (node_at nodes right).left) where
  abbrev rp : ℕ × ℕ
  rp = pair_at nodes right

  abbrev p : ℕ × ℕ
  p = pair_at nodes number

  abbrev front : Tree
  front = Fork number p less inner

  same : pairs_of (Fork right rp front outer) ≡ pairs_of less ++ p ∷ pairs_of (Fork right rp inner outer)
  same = sym (regroup (pairs_of less) p (pairs_of inner) rp (pairs_of outer))

  around : IsCut (pairs_of front) rp (pairs_of outer)
  around = cut (pairs_of front) rp (pairs_of outer) (subst Rises (sym same) lean.loose.rising)

  below : AreBuilt nodes nodes less inner
  below = both_untouched lean.loose.left_tree.spelled lean.loose.right_tree.spelled.2

  pub join_first : CanJoin nodes number left i
  join_first =
      can_fork below lean.loose.is_number lean.loose.left_tree.root_is (left_told nodes right rp inner outer lean.loose.right_tree.spelled i i_is)
      (omega (arith, lean.loose.low))

  first : (mid : List Node) → mid ≡ joined nodes number left i → AreBuilt nodes mid front outer
  first mid mid_is =
      let built = forked below lean.loose.is_number (cut (pairs_of less) p (pairs_of inner) around.front) lean.loose.left_tree.root_is
      (left_told nodes right rp inner outer lean.loose.right_tree.spelled i i_is) mid_is in
      side_by_side around built
      (untouched (stays_behind outer rp built around.below around.above lean.loose.right_tree.spelled.3))

  pub join_second : (mid : List Node) → mid ≡ joined nodes number left i → CanJoin mid right number o
  join_second mid mid_is =
      can_fork (first mid mid_is) lean.loose.right_tree.spelled.0 refl (right_told nodes right rp inner outer lean.loose.right_tree.spelled o o_is)
      (omega (arith, lean.loose.low))

  pub raise : (mid new : List Node) → mid ≡ joined nodes number left i → new ≡ joined mid right number o → height inner ≤ height outer →
      (made : Tree) × IsBalancedOver nodes new number right less (Fork right rp inner outer) made
  raise mid new mid_is new_is high = (
    Fork right rp front outer,
    over
        (forked (first mid mid_is) lean.loose.right_tree.spelled.0 around refl
        (right_told nodes right rp inner outer lean.loose.right_tree.spelled o o_is) new_is)
        refl same lean.loose.rising (
          omega (arith, high, lean.higher, lean.loose.right_tree.balanced.0),
          (omega (arith, high, lean.higher, lean.loose.right_tree.balanced.0), lean.loose.left_tree.balanced, lean.loose.right_tree.balanced.1),
          lean.loose.right_tree.balanced.2,
        )
        (λ k h. elim h [
          | inl e ↦ inr (inr (inl e))
          | inr (inl (inl e)) ↦ inl e
          | inr (inl (inr (inl l))) ↦ inr (inl l)
          | inr (inl (inr (inr b))) ↦ inr (inr (inr (inl b)))
          | inr (inr a) ↦ inr (inr (inr (inr a)))
        ])
        (omega (arith, high, lean.higher, lean.loose.right_tree.balanced.0), omega (arith, high, lean.higher, lean.loose.right_tree.balanced.0), λ d. absurd (omega (arith, d.1, lean.higher))),
  )
