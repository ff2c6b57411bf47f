-- The rotation where the left tree is two higher, and its outer side no lower than its inner one.
use Rattle.std.proofs.Common.{◌≡◌, ℕ, inl, inr, ◌≤◌, List, ◌∷◌, ◌++◌, refl, sym, subst, arith}
use Rattle.ldm_freelist.specs.Nodes.{node_at, pair_at, joined, CanJoin}
use Rattle.ldm_freelist.specs.Tree.{Tree, Fork, height, pairs_of, IsLeaningLeft, IsBalancedOver}
use Rattle.ldm_freelist.specs.declared.node_table.Node.{Node}
use Rattle.ldm_freelist.proofs.Order.{Rises, IsCut, cut, regroup}
use Rattle.ldm_freelist.proofs.Spelled.{left_told, right_told}
use Rattle.ldm_freelist.proofs.Built.{AreBuilt, untouched, both_untouched, side_by_side, can_fork, forked, over}

-- the sides are named as the code reads them
module _ {nodes : List Node} {number left right o i : ℕ} {outer inner more : Tree} (lean : IsLeaningLeft nodes number left right outer inner more)
    (o_is : o ≡ (node_at nodes left).left) (i_is : i ≡ (node_at nodes left).right) where
  abbrev lp : ℕ × ℕ
  lp = pair_at nodes left

  abbrev p : ℕ × ℕ
  p = pair_at nodes number

  abbrev back : Tree
  back = Fork number p inner more

  same : pairs_of (Fork left lp outer back) ≡ pairs_of (Fork left lp outer inner) ++ p ∷ pairs_of more
  same = regroup (pairs_of outer) lp (pairs_of inner) p (pairs_of more)

  around : IsCut (pairs_of outer) lp (pairs_of back)
  around = cut (pairs_of outer) lp (pairs_of back) (subst Rises (sym same) lean.loose.rising)

  below : AreBuilt nodes nodes inner more
  below = both_untouched lean.loose.left_tree.spelled.3 lean.loose.right_tree.spelled

  pub join_first : CanJoin nodes number i right
  join_first =
      can_fork below lean.loose.is_number (right_told nodes left lp outer inner lean.loose.left_tree.spelled i i_is) lean.loose.right_tree.root_is
      (omega (arith, lean.loose.low))

  first : (mid : List Node) → mid ≡ joined nodes number i right → AreBuilt nodes mid outer back
  first mid mid_is =
      side_by_side around (untouched lean.loose.left_tree.spelled.2)
      (forked below lean.loose.is_number (cut (pairs_of inner) p (pairs_of more) around.back)
      (right_told nodes left lp outer inner lean.loose.left_tree.spelled i i_is) lean.loose.right_tree.root_is mid_is)

  pub join_second : (mid : List Node) → mid ≡ joined nodes number i right → CanJoin mid left o number
  join_second mid mid_is =
      can_fork (first mid mid_is) lean.loose.left_tree.spelled.0 (left_told nodes left lp outer inner lean.loose.left_tree.spelled o o_is) refl
      (omega (arith, lean.loose.low))

  pub raise : (mid new : List Node) → mid ≡ joined nodes number i right → new ≡ joined mid left o number → height inner ≤ height outer →
      (made : Tree) × IsBalancedOver nodes new number left (Fork left lp outer inner) more made
  raise mid new mid_is new_is high = (
    Fork left lp outer back,
    over
        (forked (first mid mid_is) lean.loose.left_tree.spelled.0 around
        (left_told nodes left lp outer inner lean.loose.left_tree.spelled o o_is) refl new_is)
        refl same lean.loose.rising (
          omega (arith, high, lean.higher, lean.loose.left_tree.balanced.0),
          lean.loose.left_tree.balanced.1,
          (omega (arith, high, lean.higher, lean.loose.left_tree.balanced.0), lean.loose.left_tree.balanced.2, lean.loose.right_tree.balanced),
        )
        (λ k h. elim h [
          | inl e ↦ inr (inl (inl e))
          | inr (inl a) ↦ inr (inl (inr (inl a)))
          | inr (inr (inl e)) ↦ inl e
          | inr (inr (inr (inl b))) ↦ inr (inl (inr (inr b)))
          | inr (inr (inr (inr m))) ↦ inr (inr m)
        ])
        (omega (arith, high, lean.higher, lean.loose.left_tree.balanced.0), omega (arith, high, lean.higher, lean.loose.left_tree.balanced.0), λ d. absurd (omega (arith, d.0, lean.higher))),
  )
