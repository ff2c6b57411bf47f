-- The rotations where one tree is two higher, and its inner side is the higher one: that side's root gets above both nodes.
use Rattle.std.proofs.Common.{◌≡◌, ℕ, inl, inr, ◌+◌, ◌<◌, max, List, ◌∷◌, ◌++◌, refl, sym, ap, ◌∙◌, subst, arith}
use Rattle.std.specs.List.{AllByRecursion}
use Rattle.std.specs.declared.cmp.Ordering.TheVariants.{Less}
use Rattle.ldm_freelist.specs.Pairs.{pair_cmp}
use Rattle.ldm_freelist.specs.Nodes.{node_at, pair_at, joined, CanJoin}
use Rattle.ldm_freelist.specs.Tree.{Tree, Fork, height, root_of, pairs_of, IsNumber, Spells, IsLeaningLeft, IsLeaningRight, IsBalancedOver}
use Rattle.ldm_freelist.specs.declared.node_table.Node.{Node}
use Rattle.ldm_freelist.proofs.Order.{Rises, IsCut, cut, parts_of_all, regroup}
use Rattle.ldm_freelist.proofs.Spelled.{number_kept, left_told, right_told, opened_side}
use Rattle.ldm_freelist.proofs.Built.{IsBuilt, AreBuilt, both_untouched, stays_behind, side_by_side, can_fork, forked, over}

-- a node with two sides, and a node on each side of it that is to get below it, with a tree beyond
pub record IsSpread (nodes : List Node) (front top back : ℕ) (a c d b : Tree) : Type 0 where
  pub front_is : IsNumber nodes front
  pub back_is : IsNumber nodes back
  pub before : Spells nodes a
  pub inner : Spells nodes (Fork top (pair_at nodes top) c d)
  pub behind : Spells nodes b
  pub rising : Rises ((pairs_of a ++ pair_at nodes front ∷ pairs_of c) ++ pair_at nodes top ∷ (pairs_of d ++ pair_at nodes back ∷ pairs_of b))
  pub low : max (max (height a) (height c)) (max (height d) (height b)) + 1 < 255

-- the sides, as the code names them
pub record IsRead (nodes : List Node) (top : ℕ) (a b : Tree) (outer_left inner_left inner_right outer_right : ℕ) : Type 0 where
  pub outer_left_is : outer_left ≡ root_of a
  pub inner_left_is : inner_left ≡ (node_at nodes top).left
  pub inner_right_is : inner_right ≡ (node_at nodes top).right
  pub outer_right_is : outer_right ≡ root_of b

module _ {nodes : List Node} {front top back oa ic id ob : ℕ} {a c d b : Tree} (spread : IsSpread nodes front top back a c d b) (read : IsRead nodes top a b oa ic id ob) where
  abbrev less : Tree
  less = Fork front (pair_at nodes front) a c

  abbrev more : Tree
  more = Fork back (pair_at nodes back) d b

  around : IsCut (pairs_of less) (pair_at nodes top) (pairs_of more)
  around = cut (pairs_of less) (pair_at nodes top) (pairs_of more) spread.rising

  above : AllByRecursion (λ x. pair_cmp (pair_at nodes top) x ≡ Less) (pairs_of d) × (pair_cmp (pair_at nodes top) (pair_at nodes back) ≡ Less)
      × AllByRecursion (λ x. pair_cmp (pair_at nodes top) x ≡ Less) (pairs_of b)
  above = parts_of_all (λ x. pair_cmp (pair_at nodes top) x ≡ Less) (pairs_of d) (pair_at nodes back) (pairs_of b) around.above

  ic_is : ic ≡ root_of c
  ic_is = left_told nodes top (pair_at nodes top) c d spread.inner ic read.inner_left_is

  id_is : id ≡ root_of d
  id_is = right_told nodes top (pair_at nodes top) c d spread.inner id read.inner_right_is

  below : AreBuilt nodes nodes a c
  below = both_untouched spread.before spread.inner.2

  pub join_first : CanJoin nodes front oa ic
  join_first = can_fork below spread.front_is read.outer_left_is ic_is (omega (arith, spread.low))

  module _ {n1 : List Node} (n1_is : n1 ≡ joined nodes front oa ic) where
    first : IsBuilt nodes n1 less
    first = forked below spread.front_is (cut (pairs_of a) (pair_at nodes front) (pairs_of c) around.front) read.outer_left_is ic_is n1_is

    beside : AreBuilt n1 n1 d b
    beside =
        both_untouched
        (stays_behind d (pair_at nodes top) first around.below above.0 spread.inner.3)
        (stays_behind b (pair_at nodes top) first around.below above.2 spread.behind)

    back_number : IsNumber n1 back
    back_number = number_kept first.kept.as_long spread.back_is

    pub join_second : CanJoin n1 back id ob
    join_second = can_fork beside back_number id_is read.outer_right_is (omega (arith, spread.low))

    module _ {n2 : List Node} (n2_is : n2 ≡ joined n1 back id ob) where
      second : IsBuilt n1 n2 more
      second =
          let same = first.kept.same_pairs back in
          subst (λ p. IsBuilt n1 n2 (Fork back p d b)) same
          (forked beside back_number
          (subst (λ p. IsCut (pairs_of d) p (pairs_of b)) (sym same) (cut (pairs_of d) (pair_at nodes back) (pairs_of b) around.back)) id_is read.outer_right_is n2_is)

      both : AreBuilt nodes n2 less more
      both = side_by_side around first second

      pub join_third : CanJoin n2 top front back
      join_third = can_fork both spread.inner.0 refl refl (omega (arith, spread.low))

      pub third : {n3 : List Node} → n3 ≡ joined n2 top front back → IsBuilt nodes n3 (Fork top (pair_at nodes top) less more)
      third n3_is = forked both spread.inner.0 around refl refl n3_is

-- where the left tree is two higher
module _ {nodes : List Node} {number left right o top : ℕ} {outer inner more : Tree} (lean : IsLeaningLeft nodes number left right outer inner more) (high : height outer < height inner)
    (o_is : o ≡ (node_at nodes left).left) (top_is : top ≡ (node_at nodes left).right) where
  pub open_left : (sides : Tree × Tree) × (inner ≡ Fork top (pair_at nodes top) sides.0 sides.1)
  open_left =
      opened_side nodes top inner lean.loose.left_tree.spelled.3 (right_told nodes left (pair_at nodes left) outer inner lean.loose.left_tree.spelled top top_is) (omega (arith, high))

  abbrev left_c : Tree
  left_c = open_left.0.0

  abbrev left_d : Tree
  left_d = open_left.0.1

  lean_left : IsLeaningLeft nodes number left right outer (Fork top (pair_at nodes top) left_c left_d) more
  lean_left = subst (λ t. IsLeaningLeft nodes number left right outer t more) open_left.1 lean

  left_same : (pairs_of outer ++ pair_at nodes left ∷ pairs_of left_c) ++ pair_at nodes top ∷ (pairs_of left_d ++ pair_at nodes number ∷ pairs_of more)
      ≡ (pairs_of outer ++ pair_at nodes left ∷ (pairs_of left_c ++ pair_at nodes top ∷ pairs_of left_d)) ++ pair_at nodes number ∷ pairs_of more
  left_same =
      regroup (pairs_of outer ++ pair_at nodes left ∷ pairs_of left_c) (pair_at nodes top) (pairs_of left_d) (pair_at nodes number) (pairs_of more)
      ∙ ap (λ xs. xs ++ pair_at nodes number ∷ pairs_of more) (sym (regroup (pairs_of outer) (pair_at nodes left) (pairs_of left_c) (pair_at nodes top) (pairs_of left_d)))

  pub spread_left : IsSpread nodes left top number outer left_c left_d more
  spread_left = record {
    front_is = lean_left.loose.left_tree.spelled.0;
    back_is = lean_left.loose.is_number;
    before = lean_left.loose.left_tree.spelled.2;
    inner = lean_left.loose.left_tree.spelled.3;
    behind = lean_left.loose.right_tree.spelled;
    rising = subst Rises (sym left_same) lean_left.loose.rising;
    low = omega (arith, lean_left.loose.low);
  }

  pub read_left : {a b : ℕ} → a ≡ (node_at nodes top).left → b ≡ (node_at nodes top).right → IsRead nodes top outer more o a b right
  read_left a_is b_is = record {
    outer_left_is = left_told nodes left (pair_at nodes left) outer inner lean.loose.left_tree.spelled o o_is;
    inner_left_is = a_is;
    inner_right_is = b_is;
    outer_right_is = lean.loose.right_tree.root_is;
  }

  pub raise_left : {n3 : List Node} → IsBuilt nodes n3 (Fork top (pair_at nodes top) (Fork left (pair_at nodes left) outer left_c) (Fork number (pair_at nodes number) left_d more)) →
      (made : Tree) × IsBalancedOver nodes n3 number top (Fork left (pair_at nodes left) outer inner) more made
  raise_left {n3} built =
      subst (λ t. (made : Tree) × IsBalancedOver nodes n3 number top (Fork left (pair_at nodes left) outer t) more made) (sym open_left.1)
      (by_height (subst (λ t. height outer < height t) open_left.1 high))
    where
      by_height : height outer < height (Fork top (pair_at nodes top) left_c left_d)
          → (made : Tree) × IsBalancedOver nodes n3 number top (Fork left (pair_at nodes left) outer (Fork top (pair_at nodes top) left_c left_d)) more made
      by_height high = (
        Fork top (pair_at nodes top) (Fork left (pair_at nodes left) outer left_c) (Fork number (pair_at nodes number) left_d more),
        over built refl left_same lean_left.loose.rising (
          omega (arith, high, lean_left.higher, lean_left.loose.left_tree.balanced.0, lean_left.loose.left_tree.balanced.2.0),
          (
            omega (arith, high, lean_left.higher, lean_left.loose.left_tree.balanced.0, lean_left.loose.left_tree.balanced.2.0),
            lean_left.loose.left_tree.balanced.1,
            lean_left.loose.left_tree.balanced.2.1,
          ),
          (
            omega (arith, high, lean_left.higher, lean_left.loose.left_tree.balanced.0, lean_left.loose.left_tree.balanced.2.0),
            lean_left.loose.left_tree.balanced.2.2,
            lean_left.loose.right_tree.balanced,
          ),
        )
            (λ k h. elim h [
              | inl e ↦ inr (inl (inr (inr (inl e))))
              | inr (inl (inl e)) ↦ inr (inl (inl e))
              | inr (inl (inr (inl o))) ↦ inr (inl (inr (inl o)))
              | inr (inl (inr (inr b))) ↦ inr (inl (inr (inr (inr (inl b)))))
              | inr (inr (inl e)) ↦ inl e
              | inr (inr (inr (inl b))) ↦ inr (inl (inr (inr (inr (inr b)))))
              | inr (inr (inr (inr m))) ↦ inr (inr m)
            ]) (
              omega (arith, high, lean_left.higher, lean_left.loose.left_tree.balanced.0, lean_left.loose.left_tree.balanced.2.0),
              omega (arith, high, lean_left.higher, lean_left.loose.left_tree.balanced.0, lean_left.loose.left_tree.balanced.2.0),
              λ e. absurd (omega (arith, e.0, lean_left.higher)),
            ),
      )

-- where the right tree is two higher
module _ {nodes : List Node} {number left right o top : ℕ} {less inner outer : Tree} (lean : IsLeaningRight nodes number left right less inner outer) (high : height outer < height inner)
    (o_is : o ≡ (node_at nodes right).right) (top_is : top ≡ (node_at nodes right).left) where
  pub open_right : (sides : Tree × Tree) × (inner ≡ Fork top (pair_at nodes top) sides.0 sides.1)
  open_right =
      opened_side nodes top inner lean.loose.right_tree.spelled.2 (left_told nodes right (pair_at nodes right) inner outer lean.loose.right_tree.spelled top top_is) (omega (arith, high))

  abbrev right_c : Tree
  right_c = open_right.0.0

  abbrev right_d : Tree
  right_d = open_right.0.1

  lean_right : IsLeaningRight nodes number left right less (Fork top (pair_at nodes top) right_c right_d) outer
  lean_right = subst (λ t. IsLeaningRight nodes number left right less t outer) open_right.1 lean

  right_same : (pairs_of less ++ pair_at nodes number ∷ pairs_of right_c) ++ pair_at nodes top ∷ (pairs_of right_d ++ pair_at nodes right ∷ pairs_of outer)
      ≡ pairs_of less ++ pair_at nodes number ∷ ((pairs_of right_c ++ pair_at nodes top ∷ pairs_of right_d) ++ pair_at nodes right ∷ pairs_of outer)
  right_same =
      sym (regroup (pairs_of less) (pair_at nodes number) (pairs_of right_c) (pair_at nodes top) (pairs_of right_d ++ pair_at nodes right ∷ pairs_of outer))
      ∙ ap (λ xs. pairs_of less ++ pair_at nodes number ∷ xs) (regroup (pairs_of right_c) (pair_at nodes top) (pairs_of right_d) (pair_at nodes right) (pairs_of outer))

  pub spread_right : IsSpread nodes number top right less right_c right_d outer
  spread_right = record {
    front_is = lean_right.loose.is_number;
    back_is = lean_right.loose.right_tree.spelled.0;
    before = lean_right.loose.left_tree.spelled;
    inner = lean_right.loose.right_tree.spelled.2;
    behind = lean_right.loose.right_tree.spelled.3;
    rising = subst Rises (sym right_same) lean_right.loose.rising;
    low = omega (arith, lean_right.loose.low);
  }

  pub read_right : {a b : ℕ} → a ≡ (node_at nodes top).left → b ≡ (node_at nodes top).right → IsRead nodes top less outer left a b o
  read_right a_is b_is = record {
    outer_left_is = lean.loose.left_tree.root_is;
    inner_left_is = a_is;
    inner_right_is = b_is;
    outer_right_is = right_told nodes right (pair_at nodes right) inner outer lean.loose.right_tree.spelled o o_is;
  }

  pub raise_right : {n3 : List Node} → IsBuilt nodes n3 (Fork top (pair_at nodes top) (Fork number (pair_at nodes number) less right_c) (Fork right (pair_at nodes right) right_d outer)) →
      (made : Tree) × IsBalancedOver nodes n3 number top less (Fork right (pair_at nodes right) inner outer) made
  raise_right {n3} built =
      subst (λ t. (made : Tree) × IsBalancedOver nodes n3 number top less (Fork right (pair_at nodes right) t outer) made) (sym open_right.1)
      (by_height (subst (λ t. height outer < height t) open_right.1 high))
    where
      by_height : height outer < height (Fork top (pair_at nodes top) right_c right_d)
          → (made : Tree) × IsBalancedOver nodes n3 number top less (Fork right (pair_at nodes right) (Fork top (pair_at nodes top) right_c right_d) outer) made
      by_height high = (
        Fork top (pair_at nodes top) (Fork number (pair_at nodes number) less right_c) (Fork right (pair_at nodes right) right_d outer),
        over built refl right_same lean_right.loose.rising (
          omega (arith, high, lean_right.higher, lean_right.loose.right_tree.balanced.0, lean_right.loose.right_tree.balanced.1.0),
          (
            omega (arith, high, lean_right.higher, lean_right.loose.right_tree.balanced.0, lean_right.loose.right_tree.balanced.1.0),
            lean_right.loose.left_tree.balanced,
            lean_right.loose.right_tree.balanced.1.1,
          ),
          (
            omega (arith, high, lean_right.higher, lean_right.loose.right_tree.balanced.0, lean_right.loose.right_tree.balanced.1.0),
            lean_right.loose.right_tree.balanced.1.2,
            lean_right.loose.right_tree.balanced.2,
          ),
        )
            (λ k h. elim h [
              | inl e ↦ inr (inr (inr (inl (inl e))))
              | inr (inl (inl e)) ↦ inl e
              | inr (inl (inr (inl l))) ↦ inr (inl l)
              | inr (inl (inr (inr b))) ↦ inr (inr (inr (inl (inr (inl b)))))
              | inr (inr (inl e)) ↦ inr (inr (inl e))
              | inr (inr (inr (inl b))) ↦ inr (inr (inr (inl (inr (inr b)))))
              | inr (inr (inr (inr o))) ↦ inr (inr (inr (inr o)))
            ]) (
              omega (arith, high, lean_right.higher, lean_right.loose.right_tree.balanced.0, lean_right.loose.right_tree.balanced.1.0),
              omega (arith, high, lean_right.higher, lean_right.loose.right_tree.balanced.0, lean_right.loose.right_tree.balanced.1.0),
              λ e. absurd (omega (arith, e.1, lean_right.higher)),
            ),
      )
